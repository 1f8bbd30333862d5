use Rattle.std.proofs.Common.{refl, sym, true≢false}
use Rattle.ve_core.proofs.state.CoreState.can_conclude.Goals as goal

pub returns-in-None : goal.returns-in-None
returns-in-None c = (λ yes. absurd (true≢false (sym yes)), λ allowed. absurd (c.in-None.ensures.none refl allowed.2.0 allowed.2.1))
