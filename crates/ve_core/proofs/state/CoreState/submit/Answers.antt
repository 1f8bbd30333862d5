use Rattle.std.proofs.Common.{refl, sym, true≢false}
use Rattle.ve_core.proofs.state.CoreState.submit.Goals as goal

pub returns-in_default-sum-clause-ok : goal.returns-in_default-sum-clause-ok
returns-in_default-sum-clause-ok c = record {
  moves = λ yes. absurd (true≢false (sym yes));
  refused = λ _ allowed. c.in_default-sum.ensures.none refl allowed.2.0 allowed.2.1;
  stays = λ _. refl;
}
