use Rattle.std.proofs.Common.{sym, ap, ◌∙◌}
use Rattle.ve_vec.specs.Terms.{pairs}
use Rattle.ve_vec.proofs.Substituting.{coefficient-around}
use Rattle.ve_vec.proofs.sparse.Sparse.coef_of.Goals as goal

pub returns-in-Some : goal.returns-in-Some
returns-in-Some c =
    sym (rw (← c.self.view_is)
    (coefficient-around c.self.invariant.0 _ _ _ _ _ c.self.invariant.1 (ap pairs (sym c.as_slice.ensures) ∙ c.in-Some.ensures.whole) c.in-Some.ensures.above))
