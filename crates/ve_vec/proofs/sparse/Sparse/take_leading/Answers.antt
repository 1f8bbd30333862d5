use Rattle.std.proofs.Common.{◌≡◌, ℕ, ◌<◌, List, [], ◌∷◌}
use Rattle.std.specs.List.{remove}
use Rattle.ve_theory.specs.Combinations.{IsReduced}
use Rattle.ve_vec.specs.declared.term.Term.{Term}
use Rattle.ve_vec.specs.Terms.{pairs}
use Rattle.ve_vec.proofs.sparse.Sparse.take_leading.Goals as goal

IsReduced-rest : (p : ℕ) (items new : List Term) → new ≡ remove items 0 → IsReduced ◌<◌ p (pairs items) → IsReduced ◌<◌ p (pairs new)
unfolding IsReduced
IsReduced-rest p [] new new_is reduced = rw new_is reduced
IsReduced-rest p (x ∷ items) new new_is reduced = rw new_is reduced.3

pub invariant_of-self : goal.invariant_of-self
invariant_of-self c = (c.self.invariant.0, IsReduced-rest _ _ _ c.remove.ensures.terms c.self.invariant.1)
