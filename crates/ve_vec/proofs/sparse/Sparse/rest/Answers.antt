use Rattle.std.proofs.Common.{◌≡◌, ℕ, List, ◌-◌, ◌∙◌, drop, length, take, sym, ap}
use Rattle.std.proofs.lemmas.List.{take_rest, drop-map}
use Rattle.ve_theory.specs.Combinations.{Combination}
use Rattle.ve_vec.specs.declared.term.Term.{Term}
use Rattle.ve_vec.specs.Terms.{pair_of, pairs}
use Rattle.ve_vec.proofs.ReducedLists.{IsReduced-drop}
use Rattle.ve_vec.proofs.sparse.Sparse.rest.Goals as goal

pairs_of_rest : (n : ℕ) (xs items all : List Term) (v : Combination ℕ) → items ≡ take (length xs - n) (drop n xs) → xs ≡ all → pairs all ≡ v → pairs items ≡ drop n v
pairs_of_rest n xs items all v copied same view = ap pairs (copied ∙ take_rest xs n ∙ ap (drop n) same) ∙ sym (drop-map pair_of n all) ∙ ap (drop n) view

pub invariant_of-result : goal.invariant_of-result
invariant_of-result c = (
  c.self.invariant.0,
  rw (pairs_of_rest c.args.from _ _ _ _ c.in_ok-terms.ensures c.as_slice.ensures c.self.view_is)
      (IsReduced-drop c.self.invariant.0 c.args.from _ (rw c.self.view_is at c.self.invariant.1)),
)

pub returns-clause-rest : goal.returns-clause-rest
returns-clause-rest c = pairs_of_rest c.args.from _ _ _ _ c.in_ok-terms.ensures c.as_slice.ensures c.self.view_is

pub returns-clause-fits : goal.returns-clause-fits
returns-clause-fits c p reduced =
    rw (pairs_of_rest c.args.from _ _ _ _ c.in_ok-terms.ensures c.as_slice.ensures c.self.view_is) (IsReduced-drop p c.args.from _ reduced)
