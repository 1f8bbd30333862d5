use Rattle.std.proofs.Common.{ℕ, ◌+◌, ◌%◌, ◌<◌, ◌≤◌, IsTrue, nat_eq, ap, ◌∙◌}
use Rattle.std.proofs.lemmas.List.Elements.{All-append}
use Rattle.ve_theory.proofs.Sums.{Alike_from_weights, weights_from_Alike, Decides-nat_eq}
use Rattle.ve_settle.proofs.Heaps.{merged, shorter, taken_all}
use Rattle.ve_settle.proofs.SortedTerms.{parts_all, taken_behind}
use Rattle.ve_settle.proofs.falling.FallingSum.pop.Goals as goal

pub loop-further-init : goal.loop-further-init
loop-further-init c =
    let taken = c.take_sorted-coef.ensures in
    record {
      field = taken.field;
      residue = rw taken.field taken.residue;
      upper = rw taken.loose (parts_all (λ t. t.0 ≤ c.in_ok-id.id) _ _ c.in_ok-id.ensures.upper).1;
      below = taken.below;
      sum = weights_from_Alike nat_eq Decides-nat_eq _ _ _ taken.sum;
      ids = taken.ids;
    }

pub loop-further-smaller : goal.loop-further-smaller
loop-further-smaller c = shorter _ _ _ c.in-Some.ensures.taken

pub loop-further-preserved : goal.loop-further-preserved
loop-further-preserved c =
    let moved = c.in-Some.ensures.taken in
    record {
      field = c.loop-further.invariant.field;
      residue = c.add-coef.ensures.residue;
      upper = (taken_all (λ t. t.0 ≤ c.in_ok-id.id) _ _ _ moved c.loop-further.invariant.upper).1;
      below = c.loop-further.invariant.below;
      sum = merged _ c.in_ok-id.id c.loop-further.coef c.in-Some.further _ _ _ _ c.loop-further.invariant.sum (taken_behind _ _ _ _ _ moved)
          (c.add-coef.ensures.sum ∙ ap (λ q. (c.loop-further.coef + c.in-Some.further) % q) c.loop-further.invariant.field);
      ids = λ among all.
          let parts = parts_all (λ t. IsTrue (among t.0)) _ _ (c.loop-further.invariant.ids among all) in
          All-append (λ (t : ℕ × ℕ). IsTrue (among t.0)) _ _ parts.0 (taken_all (λ t. IsTrue (among t.0)) _ _ _ moved parts.1).1;
    }

pub returns-clause-sum : goal.returns-clause-sum
returns-clause-sum c = Alike_from_weights nat_eq (rw c.in_default.ensures.same c.loop-further.invariant.sum)

pub returns-clause-falls : goal.returns-clause-falls
returns-clause-falls c = All-append (λ (t : ℕ × ℕ). t.0 < c.in_ok-id.id) _ _ c.loop-further.invariant.below c.in_default.ensures.below

pub returns-clause-ids : goal.returns-clause-ids
returns-clause-ids c = λ among all. (c.in_ok-id.ensures.ids among all, rw c.in_default.ensures.same (c.loop-further.invariant.ids among all))
