use Rattle.std.proofs.Common.{◌≡◌, ℕ, ◌<◌, ◌≤◌, ◌∷◌, All, Bool, drop, length}
use Rattle.std.specs.BinaryHeap.{heap_items}
use Rattle.ve_vec.specs.Vectors.{AllIds}
use Rattle.ve_theory.proofs.Sums.{SameWeights}
use Rattle.ve_settle.specs.Falling.{left_of}
use Rattle.ve_settle.proofs.falling.FallingSum.pop.Given as goal

-- the terms that were taken add up to one term
abbrev pub invariant-loop-further : goal.invariant-loop-further
invariant-loop-further l = record {
  field : l.self.field ≡ l.fn.self.field;
  residue : l.coef < l.self.field;
  upper : All (λ t. t.0 ≤ l.id) (heap_items l.self.loose.terms);
  below : All (λ t. t.0 < l.id) (drop l.self.taken l.self.sorted);
  sum : SameWeights l.fn.self.field (left_of l.fn.self) ((l.id, l.coef) ∷ left_of l.self);
  ids : (among : ℕ → Bool) → AllIds among (left_of l.fn.self) → AllIds among (left_of l.self);
}

abbrev pub decreases-loop-further : goal.decreases-loop-further
decreases-loop-further l = length (heap_items l.self.loose.terms)
