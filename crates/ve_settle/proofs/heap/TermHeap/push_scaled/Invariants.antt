use Rattle.std.proofs.Common.{◌≡◌, ℕ, ◌++◌, Bool, take}
use Rattle.std.specs.BinaryHeap.{heap_items}
use Rattle.ve_theory.specs.Combinations.{scaled}
use Rattle.ve_vec.specs.Vectors.{AllIds}
use Rattle.ve_theory.proofs.Sums.{SameWeights}
use Rattle.ve_settle.proofs.heap.TermHeap.push_scaled.Given as goal

-- the terms of the vector so far are added
abbrev pub invariant-loop-at : goal.invariant-loop-at
invariant-loop-at l = record {
  field : l.self.field ≡ l.fn.self.field;
  sum : SameWeights l.fn.self.field (heap_items l.self.terms) (heap_items l.fn.self.terms ++ scaled l.by (take l.at l.vector));
  ids : (among : ℕ → Bool) → AllIds among (heap_items l.fn.self.terms) → AllIds among l.vector → AllIds among (heap_items l.self.terms);
}
