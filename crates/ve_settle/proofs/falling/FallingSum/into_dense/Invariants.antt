use Rattle.std.proofs.Common.{◌≡◌, ◌<◌, ◌++◌, All}
use Rattle.ve_theory.proofs.Sums.{SameWeights}
use Rattle.ve_settle.specs.Falling.{left_of}
use Rattle.ve_settle.proofs.Resolving.{ceiling}
use Rattle.ve_settle.proofs.falling.FallingSum.into_dense.Given as goal

-- what is poured out and what is left are the whole
abbrev pub invariant-loop-term : goal.invariant-loop-term
invariant-loop-term l = record {
  field : l.self.field ≡ l.fn.self.field;
  low : l.sum.low ≡ 0;
  high : l.sum.high ≡ l.bound;
  below : All (λ t. t.0 < l.bound) (left_of l.self);
  whole : SameWeights l.fn.self.field (left_of l.fn.self) (l.sum.total ++ left_of l.self);
}

abbrev pub decreases-loop-term : goal.decreases-loop-term
decreases-loop-term l = ceiling (left_of l.self)
