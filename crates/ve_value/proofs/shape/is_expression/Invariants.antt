use Rattle.std.proofs.Common.{◌≤◌, drop}
use Rattle.ve_value.specs.Shapes.{tokens_in}
use Rattle.ve_value.proofs.ShapeSteps.{IsBefore}
use Rattle.ve_value.proofs.shape.is_expression.Given as goal

abbrev pub invariant-loop-placed : goal.invariant-loop-placed
invariant-loop-placed l = record {
  depth : l.shape.depth ≤ l.placed-index;
  before : IsBefore l.shape (tokens_in l.tokens) (tokens_in (drop l.placed-index l.tokens));
}
