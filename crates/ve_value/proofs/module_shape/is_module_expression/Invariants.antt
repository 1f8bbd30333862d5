use Rattle.std.proofs.Common.{◌≤◌, drop}
use Rattle.ve_value.specs.Shapes.{tokens_in}
use Rattle.ve_value.specs.ModuleShapes.{depth_of}
use Rattle.ve_value.proofs.ModuleSteps.{IsModuleBefore}
use Rattle.ve_value.proofs.module_shape.is_module_expression.Given as goal

abbrev pub invariant-loop-placed : goal.invariant-loop-placed
invariant-loop-placed l = record {
  depth : depth_of l.shape ≤ l.placed-index;
  before : IsModuleBefore l.shape (tokens_in l.tokens) (tokens_in (drop l.placed-index l.tokens));
}
