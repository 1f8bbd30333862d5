use Rattle.std.proofs.Common.{drop}
use Rattle.ve_value.specs.Shapes.{tokens_in}
use Rattle.ve_value.proofs.ModuleEvaluating.{IsModuleWorkBefore}
use Rattle.ve_value.proofs.module_value.module_value_of.Given as goal

abbrev pub invariant-loop-placed : goal.invariant-loop-placed
invariant-loop-placed l = IsModuleWorkBefore l.presentation.presentation l.work (tokens_in l.tokens) (tokens_in (drop l.placed-index l.tokens))
