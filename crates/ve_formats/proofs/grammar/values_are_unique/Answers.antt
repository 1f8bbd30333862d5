use Rattle.ve_formats.proofs.ExpressionValues.{one_value}
use Rattle.ve_formats.proofs.ModuleExpressionValues.{one_module_value}
use Rattle.ve_formats.proofs.grammar.values_are_unique.Goals as goal

pub returns-clause-algebra : goal.returns-clause-algebra
returns-clause-algebra c = λ P e readable. one_value c.reduced_lists_are_unique.ensures P readable e

pub returns-clause-modules : goal.returns-clause-modules
returns-clause-modules c = λ P e readable. one_module_value c.reduced_lists_are_unique.ensures P readable e
