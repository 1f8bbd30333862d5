use Rattle.ve_formats.proofs.ValueElements.{is_value}
use Rattle.ve_formats.proofs.ModuleValueElements.{is_module_value}
use Rattle.ve_formats.proofs.grammar.values_are_elements.Goals as goal

pub returns-clause-algebra : goal.returns-clause-algebra
returns-clause-algebra c = λ P e v readable h. is_value c.reduced_lists_are_unique.ensures P readable h

pub returns-clause-modules : goal.returns-clause-modules
returns-clause-modules c = λ P e v readable h. is_module_value c.reduced_lists_are_unique.ensures P readable h
