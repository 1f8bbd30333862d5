use Rattle.ve_formats.proofs.LineForms.{formed, same_form}
use Rattle.ve_formats.proofs.grammar.line_forms_once.Goals as goal

pub returns-clause-formed : goal.returns-clause-formed
returns-clause-formed c = formed

pub returns-clause-same_form : goal.returns-clause-same_form
returns-clause-same_form c = λ tokens form other. same_form
