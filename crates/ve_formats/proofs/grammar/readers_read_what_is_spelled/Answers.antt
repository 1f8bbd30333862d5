use Rattle.ve_formats.proofs.Parsing.{parsed-spelled}
use Rattle.ve_formats.proofs.ParsedSpelling.{spelled-parsed}
use Rattle.ve_formats.proofs.ModuleParsing.{module_parsed-spelled}
use Rattle.ve_formats.proofs.ModuleParsedSpelling.{spelled-module_parsed}
use Rattle.ve_formats.proofs.LineForms.{form_of-spelled, spelled-form_of}
use Rattle.ve_formats.proofs.grammar.readers_read_what_is_spelled.Goals as goal

pub returns-clause-algebra : goal.returns-clause-algebra
returns-clause-algebra c = λ tokens e. (spelled-parsed tokens e, parsed-spelled)

pub returns-clause-modules : goal.returns-clause-modules
returns-clause-modules c = λ tokens e. (spelled-module_parsed tokens e, module_parsed-spelled)

pub returns-clause-lines : goal.returns-clause-lines
returns-clause-lines c = λ tokens form. (spelled-form_of tokens form, form_of-spelled)
