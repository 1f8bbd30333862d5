use Rattle.std.proofs.Common.{sym, ◌∙◌}
use Rattle.ve_answers.proofs.NameTexts.{text_found}
use Rattle.ve_answers.proofs.words.name_of.Goals as goal

pub returns : goal.returns
returns c = text_found _ c.args.bytes.now c.from_utf8.result c.from_utf8.ensures.cases (sym c.is_name.ensures ∙ c.if-not-is_name.false) c.ok.result c.ok.ensures.value
