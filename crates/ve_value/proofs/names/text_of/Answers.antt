use Rattle.ve_value.proofs.NameTexts.{name_text, taken_as_text}
use Rattle.ve_value.proofs.names.text_of.Goals as goal

pub unwrap-requires : goal.unwrap-requires
unwrap-requires c = taken_as_text _ _ c.args.name.now _ (name_text _ c.requires) c.from_utf8.ensures.cases
