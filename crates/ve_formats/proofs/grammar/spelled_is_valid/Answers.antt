use Rattle.ve_formats.proofs.DraftValidity.{spelled_valid}
use Rattle.ve_formats.proofs.grammar.spelled_is_valid.Goals as goal

pub returns : goal.returns
returns c = spelled_valid c.reduced_lists_are_unique.ensures
