use Rattle.std.proofs.lemmas.List.Sums.{AllPass-from_list_all}
use Rattle.ve_text_uses.proofs.tests.spelling.names.adds.Goals as goal

pub add-requires : goal.add-requires
add-requires c = AllPass-from_list_all _ c.args.cases.now c.requires _ _ c.loop-name-test.true
