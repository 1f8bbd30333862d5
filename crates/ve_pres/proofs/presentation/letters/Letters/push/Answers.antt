use Rattle.ve_pres.proofs.LetterLists.{new_name}
use Rattle.ve_pres.proofs.presentation.letters.Letters.push.Goals as goal

pub returns-clause-fresh : goal.returns-clause-fresh
returns-clause-fresh c = new_name _ _ _ c.count.ensures.names c.in_ok-add.ensures.ok
