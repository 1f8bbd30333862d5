use Rattle.std.proofs.Common.{subst}
use Rattle.ve_pres.specs.Drafts.{Draft}
use Rattle.ve_pres.specs.Letters.{IsPairPushed}
use Rattle.ve_pres.proofs.LetterLists.{pair_letters}
use Rattle.ve_pres.proofs.ValidPresentations.{letters_of_built}
use Rattle.ve_pres.proofs.presentation.Presentation.add_pair.Goals as goal

pub set_letters-requires-clause-letters : goal.set_letters-requires-clause-letters
set_letters-requires-clause-letters c =
    let P : Draft → Type 0 = λ d. IsPairPushed d.presentation.prime c.in-Ok.letters c.push_pair.new.self c.args.name.now c.args.inverse.now c.in_ok-first.first in
    pair_letters _ _ _ c.in-Ok.letters c.push_pair.new.self _ _
    (letters_of_built c.self.inside _ c.in-Ok.letters c.self.invariant c.self.view_is c.in-Ok.ensures)
    (subst P c.self.view_is c.in_ok-first.ensures.pair)
