use Rattle.std.proofs.Common.{◌≡◌, ◌*◌, length, ap, arith, subst, sym, ℕ}
use Rattle.ve_pres.specs.Drafts.{Draft}
use Rattle.ve_pres.specs.Letters.{AreLetters}
use Rattle.ve_pres.proofs.LetterLists.{relators_letters}
use Rattle.ve_pres.proofs.ValidPresentations.{open_relations, other_letters}
use Rattle.ve_pres.proofs.presentation.Presentation.set_letters.Goals as goal

pub bound-self-inside-requires-clause-letters : goal.bound-self-inside-requires-clause-letters
bound-self-inside-requires-clause-letters c = relators_letters _ _ c.args.letters c.requires.letters

pub invariant_of-self : goal.invariant_of-self
invariant_of-self c =
    let P : Draft → Type 0 = λ d. AreLetters d.presentation.version d.presentation.prime c.args.letters in
    let empty = open_relations c.self.inside _ c.self.view_is c.requires.open in
    other_letters c.self.inside c.args.letters _ _ c.self.invariant empty.0 empty.1 (subst P (sym c.self.view_is) c.requires.letters) (ap (λ (n : ℕ). 4 * n) (let count : c.len.result ≡ length c.args.letters.relators.items = omega arith in count)) c.bound-self-inside.ensures
