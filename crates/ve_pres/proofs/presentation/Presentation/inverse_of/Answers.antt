use Rattle.std.proofs.Common.{◌≡◌, ◌<◌, length, Some, slice_get, IfSome, ap, subst, arith}
use Rattle.std.proofs.lemmas.Option.{slice_get_read}
use Rattle.ve_theory.specs.Presentations.{letter_count}
use Rattle.ve_pres.specs.Drafts.{Draft}
use Rattle.ve_pres.specs.Built.{draft_of}
use Rattle.ve_pres.proofs.HalfSteps.{existing_inverse}
use Rattle.ve_pres.proofs.presentation.Presentation.inverse_of.Goals as goal

pub returns-clause-exists : goal.returns-clause-exists
returns-clause-exists c =
    let inside : c.from.result < length c.self.inside.letters.inverses.items =
    omega (arith, c.requires, c.from.ensures, c.self.invariant.valid.presentation.one_inverse_each, ap (λ (d : Draft). length d.presentation.names) c.self.view_is) in
    let here : slice_get c.self.inside.letters.inverses.items c.from.result ≡ Some c.index.result.now =
    slice_get_read c.self.inside.letters.inverses.items (length c.self.inside.letters.inverses.items) c.from.result c.index.result.now (λ i. length c.self.inside.letters.inverses.items) inside c.index.ensures in
    let P : Draft → Type 0 = λ d. IfSome c.index.result.now (λ y. y < letter_count d.presentation) in
    subst P c.self.view_is (existing_inverse (draft_of c.self.inside).presentation c.from.result c.index.result.now c.self.invariant.valid.presentation here)
