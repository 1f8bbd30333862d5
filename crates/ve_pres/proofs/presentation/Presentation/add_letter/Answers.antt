use Rattle.std.proofs.Common.{[], ◌∷◌, None, ap, length, length-append, refl, ◌≡◌, ℕ, sym, ◌∙◌}
use Rattle.std.proofs.lemmas.List.{append-nil}
use Rattle.std.proofs.lemmas.List.Elements.{All-cons, All-nil}
use Rattle.ve_theory.specs.Presentations.{inverse_relators}
use Rattle.ve_pres.proofs.LetterLists.{grown_letters, inverses_none, inverses_of}
use Rattle.ve_pres.proofs.ValidPresentations.{letters_of_built}
use Rattle.ve_pres.proofs.presentation.Presentation.add_letter.Goals as goal

pub set_letters-requires-clause-letters : goal.set_letters-requires-clause-letters
unfolding inverse_relators
set_letters-requires-clause-letters c =
    let old = letters_of_built c.self.inside _ c.in-Ok.letters c.self.invariant c.self.view_is c.in-Ok.ensures in
    grown_letters _ _ c.in-Ok.letters c.push.new.self (None ∷ []) (1 ∷ []) old c.in_ok-letter.ensures.letters c.in_ok-letter.ensures.inverses c.in_ok-letter.ensures.weights
    (All-cons (λ (w : ℕ). w ≡ 1) 1 [] refl (All-nil (λ (w : ℕ). w ≡ 1))) refl (ap length c.in_ok-letter.ensures.names ∙ length-append c.in-Ok.letters.names (c.args.name.now ∷ []))
    (inverses_none c.in-Ok.letters.inverses.items (inverses_of _ _ c.in-Ok.letters old))
    (ap (λ rs. rs.items) c.in_ok-letter.ensures.relators ∙ sym (append-nil c.in-Ok.letters.relators.items))
