use Rattle.std.proofs.Common.{◌∙◌, ◌<◌, All, ap, refl, subst, sym, ℕ, List}
use Rattle.std.proofs.Math.ListN.{length-set}
use Rattle.ve_theory.specs.Elements.{AlgebraElement}
use Rattle.ve_pres.specs.Drafts.{Draft}
use Rattle.ve_pres.proofs.LetterLists.{relators_letters, weighed_letters}
use Rattle.ve_pres.proofs.ValidPresentations.{letters_of_inside, open_cells, open_relations, other_letters}
use Rattle.ve_pres.proofs.presentation.Presentation.weigh.Goals as goal

pub bound-self-inside-requires-clause-letters : goal.bound-self-inside-requires-clause-letters
bound-self-inside-requires-clause-letters c =
    let P : ℕ → Type 0 = λ n. All (λ (r : AlgebraElement). All (λ (t : List ℕ × ℕ). All (λ (x : ℕ). x < n) t.0) r) c.self.inside.letters.relators.items in
    subst P (sym (length-set c.self.inside.letters.weights.items c.from.result c.args.weight)) (relators_letters _ _ c.self.inside.letters (letters_of_inside c.self.inside c.self.invariant))

pub invariant_of-self : goal.invariant_of-self
invariant_of-self c =
    let empty = open_relations c.self.inside _ c.self.view_is c.requires.open in
    other_letters c.self.inside _ c.self.inside.cells _ c.self.invariant empty.0 empty.1
    (weighed_letters _ _ c.from.result c.args.weight c.self.inside.letters _ (ap (λ (d : Draft). d.presentation.version) c.self.view_is ∙ c.requires.version) (letters_of_inside c.self.inside c.self.invariant)
    c.requires.positive c.requires.small refl refl refl refl)
    (c.self.invariant.cells ∙ open_cells _ _ _ _ _ c.self.invariant.relators empty.0 empty.1)
    c.bound-self-inside.ensures
