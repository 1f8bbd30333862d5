use Rattle.std.proofs.Common.{ℕ, length, ap, ◌∙◌, subst}
use Rattle.ve_pres.specs.Terms.{HasLettersBelow}
use Rattle.ve_table_uses.proofs.tests.algebra.presentations.relate.Goals as goal

pub add_sub-requires-clause-words : goal.add_sub-requires-clause-words
add_sub-requires-clause-words c =
    let P : ℕ → Type 0 = λ n. HasLettersBelow n c.in_ok-element.element in
    c.in_ok-behind-in-Module.ensures.words _ _ c.field.ensures.valid.generators.0
    (subst P (c.count.ensures.count ∙ ap length c.names.ensures) c.in_ok-element.ensures.letters)
