use Rattle.std.proofs.Common.{◌≡◌, ◌<◌, List, ℕ, [], length, ap, subst, sym, ◌∙◌, All, arith}
use Rattle.ve_theory.specs.Presentations.{Presentation, letter_count}
use Rattle.ve_theory.specs.Elements.{AlgebraElement}
use Rattle.ve_theory.specs.Presentations.{HasLetters, relators}
use Rattle.std.proofs.lemmas.List.Elements.{All-get_or}
use Rattle.ve_lemmas.proofs.Relators.{relators_letters}
use Rattle.ve_table.proofs.reaches.relator_reaches.Goals as goal

pub weight-reach-requires-clause-letters : goal.weight-reach-requires-clause-letters
weight-reach-requires-clause-letters c =
    let P : Presentation = c.args.presentation.now.presentation in
    let count : letter_count P ≡ length c.deref.result.now = sym (ap length (c.deref.ensures.value ∙ c.weights.ensures) ∙ c.is_valid.ensures.valid.presentation.one_weight_each) in
    subst (λ n. All (λ (t : List ℕ × ℕ). All (λ x. x < n) t.0) c.relator.result.now) count
    (subst (λ (r : AlgebraElement). All (λ t. HasLetters P t.0) r) (sym c.relator.ensures)
    (All-get_or (λ (r : AlgebraElement). All (λ t. HasLetters P t.0) r) (relators P) c.loop-number.number [] (omega (arith, c.loop-number-test.true, c.relator_count-number-end.ensures)) (relators_letters P c.is_valid.ensures.valid.presentation)))
