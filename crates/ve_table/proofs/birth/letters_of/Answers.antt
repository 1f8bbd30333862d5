use Rattle.std.proofs.Common.{ap, sym, ◌∙◌, ◌++◌, ◌∷◌, []}
use Rattle.ve_table.proofs.Producing.{letter_more_yes, letter_more_no}
use Rattle.ve_table.proofs.birth.letters_of.Goals as goal
use Rattle.ve_table.proofs.birth.letters_of.Goals.{then-letter_weight-weight+in_ok-push, else-letter_weight-weight}

pub loop-letter-preserved : goal.loop-letter-preserved
loop-letter-preserved c =
    elim c.if-letter_weight-weight.branch [
      | then-letter_weight-weight+in_ok-push w ↦
          ap (λ v. v.items) w.letters-is ∙ w.in_ok-push.ensures.items ∙ ap (λ l. l ++ c.loop-letter.letter ∷ []) c.loop-letter.invariant
          ∙ sym (letter_more_yes c.args.weights.now c.args.weight c.loop-letter.letter w.if-letter_weight-weight.true)
      | else-letter_weight-weight w ↦
          ap (λ v. v.items) w.letters-is ∙ c.loop-letter.invariant ∙ sym (letter_more_no c.args.weights.now c.args.weight c.loop-letter.letter w.if-letter_weight-weight.false)
    ]
