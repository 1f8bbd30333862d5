use Rattle.std.proofs.Common.{ap, sym, ◌∙◌, ◌++◌, ◌∷◌, []}
use Rattle.ve_table.specs.Tables.{presented, reach_at}
use Rattle.ve_plain.proofs.DueNumbers.{due_more, not_due_more}
use Rattle.ve_plain.proofs.due.put_due.Goals as goal
use Rattle.ve_plain.proofs.due.put_due.Goals.{then-due-from+in_ok-push, else-due-from}

pub loop-number-preserved : goal.loop-number-preserved
loop-number-preserved c =
    let T = c.args.table.now in
    let number = c.loop-number.number in
    elim c.if-due-from.branch [
      | then-due-from+in_ok-push w ↦
          ap (λ v. v.items) w.numbers-is ∙ w.in_ok-push.ensures.items ∙ ap (λ l. l ++ number ∷ []) c.loop-number.invariant
          ∙ sym (due_more (presented T) T.level (reach_at T c.args.id) number (let e = w.if-due-from.true in cc))
      | else-due-from w ↦
          ap (λ v. v.items) w.numbers-is ∙ c.loop-number.invariant
          ∙ sym (not_due_more (presented T) T.level (reach_at T c.args.id) number (λ due. w.if-due-from.false cc))
    ]
