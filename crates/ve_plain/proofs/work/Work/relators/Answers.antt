use Rattle.std.proofs.Common.{ap, subst, sym, ◌∙◌, arith}
use Rattle.ve_table.specs.Tables.{presented}
use Rattle.ve_plain.specs.Due.{due_numbers}
use Rattle.ve_plain.proofs.Going.{Continues-trans}
use Rattle.ve_plain.proofs.Settling.{Settles-trans}
use Rattle.ve_plain.proofs.DueNumbers.{AreDue, AreDue-kept}
use Rattle.ve_plain.proofs.Jobs.{no_further_id, one_more_id}
use Rattle.ve_plain.proofs.work.Work.relators.Goals as goal
use Rattle.ve_plain.proofs.work.Work.relators.Goals.{then-ne+in_ok-put_due, else-ne}

pub returns-in_err-relators_at-clause-continues : goal.returns-in_err-relators_at-clause-continues
returns-in_err-relators_at-clause-continues c = Continues-trans _ _ _ c.loop-id.invariant.settles.continues c.relators_at.ensures.continues

pub loop-id-preserved : goal.loop-id-preserved
loop-id-preserved c =
    let old = c.args.self.now in
    let now = c.loop-id.self in
    let so_far = c.loop-id.invariant in
    let numbers = c.if-ne.numbers.items in
    record {
      settles = Settles-trans old now c.relators_at.new.self so_far.settles c.in_ok-relators_at.ensures.settles;
      done = one_more_id old now c.relators_at.new.self so_far.settles.continues c.relators_at.ensures.continues c.loop-id.id so_far.done c.in_ok-relators_at.ensures.done;
      numbers = AreDue-kept now.table c.relators_at.new.self.table c.relators_at.ensures.continues.same_level c.if-ne.reach numbers
          (elim c.if-ne.branch [
            | then-ne+in_ok-put_due w ↦ subst (λ reach. AreDue now.table reach numbers) (sym w.reach-is)
                (ap (λ v. v.items) w.numbers-is ∙ w.in_ok-put_due.ensures ∙ ap (due_numbers (presented now.table) now.table.level) (sym c.reach-here.ensures.reach))
            | else-ne w ↦ subst (λ reach. AreDue now.table reach numbers) (sym w.reach-is)
                (subst (AreDue now.table c.loop-id.reach) (sym (ap (λ v. v.items) w.numbers-is)) so_far.numbers)
          ]);
    }

pub returns-clause-done : goal.returns-clause-done
returns-clause-done c = no_further_id c.args.self.now c.loop-id.self c.loop-id.id c.loop-id.invariant.settles.continues (omega arith) c.loop-id.invariant.done
