use Rattle.std.proofs.Common.{arith}
use Rattle.ve_plain.proofs.Going.{Continues-trans}
use Rattle.ve_plain.proofs.Settling.{Settles-trans}
use Rattle.ve_plain.proofs.DueNumbers.{due_there}
use Rattle.ve_plain.proofs.Jobs.{each_relator, one_more_relator}
use Rattle.ve_plain.proofs.work.Work.relators_at.Goals as goal

pub relator-requires-clause-number : goal.relator-requires-clause-number
relator-requires-clause-number c =
    let same = c.loop-number.invariant.settles.continues.same_level in
    (due_there c.args.self.now.table c.loop-number.self.table same c.args.id c.loop-number.number-index c.args.numbers.now c.requires.numbers c.loop-number-test.true).0

pub relator-requires-clause-due : goal.relator-requires-clause-due
relator-requires-clause-due c =
    let same = c.loop-number.invariant.settles.continues.same_level in
    let there = due_there c.args.self.now.table c.loop-number.self.table same c.args.id c.loop-number.number-index c.args.numbers.now c.requires.numbers c.loop-number-test.true in
    omega (arith, there.1)

pub returns-in_err-relator-clause-continues : goal.returns-in_err-relator-clause-continues
returns-in_err-relator-clause-continues c = Continues-trans _ _ _ c.loop-number.invariant.settles.continues c.relator.ensures.continues

pub loop-number-preserved : goal.loop-number-preserved
loop-number-preserved c =
    let old = c.args.self.now in
    let now = c.loop-number.self in
    let so_far = c.loop-number.invariant in
    record {
      settles = Settles-trans old now c.relator.new.self so_far.settles c.in_ok-relator.ensures.settles;
      done = one_more_relator old now c.relator.new.self so_far.settles.continues c.relator.ensures.continues c.args.id c.loop-number.number-index c.args.numbers.now so_far.done
          (λ O at_work live is_due. c.in_ok-relator.ensures.done O at_work);
    }

pub returns-clause-done : goal.returns-clause-done
returns-clause-done c =
    each_relator c.args.self.now c.loop-number.self c.args.id c.loop-number.number-index c.args.numbers.now c.requires.numbers (omega (arith, c.loop-number-test.false)) c.loop-number.invariant.done
