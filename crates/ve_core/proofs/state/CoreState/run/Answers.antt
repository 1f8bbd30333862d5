use Rattle.std.proofs.Common.{◌≡◌, map, take, arith, sym, subst}
use Rattle.std.proofs.lemmas.List.{take_all}
use Rattle.ve_machine.specs.Machines.{Goes}
use Rattle.ve_core.specs.Events.{event_of}
use Rattle.ve_core.specs.Moving.{nowhere}
use Rattle.ve_core.proofs.Counting.{counted_go, counts_next, on_err}
use Rattle.ve_core.proofs.state.CoreState.run.Goals as goal
use Rattle.ve_core.proofs.state.CoreState.run.Goals.{then-branch, else-branch}

pub loop-event-init : goal.loop-event-init
loop-event-init c = (nowhere, omega arith)

pub returns-in_err-step-clause-err : goal.returns-in_err-step-clause-err
returns-in_err-step-clause-err c =
    on_err _ c.from_residual.result (
      c.loop-event.event-index,
      subst (Goes c.args.self.now (map event_of (take c.loop-event.event-index c.args.events.now))) (sym c.in_err-step.ensures.err)
          (counted_go c.args.self.now (map event_of (take c.loop-event.event-index c.args.events.now)) c.loop-event.count c.loop-event.self c.loop-event.invariant.0),
    )

pub loop-event-preserved : goal.loop-event-preserved
loop-event-preserved c =
    let next = counts_next c.args.self.now c.args.events.now c.loop-event.event-index _ c.loop-event.count c.loop-event.self c.step.new.self c.in_ok-step.field-0 c.loop-event-test.true c.loop-event.invariant.0 c.in_ok-step.ensures.ok in
    elim c.if-branch.branch [
      | then-branch w ↦ (rw w.count-is (next.0 w.if-branch.true), omega (arith, w.count-is, c.loop-event.invariant.1))
      | else-branch w ↦ (rw w.count-is (next.1 w.if-branch.false), omega (arith, w.count-is, c.loop-event.invariant.1))
    ]

pub returns-clause-goes : goal.returns-clause-goes
returns-clause-goes c =
    let whole : take c.loop-event.event-index c.args.events.now ≡ c.args.events.now = take_all _ _ c.loop-event-test.false in
    counted_go _ _ _ _ (rw whole at c.loop-event.invariant.0)
