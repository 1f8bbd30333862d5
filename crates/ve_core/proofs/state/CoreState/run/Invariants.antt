use Rattle.std.proofs.Common.{◌≤◌, map, take}
use Rattle.ve_core.specs.Events.{event_of}
use Rattle.ve_core.specs.Moving.{Counts}
use Rattle.ve_core.proofs.state.CoreState.run.Given as goal

-- the events so far were gone through and counted
abbrev pub invariant-loop-event : goal.invariant-loop-event
invariant-loop-event l = Counts l.initial.self (map event_of (take l.event-index l.events)) l.count l.self × (l.count ≤ l.event-index)
