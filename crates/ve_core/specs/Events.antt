-- Events, as contracts see them.
use Rattle.std.specs.Prelude.{ℕ}
use Rattle.ve_machine.specs.Machines.{Event as SeatEvent, to_apply, to_conclude, to_lift, to_read, to_repair, to_return, to_rewrite, to_submit, to_take}
use Rattle.ve_hand.specs.Jobs.{job_of}
use Rattle.ve_core.specs.declared.event.Local.{Local}
use Rattle.ve_core.specs.declared.event.Local.TheVariants.{Apply, Repair}
use Rattle.ve_core.specs.declared.event.Event.{Event}
use Rattle.ve_core.specs.declared.event.Event.TheVariants.{Conclude, GiveBack, Hand, Lift, Read, Rewrite, Submit, Take}

abbrev pub local_of : ℕ → Local → SeatEvent
local_of seat Repair = to_repair seat
local_of seat Apply = to_apply seat

abbrev pub event_of : Event → SeatEvent
event_of (Take seat job) = to_take seat (job_of job)
event_of (Read seat) = to_read seat
event_of (Submit seat) = to_submit seat
event_of (Lift seat place) = to_lift seat place
event_of (Conclude seat) = to_conclude seat
event_of (Rewrite id letter) = to_rewrite id letter
event_of (GiveBack seat) = to_return seat
event_of (Hand seat what) = local_of seat what
