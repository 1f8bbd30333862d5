-- When an event is enabled, as the machine can be asked.
use Rattle.std.specs.Prelude.{◌≡◌, ◌↔◌, ℕ, [], ◌∷◌, All, Some, slice_get}
use Rattle.ve_theory.specs.Answers.{Row}
use Rattle.ve_table.specs.Tables.{row_at}
use Rattle.ve_machine.specs.Forwards.{AreLive}
use Rattle.ve_machine.specs.Seats.{HasDesk, Job, empty_desk, present, with_job, with_relation}
use Rattle.ve_machine.specs.SharedSteps.{CanRead, CanTake}
use Rattle.ve_machine.specs.Hands.{Hand, Reading, beginning_hand, empty_hand, read_forward, read_ids, read_image, summed_hand, tracing_hand, unread}
use Rattle.ve_machine.specs.HandSteps.{HasForwards, IsRowFound}
use Rattle.ve_machine.specs.Machines.{Event, HasHand, IsEnabled, IsRightMachine, Machine, to_apply, to_conclude, to_lift, to_read, to_repair, to_return, to_rewrite, to_submit, to_take}

-- a beginning was read; some forward was read; rows alone were read
abbrev pub HasReadBeginning : Reading → Type 0
HasReadBeginning unread = ⊥
HasReadBeginning (read_image image) = Unit {0}
HasReadBeginning (read_forward row forward) = Unit {0}
HasReadBeginning (read_ids founds) = ⊥

abbrev pub HasReadForwards : Reading → Type 0
HasReadForwards unread = ⊥
HasReadForwards (read_image image) = ⊥
HasReadForwards (read_forward row forward) = ⊥
HasReadForwards (read_ids founds) = HasForwards founds

abbrev pub HasReadRows : Reading → Type 0
HasReadRows unread = ⊥
HasReadRows (read_image image) = ⊥
HasReadRows (read_forward row forward) = ⊥
HasReadRows (read_ids founds) = All IsRowFound founds

abbrev pub CanRepair : Hand → Type 0
CanRepair empty_hand = ⊥
CanRepair (beginning_hand sum part parts reading) = ⊥
CanRepair (tracing_hand sum coefficient parts vector left reading) = HasReadForwards reading
CanRepair (summed_hand vector reading) = HasReadForwards reading

-- to sum a part nothing needs to be read
abbrev pub CanApply : Hand → Type 0
CanApply empty_hand = ⊥
CanApply (beginning_hand sum part parts reading) = HasReadBeginning reading
CanApply (tracing_hand sum coefficient parts vector [] reading) = Unit {0}
CanApply (tracing_hand sum coefficient parts vector (x ∷ left) reading) = HasReadRows reading
CanApply (summed_hand vector reading) = ⊥

-- the seat has all summed
abbrev pub HasSum : Machine → ℕ → Row → Type 0
HasSum M seat v = (reading : Reading) × HasHand M seat (summed_hand v reading)

abbrev pub IsAllowed : Machine → Event → Type 0
IsAllowed M (to_take seat job) = CanTake M.shared seat job
IsAllowed M (to_read seat) = CanRead M.shared seat
IsAllowed M (to_submit seat) = (job : Job) × HasDesk M.shared seat (with_job job) × ((v : Row) × HasSum M seat v)
IsAllowed M (to_lift seat place) = HasDesk M.shared seat empty_desk × ((v : Row) × (slice_get M.shared.queue place ≡ Some v))
IsAllowed M (to_conclude seat) = (relation : Row) × HasDesk M.shared seat (with_relation relation) × ((v : Row) × HasSum M seat v × AreLive M.shared.forwards v)
IsAllowed M (to_rewrite b x) = (row : Row) × (row_at (present M.shared) b x ≡ Some row) × (¬ AreLive M.shared.forwards row)
IsAllowed M (to_return seat) = CanRead M.shared seat
IsAllowed M (to_repair seat) = (hand : Hand) × HasHand M seat hand × CanRepair hand
IsAllowed M (to_apply seat) = (hand : Hand) × HasHand M seat hand × CanApply hand

-- the law of the function of its name
abbrev pub EventsAreEnabledWhereAllowed : Type 0
EventsAreEnabledWhereAllowed = (M : Machine) (event : Event) → IsRightMachine M → (IsEnabled M event ↔ IsAllowed M event)
