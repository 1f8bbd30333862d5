-- The shared machine together with the hand of each seat, and what seats do to it.
use Rattle.std.specs.Prelude.{◌≡◌, ℕ, ◌++◌, List, [], ◌∷◌, Some, replicate, set, slice_get}
use Rattle.ve_theory.specs.Answers.{Row}
use Rattle.ve_table.specs.Tables.{ActionTable, presented}
use Rattle.ve_machine.specs.Forwards.{AreLive, Forwards, IsDrawnFrom}
use Rattle.ve_machine.specs.Seats.{Desk, HasDesk, Job, State, empty_desk, opened_state, with_desk, with_job, with_relation}
use Rattle.ve_machine.specs.SharedSteps.{CanLift, CanRead, CanRewrite, CanTake, deleted, lifted, queued_again, submitted, taken, with_next}
use Rattle.ve_machine.specs.Hands.{Hand, Reading, empty_hand, next_hand, parts_of, summed_hand, unread}
use Rattle.ve_machine.specs.HandSteps.{Applies, Repairs, read_hand}
use Rattle.ve_machine.specs.ImageHands.{IsRightHand}
use Rattle.ve_machine.specs.Covered.{IsCovered, IsLegalHistory, IsSoundState}

pub record Machine : Type 0 where
  pub shared : State
  pub hands : List Hand

-- at the beginning all desks and all hands are empty
abbrev pub opened_machine : ActionTable → (seats : ℕ) → Machine
opened_machine O seats = record { shared = opened_state O seats; hands = replicate seats empty_hand }

abbrev pub HasHand : Machine → ℕ → Hand → Type 0
HasHand M seat hand = slice_get M.hands seat ≡ Some hand

abbrev pub with_hand : Machine → State → ℕ → Hand → Machine
with_hand M shared seat hand = record { shared = shared; hands = set M.hands seat hand }

-- What a seat sets out to do. A row is rewritten by any seat.
pub data Event : Type 0 where
  to_take : (seat : ℕ) → Job → Event
  to_read : (seat : ℕ) → Event
  to_submit : (seat : ℕ) → Event
  to_lift : (seat place : ℕ) → Event
  to_conclude : (seat : ℕ) → Event
  to_rewrite : (b x : ℕ) → Event
  to_return : (seat : ℕ) → Event
  to_repair : (seat : ℕ) → Event
  to_apply : (seat : ℕ) → Event

abbrev pub IsBy : Event → ℕ → Type 0
IsBy (to_take seat job) by = seat ≡ by
IsBy (to_read seat) by = seat ≡ by
IsBy (to_submit seat) by = seat ≡ by
IsBy (to_lift seat place) by = seat ≡ by
IsBy (to_conclude seat) by = seat ≡ by
IsBy (to_rewrite b x) by = Unit {0}
IsBy (to_return seat) by = seat ≡ by
IsBy (to_repair seat) by = seat ≡ by
IsBy (to_apply seat) by = seat ≡ by

-- The event is enabled, and leads to a machine. A job is submitted once all its parts are summed. What a seat submits, concludes or
-- gives back is the vector in its hand.
pub data Move (M : Machine) : Event → Machine → Type 0 where
  takes : (seat : ℕ) (job : Job) → CanTake M.shared seat job
      → Move M (to_take seat job) (with_hand M (taken M.shared seat job) seat (next_hand [] (parts_of M.shared.opening job)))
  reads : (seat : ℕ) (hand : Hand) → CanRead M.shared seat → HasHand M seat hand → Move M (to_read seat) (with_hand M M.shared seat (read_hand M.shared hand))
  submits : (seat : ℕ) (job : Job) (v : Row) (reading : Reading) → HasDesk M.shared seat (with_job job) → HasHand M seat (summed_hand v reading)
      → Move M (to_submit seat) (with_hand M (submitted M.shared seat job v) seat empty_hand)
  lifts : (seat place : ℕ) (v : Row) → CanLift M.shared seat place v
      → Move M (to_lift seat place) (with_hand M (lifted M.shared seat place v) seat (summed_hand v unread))
  drops : (seat : ℕ) (relation : Row) (reading : Reading) → HasDesk M.shared seat (with_relation relation) → HasHand M seat (summed_hand [] reading)
      → Move M (to_conclude seat) (with_hand M (with_desk M.shared seat empty_desk) seat empty_hand)
  deletes : (seat : ℕ) (relation v : Row) (reading : Reading) (id : ℕ) (forward : Row) → HasDesk M.shared seat (with_relation relation)
      → HasHand M seat (summed_hand v reading) → AreLive M.shared.forwards v → IsDrawnFrom (presented M.shared.opening).prime v id forward
      → Move M (to_conclude seat) (with_hand M (deleted M.shared seat id forward) seat empty_hand)
  rewrites : (b x : ℕ) (next : Row) → CanRewrite M.shared b x next → Move M (to_rewrite b x) (record M { shared = with_next M.shared b x next })
  returns_job : (seat : ℕ) (job : Job) → HasDesk M.shared seat (with_job job)
      → Move M (to_return seat) (with_hand M (with_desk M.shared seat empty_desk) seat empty_hand)
  returns_relation : (seat : ℕ) (relation v : Row) (reading : Reading) → HasDesk M.shared seat (with_relation relation) → HasHand M seat (summed_hand v reading)
      → Move M (to_return seat) (with_hand M (queued_again M.shared seat v) seat empty_hand)
  repairs : (seat : ℕ) (hand next : Hand) → HasHand M seat hand → Repairs (presented M.shared.opening).prime hand next
      → Move M (to_repair seat) (with_hand M M.shared seat next)
  applies : (seat : ℕ) (hand next : Hand) → HasHand M seat hand → Applies (presented M.shared.opening).prime hand next
      → Move M (to_apply seat) (with_hand M M.shared seat next)

-- the event is enabled
abbrev pub IsEnabled : Machine → Event → Type 0
IsEnabled M event = (N : Machine) × Move M event N

-- One event after another. One that isn't enabled leaves the machine as it is.
pub data Goes (M : Machine) : List Event → Machine → Type 0 where
  nowhere : Goes M [] M
  further : (events : List Event) (event : Event) (N K : Machine) → Goes M events N → Move N event K → Goes M (events ++ event ∷ []) K
  passed_over : (events : List Event) (event : Event) (N : Machine) → Goes M events N → ¬ IsEnabled N event → Goes M (events ++ event ∷ []) N

-- each desk has a hand that is right for it
abbrev pub AreRightHands : ActionTable → Forwards → List Desk → List Hand → Type 0
AreRightHands O forwards desks hands =
    (seat : ℕ) (desk : Desk) → slice_get desks seat ≡ Some desk → (hand : Hand) × (slice_get hands seat ≡ Some hand) × IsRightHand O forwards desk hand

-- the machine is sound and covered, its history legal, and its hands are right
pub record IsRightMachine (M : Machine) : Type 0 where
  pub sound : IsSoundState M.shared
  pub covered : IsCovered M.shared
  pub legal : IsLegalHistory M.shared
  pub right : AreRightHands M.shared.opening M.shared.forwards M.shared.desks M.hands
