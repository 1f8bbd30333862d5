-- Moves keep the machine right.
use Rattle.std.proofs.Common.{◌≡◌, ◌⊎◌, inl, inr, ℕ, zero, suc, ◌<◌, Some, None, List, [], refl, subst}
use Rattle.std.proofs.Math.ListN.{replicate, set}
use Rattle.std.specs.Prelude.{slice_get}
use Rattle.std.proofs.lemmas.List.Elements.{All-nil}
use Rattle.std.proofs.lemmas.Option.{none-some}
use Rattle.ve_theory.specs.Answers.{Row}
use Rattle.ve_theory.specs.Laws.{HasInverses, LevelsAreClosed}
use Rattle.ve_lemmas.proofs.Lists.{All-slice_get}
use Rattle.ve_table.specs.Tables.{ActionTable, presented}
use Rattle.ve_table.proofs.Entries.{same_some}
use Rattle.ve_machine.specs.Forwards.{AreLive, Forwards, IsDrawnFrom}
use Rattle.ve_machine.specs.Seats.{Desk, HasDesk, Job, State, empty_desk, with_desk, with_job, with_relation}
use Rattle.ve_machine.specs.SharedSteps.{CanConclude, CanLift, CanSubmit, CanTake, HasRelation, Step, deleted, lifted, queued_again, submitted, taken, with_next}
use Rattle.ve_machine.specs.SharedSteps as steps
use Rattle.ve_machine.specs.Covered.{IsRelation, IsSoundDesk}
use Rattle.ve_machine.specs.SharedLaws.{GoesRight, MachinesStayRight, MovesGoRight}
use Rattle.ve_machine.specs.Hands.{Hand, Reading, empty_hand, next_hand, parts_of, summed_hand, unread}
use Rattle.ve_machine.specs.HandSteps.{Applies, Repairs, read_hand}
use Rattle.ve_machine.specs.ImageHands.{IsLifted, IsRightHand}
use Rattle.ve_machine.specs.Machines.{AreRightHands, Event, Goes, IsBy, HasHand, IsRightMachine, Machine, Move, applies, deletes, drops, further, lifts, nowhere, opened_machine, passed_over, reads, repairs, returns_job, returns_relation, rewrites, submits, takes, with_hand}
use Rattle.ve_machine.proofs.Forwardings.{nothing_forwarded, positive_prime}
use Rattle.ve_theory.proofs.Sums.{SameWeights-refl}
use Rattle.ve_machine.proofs.KeptKnown.{kept_where_same}
use Rattle.ve_machine.proofs.SoundSteps.{known_after, sound_after}
use Rattle.ve_machine.proofs.CoveredSteps.{covered_after}
use Rattle.ve_machine.proofs.Histories.{legal_after}
use Rattle.ve_machine.proofs.WhateverSeatsDo.{states_open}
use Rattle.ve_machine.proofs.RightHands.{applies_right, desk_and_hand, hand_alone, hand_at, read_right, repairs_right, summed_comes, taken_right}

-- a step of the seat, or the same shared machine, and the machine stays right
record StaysRight (M : Machine) (seat : ℕ) (N : Machine) : Type 0 where
  shared : Step M.shared seat N.shared ⊎ (N.shared ≡ M.shared)
  machine : IsRightMachine N

module _ (inverses : HasInverses) (closed : LevelsAreClosed) (M : Machine) (right : IsRightMachine M) (seat : ℕ) where
  abbrev S : State
  S = M.shared

  abbrev O : ActionTable
  O = S.opening

  abbrev p : ℕ
  p = (presented O).prime

  positive : 0 < p
  positive = positive_prime O right.sound.opening

  -- a step, and right hands
  by_step : (T : State) (hands : List Hand) → Step S seat T → AreRightHands T.opening T.forwards T.desks hands → StaysRight M seat (record { shared = T; hands = hands })
  by_step T hands step are = record {
    shared = inl step;
    machine = record {
      sound = sound_after inverses closed S seat right.sound T step;
      covered = covered_after inverses closed S seat right.sound right.covered T step;
      legal = legal_after inverses closed S seat right.sound right.legal T step;
      right = are;
    };
  }

  -- what is on the desk, with the hand
  in_hand : (desk : Desk) (hand : Hand) → HasDesk S seat desk → HasHand M seat hand → IsRightHand O S.forwards desk hand
  in_hand desk hand on_desk has = hand_at O S.forwards S.desks M.hands right.right seat desk hand on_desk has

  sound_desk : (desk : Desk) → HasDesk S seat desk → IsSoundDesk O S.forwards desk
  sound_desk desk is = All-slice_get (IsSoundDesk O S.forwards) S.desks seat desk is right.sound.desks

  -- the desk and the hand change, and no id dies
  other_desk : (before desk : Desk) (hand : Hand) → HasDesk S seat before → IsRightHand O S.forwards desk hand → AreRightHands O S.forwards (set S.desks seat desk) (set M.hands seat hand)
  other_desk before desk hand was is = desk_and_hand O S.forwards S.forwards (kept_where_same O S.forwards) positive S.desks M.hands right.sound.desks right.right seat before desk hand was is

  -- the hand alone changes
  other_hand : (before hand : Hand) → HasHand M seat before → ((desk : Desk) → HasDesk S seat desk → IsRightHand O S.forwards desk hand) → AreRightHands O S.forwards S.desks (set M.hands seat hand)
  other_hand before hand has is = hand_alone O S.forwards S.desks M.hands right.right seat before hand has is

  -- the shared machine stays
  by_hand : (hands : List Hand) → AreRightHands O S.forwards S.desks hands → StaysRight M seat (record { shared = S; hands = hands })
  by_hand hands are = record { shared = inr refl; machine = record { sound = right.sound; covered = right.covered; legal = right.legal; right = are } }

  relation_in_hand : (relation v : Row) (reading : Reading) → HasDesk S seat (with_relation relation) → HasHand M seat (summed_hand v reading) → HasRelation S seat v
  relation_in_hand relation v reading on_desk has =
      let lifted_is : IsLifted O S.forwards relation v reading = in_hand (with_relation relation) (summed_hand v reading) on_desk has in
      record { relation = relation; on_desk = on_desk; vector = lifted_is.vector_on; same = lifted_is.same }

  after_submit : (job : Job) (v : Row) (reading : Reading) → HasDesk S seat (with_job job) → HasHand M seat (summed_hand v reading) → StaysRight M seat (with_hand M (submitted S seat job v) seat empty_hand)
  after_submit job v reading on_desk has =
      let comes = summed_comes S right.sound right.covered job v reading (in_hand (with_job job) (summed_hand v reading) on_desk has) in
      by_step (submitted S seat job v) (set M.hands seat empty_hand) (steps.submits job v (record { on_desk = on_desk; vector = comes.0; comes = comes.1 }))
      (other_desk (with_job job) empty_desk empty_hand on_desk refl)

  after_lift : (place : ℕ) (v : Row) → CanLift S seat place v → StaysRight M seat (with_hand M (lifted S seat place v) seat (summed_hand v unread))
  after_lift place v can =
      by_step (lifted S seat place v) (set M.hands seat (summed_hand v unread)) (steps.lifts place v can)
      (other_desk empty_desk (with_relation v) (summed_hand v unread) can.idle
      (record {
        vector_on = (All-slice_get (IsRelation O) S.queue place v can.queued right.sound.queue).vector;
        same = nothing_forwarded p S.forwards v v positive (SameWeights-refl p v);
        read = tt;
      }))

  after_death : (relation v : Row) (reading : Reading) (id : ℕ) (forward : Row) → HasDesk S seat (with_relation relation) → HasHand M seat (summed_hand v reading) → AreLive S.forwards v → IsDrawnFrom p v id forward
      → StaysRight M seat (with_hand M (deleted S seat id forward) seat empty_hand)
  after_death relation v reading id forward on_desk has live drawn =
      let T : State = deleted S seat id forward in
      let step : Step S seat T = steps.deletes v id forward (relation_in_hand relation v reading on_desk has, live) drawn in
      by_step T (set M.hands seat empty_hand) step
      (desk_and_hand O S.forwards T.forwards (known_after inverses closed S seat right.sound T step) positive S.desks M.hands right.sound.desks right.right seat (with_relation relation) empty_desk empty_hand on_desk refl)

  after_take : (job : Job) → CanTake S seat job → StaysRight M seat (with_hand M (taken S seat job) seat (next_hand [] (parts_of O job)))
  after_take job can =
      by_step (taken S seat job) (set M.hands seat (next_hand [] (parts_of O job))) (steps.takes job can)
      (other_desk empty_desk (with_job job) (next_hand [] (parts_of O job)) can.idle (taken_right S right.sound right.covered job can.waits.of_level))

  after_read : (hand : Hand) → HasHand M seat hand → StaysRight M seat (with_hand M S seat (read_hand S hand))
  after_read hand has =
      by_hand (set M.hands seat (read_hand S hand))
      (other_hand hand (read_hand S hand) has (λ desk is. read_right S right.sound right.covered desk hand (sound_desk desk is) (in_hand desk hand is has)))

  after_drop : (relation : Row) (reading : Reading) → HasDesk S seat (with_relation relation) → HasHand M seat (summed_hand [] reading)
      → StaysRight M seat (with_hand M (with_desk S seat empty_desk) seat empty_hand)
  after_drop relation reading on_desk has =
      by_step (with_desk S seat empty_desk) (set M.hands seat empty_hand)
      (steps.drops (relation_in_hand relation [] reading on_desk has, All-nil (λ (t : ℕ × ℕ). slice_get S.forwards t.0 ≡ Some None)))
      (other_desk (with_relation relation) empty_desk empty_hand on_desk refl)

  after_job_returned : (job : Job) → HasDesk S seat (with_job job) → StaysRight M seat (with_hand M (with_desk S seat empty_desk) seat empty_hand)
  after_job_returned job on_desk =
      by_step (with_desk S seat empty_desk) (set M.hands seat empty_hand) (steps.returns_job job on_desk) (other_desk (with_job job) empty_desk empty_hand on_desk refl)

  after_relation_returned : (relation v : Row) (reading : Reading) → HasDesk S seat (with_relation relation) → HasHand M seat (summed_hand v reading)
      → StaysRight M seat (with_hand M (queued_again S seat v) seat empty_hand)
  after_relation_returned relation v reading on_desk has =
      by_step (queued_again S seat v) (set M.hands seat empty_hand) (steps.returns_relation v (relation_in_hand relation v reading on_desk has))
      (other_desk (with_relation relation) empty_desk empty_hand on_desk refl)

  after_repair : (hand next : Hand) → HasHand M seat hand → Repairs p hand next → StaysRight M seat (with_hand M S seat next)
  after_repair hand next has repairs_it =
      by_hand (set M.hands seat next) (other_hand hand next has (λ desk is. repairs_right S right.sound right.covered desk hand next (sound_desk desk is) repairs_it (in_hand desk hand is has)))

  after_apply : (hand next : Hand) → HasHand M seat hand → Applies p hand next → StaysRight M seat (with_hand M S seat next)
  after_apply hand next has applies_it =
      by_hand (set M.hands seat next) (other_hand hand next has (λ desk is. applies_right S right.sound right.covered desk hand next (sound_desk desk is) applies_it (in_hand desk hand is has)))

-- events

for_seat : (M N : Machine) (event : Event) (seat : ℕ) → ((by : ℕ) → IsBy event by → seat ≡ by) → StaysRight M seat N → GoesRight M event N
for_seat M N event seat by_seat stays = record { shared = cases stays.shared; machine = stays.machine }
  where
    cases : Step M.shared seat N.shared ⊎ (N.shared ≡ M.shared) → ((by : ℕ) → IsBy event by → Step M.shared by N.shared) ⊎ (N.shared ≡ M.shared)
    cases (inl step) = inl (λ by is. subst (λ n. Step M.shared n N.shared) (by_seat by is) step)
    cases (inr same) = inr same

module _ (inverses : HasInverses) (closed : LevelsAreClosed) (M : Machine) (right : IsRightMachine M) where
  right_after : (event : Event) (N : Machine) → Move M event N → GoesRight M event N
  right_after event N (takes seat job can) = for_seat M N event seat (λ by is. is) (after_take inverses closed M right seat job can)
  right_after event N (reads seat hand can has) = for_seat M N event seat (λ by is. is) (after_read inverses closed M right seat hand has)
  right_after event N (submits seat job v reading on_desk has) = for_seat M N event seat (λ by is. is) (after_submit inverses closed M right seat job v reading on_desk has)
  right_after event N (lifts seat place v can) = for_seat M N event seat (λ by is. is) (after_lift inverses closed M right seat place v can)
  right_after event N (drops seat relation reading on_desk has) = for_seat M N event seat (λ by is. is) (after_drop inverses closed M right seat relation reading on_desk has)
  right_after event N (deletes seat relation v reading id forward on_desk has live drawn) =
      for_seat M N event seat (λ by is. is) (after_death inverses closed M right seat relation v reading id forward on_desk has live drawn)
  right_after event N (rewrites b x next can) = record {
    shared = inl (λ by is. steps.rewrites b x next can);
    machine = (by_step inverses closed M right 0 (with_next M.shared b x next) M.hands (steps.rewrites b x next can) right.right).machine;
  }
  right_after event N (returns_job seat job on_desk) = for_seat M N event seat (λ by is. is) (after_job_returned inverses closed M right seat job on_desk)
  right_after event N (returns_relation seat relation v reading on_desk has) = for_seat M N event seat (λ by is. is) (after_relation_returned inverses closed M right seat relation v reading on_desk has)
  right_after event N (repairs seat hand next has repairs_it) = for_seat M N event seat (λ by is. is) (after_repair inverses closed M right seat hand next has repairs_it)
  right_after event N (applies seat hand next has applies_it) = for_seat M N event seat (λ by is. is) (after_apply inverses closed M right seat hand next has applies_it)

pub moves_go_right : HasInverses → LevelsAreClosed → MovesGoRight
moves_go_right inverses closed M N event right move = right_after inverses closed M right event N move

-- from the opening on

hands_open : (O : ActionTable) (forwards : Forwards) (seats : ℕ) → AreRightHands O forwards (replicate seats empty_desk) (replicate seats empty_hand)
hands_open O forwards zero seat desk is = absurd (none-some desk is)
hands_open O forwards (suc seats) zero desk is = (empty_hand, refl, subst (λ d. IsRightHand O forwards d empty_hand) (same_some empty_desk desk is) refl)
hands_open O forwards (suc seats) (suc seat) desk is = hands_open O forwards seats seat desk is

goes_right : HasInverses → LevelsAreClosed → (M N : Machine) (events : List Event) → Goes M events N → IsRightMachine M → IsRightMachine N
goes_right inverses closed M N events nowhere right = right
goes_right inverses closed M N events (further earlier event K L goes move) right = (moves_go_right inverses closed K L event (goes_right inverses closed M K earlier goes right) move).machine
goes_right inverses closed M N events (passed_over earlier event K goes disabled) right = goes_right inverses closed M K earlier goes right

pub machines_stay_right : HasInverses → LevelsAreClosed → MachinesStayRight
machines_stay_right inverses closed O seats events M sound packed goes =
    let opened = states_open O seats sound packed in
    goes_right inverses closed (opened_machine O seats) M events goes (record { sound = opened.0; covered = opened.1; legal = opened.2; right = hands_open O O.forwards seats })
