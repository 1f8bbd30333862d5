-- Relations in the hands of seats.
use Rattle.std.proofs.Common.{◌≡◌, ℕ, Some, refl, sym, ap, subst, ◌∙◌}
use Rattle.std.proofs.lemmas.List.Elements.{Contains-push}
use Rattle.ve_theory.specs.Answers.{Row}
use Rattle.ve_machine.specs.Seats.{HasDesk, with_relation}
use Rattle.ve_machine.specs.SharedSteps.{HasRelation, queued_again, returns_relation}
use Rattle.ve_machine.specs.SharedLaws.{StepsKeepSound}
use Rattle.ve_machine.specs.Covered.{IsRelation}
use Rattle.ve_machine.specs.Hands.{Hand, Reading, beginning_hand, empty_hand, summed_hand, tracing_hand}
use Rattle.ve_machine.specs.ImageHands.{IsHandOfRelation, IsLifted}
use Rattle.ve_machine.specs.Machines.{HasHand, IsRightMachine, Machine}
use Rattle.ve_machine.proofs.RightHands.{hand_at}

module _ (M : Machine) (right : IsRightMachine M) (seat : ℕ) (relation : Row) (on_desk : HasDesk M.shared seat (with_relation relation)) where
  pub lifted_vector : (v : Row) (reading : Reading) → HasHand M seat (summed_hand v reading) → IsLifted M.shared.opening M.shared.forwards relation v reading
  lifted_vector v reading has = hand_at M.shared.opening M.shared.forwards M.shared.desks M.hands right.right seat (with_relation relation) (summed_hand v reading) on_desk has

  pub still_relation : (v : Row) (reading : Reading) → HasHand M seat (summed_hand v reading) → HasRelation M.shared seat v
  still_relation v reading has = let lifted = lifted_vector v reading has in record { relation = relation; on_desk = on_desk; vector = lifted.vector_on; same = lifted.same }

  -- the vector vanishes too
  pub vector_vanishes : StepsKeepSound → (v : Row) (reading : Reading) → HasHand M seat (summed_hand v reading) → IsRelation M.shared.opening v
  vector_vanishes keeps v reading has =
      let after = keeps M.shared (queued_again M.shared seat v) seat right.sound (returns_relation v (still_relation v reading has)) in
      let last = Contains-push M.shared.queue v in
      subst (IsRelation M.shared.opening) last.2 (after.queue last.0 v last.1)

  vector_of : (hand : Hand) → IsHandOfRelation M.shared.opening M.shared.forwards relation hand → (v : Row) × (reading : Reading) × (hand ≡ summed_hand v reading)
  vector_of empty_hand is = absurd is
  vector_of (beginning_hand sum part parts reading) is = absurd is
  vector_of (tracing_hand sum coefficient parts vector left reading) is = absurd is
  vector_of (summed_hand v reading) is = (v, reading, refl)

  -- the seat has its relation in its hand
  pub relation_in_hand : (v : Row) × (reading : Reading) × HasHand M seat (summed_hand v reading)
  relation_in_hand =
      let hand = right.right seat (with_relation relation) on_desk in
      let vector = vector_of hand.0 hand.2 in
      (vector.0, vector.1, hand.1 ∙ ap Some vector.2)

pub same_vector : (M : Machine) (seat : ℕ) (v w : Row) (first second : Reading) → HasHand M seat (summed_hand v first) → HasHand M seat (summed_hand w second) → v ≡ w
same_vector M seat v w first second has also = let same : Some (summed_hand v first) ≡ Some (summed_hand w second) = sym has ∙ also in cc
