-- What is read from a state is what is read from its table.
use Rattle.std.proofs.Common.{◌≡◌, ℕ, None, Some, List, [], ◌∷◌, refl, sym, ap, ap₂, ◌∙◌}
use Rattle.std.specs.Prelude.{Option, slice_index_or}
use Rattle.ve_theory.specs.Answers.{Row}
use Rattle.ve_table.specs.Tables.{ActionTable}
use Rattle.ve_machine.specs.Seats.{State, opened_state, present}
use Rattle.ve_machine.specs.Hands.{Beginning, Found, Hand, beginning_hand, empty_hand, from_forward, from_id, from_image, read_ids, summed_hand, tracing_hand}
use Rattle.ve_machine.specs.HandSteps.{found_at, found_for, read_for, read_hand}

-- a state with the same table
abbrev pub of_table : ActionTable → State
of_table T = opened_state T 0

module _ (S : State) where
  at_same : (left : List ℕ) (b : ℕ) (forward : Option Row) → found_at (of_table (present S)) left b forward ≡ found_at S left b forward
  at_same left b (Some forward) = refl
  at_same [] b None = refl
  at_same (x ∷ left) b None = refl

  founds_same : (left : List ℕ) (vector : Row) → found_for (of_table (present S)) left vector ≡ found_for S left vector
  founds_same left [] = refl
  founds_same left (t ∷ vector) = ap₂ (λ (found : Found) (founds : List Found). found ∷ founds) (at_same left t.0 (slice_index_or S.forwards t.0 None)) (founds_same left vector)

  beginning_same : (beginning : Beginning) → read_for (of_table (present S)) beginning ≡ read_for S beginning
  beginning_same (from_id b) = refl
  beginning_same (from_image i) = refl
  beginning_same (from_forward b x) = refl

  hand_same : (hand : Hand) → read_hand (of_table (present S)) hand ≡ read_hand S hand
  hand_same empty_hand = refl
  hand_same (beginning_hand sum part parts reading) = ap (beginning_hand sum part parts) (beginning_same part.beginning)
  hand_same (tracing_hand sum coefficient parts vector left reading) = ap (λ founds. tracing_hand sum coefficient parts vector left (read_ids founds)) (founds_same left vector)
  hand_same (summed_hand vector reading) = ap (λ founds. summed_hand vector (read_ids founds)) (founds_same [] vector)

pub read_same : (S : State) (T : ActionTable) (hand : Hand) → present S ≡ T → read_hand (of_table T) hand ≡ read_hand S hand
read_same S T hand is = ap (λ table. read_hand (of_table table) hand) (sym is) ∙ hand_same S hand
