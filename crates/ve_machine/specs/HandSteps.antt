-- What seats do with their hands: what a read gives, and how a hand is repaired and goes on.
use Rattle.std.specs.Prelude.{ℕ, ◌-◌, ◌<◌, ◌++◌, All, List, [], ◌∷◌, Contains, Option, Some, None, map, nat_eq, slice_index_or}
use Rattle.ve_theory.specs.Combinations.{IsReducedOf, scaled}
use Rattle.ve_theory.specs.Answers.{Row}
use Rattle.ve_vec.specs.Tracing.{row_or_zero}
use Rattle.ve_table.specs.Tables.{row_at}
use Rattle.ve_machine.specs.Forwards.{stand_in}
use Rattle.ve_machine.specs.Seats.{State, present}
use Rattle.ve_machine.specs.Hands.{Beginning, Found, Hand, Part, Reading, beginning_hand, empty_hand, forward_found, from_forward, from_id, from_image, next_hand, none_found, read_forward, read_ids, read_image, row_found, summed_hand, tracing_hand, unread}

-- what is read for an id: the forward of a dead one, and of a live one its row at the next letter, where a letter is next
abbrev pub found_at : State → List ℕ → ℕ → Option Row → Found
found_at S left b (Some forward) = forward_found forward
found_at S [] b None = none_found
found_at S (x ∷ left) b None = row_found (row_or_zero (row_at (present S)) x b)

abbrev pub found_for : State → List ℕ → Row → List Found
found_for S left vector = map (λ t. found_at S left t.0 (slice_index_or S.forwards t.0 None)) vector

-- what is read for a beginning
abbrev pub read_for : State → Beginning → Reading
read_for S (from_id b) = unread
read_for S (from_image i) = read_image (slice_index_or S.opening.images i [])
read_for S (from_forward b x) = read_forward (row_or_zero (row_at (present S)) x b) (stand_in S.forwards b)

-- the hand with a new read
abbrev pub read_hand : State → Hand → Hand
read_hand S empty_hand = empty_hand
read_hand S (beginning_hand sum part parts reading) = beginning_hand sum part parts (read_for S part.beginning)
read_hand S (tracing_hand sum coefficient parts vector left reading) = tracing_hand sum coefficient parts vector left (read_ids (found_for S left vector))
read_hand S (summed_hand vector reading) = summed_hand vector (read_ids (found_for S [] vector))

-- the vector with the forwards that were read in their ids' places
abbrev pub repaired : List Found → Row → Row
repaired [] vector = vector
repaired (found ∷ founds) [] = []
repaired (row_found row ∷ founds) (t ∷ vector) = t ∷ repaired founds vector
repaired (none_found ∷ founds) (t ∷ vector) = t ∷ repaired founds vector
repaired (forward_found forward ∷ founds) (t ∷ vector) = scaled t.1 forward ++ repaired founds vector

-- the sum of the rows that were read, each times its id's coefficient
abbrev pub multiplied_by : List Found → Row → Row
multiplied_by [] vector = []
multiplied_by (found ∷ founds) [] = []
multiplied_by (row_found row ∷ founds) (t ∷ vector) = scaled t.1 row ++ multiplied_by founds vector
multiplied_by (none_found ∷ founds) (t ∷ vector) = multiplied_by founds vector
multiplied_by (forward_found forward ∷ founds) (t ∷ vector) = multiplied_by founds vector

abbrev pub HasForwards : List Found → Type 0
HasForwards founds = (forward : Row) × Contains founds (forward_found forward)

abbrev pub IsRowFound : Found → Type 0
IsRowFound (row_found row) = Unit {0}
IsRowFound (forward_found forward) = ⊥
IsRowFound none_found = ⊥

-- all forwards that were read are put in their ids' places at once
pub data Repairs (p : ℕ) : Hand → Hand → Type 0 where
  repairs_part : (sum : Row) (coefficient : ℕ) (parts : List Part) (vector next : Row) (left : List ℕ) (founds : List Found) → HasForwards founds
      → IsReducedOf ◌<◌ nat_eq p next (repaired founds vector)
      → Repairs p (tracing_hand sum coefficient parts vector left (read_ids founds)) (tracing_hand sum coefficient parts next left unread)
  repairs_sum : (vector next : Row) (founds : List Found) → HasForwards founds → IsReducedOf ◌<◌ nat_eq p next (repaired founds vector)
      → Repairs p (summed_hand vector (read_ids founds)) (summed_hand next unread)

-- A part begins with what was read for it; its vector is multiplied by the next letter; where no letter is left it is summed.
pub data Applies (p : ℕ) : Hand → Hand → Type 0 where
  begins_image : (sum : Row) (part : Part) (parts : List Part) (image : Row)
      → Applies p (beginning_hand sum part parts (read_image image)) (tracing_hand sum part.coefficient parts image part.letters unread)
  begins_forward : (sum next vector : Row) (part : Part) (parts : List Part) (row forward : Row)
      → IsReducedOf ◌<◌ nat_eq p next (sum ++ row) → IsReducedOf ◌<◌ nat_eq p vector (scaled (p - 1) forward)
      → Applies p (beginning_hand sum part parts (read_forward row forward)) (tracing_hand next part.coefficient parts vector part.letters unread)
  multiplies : (sum : Row) (coefficient : ℕ) (parts : List Part) (vector next : Row) (x : ℕ) (left : List ℕ) (founds : List Found) → All IsRowFound founds
      → IsReducedOf ◌<◌ nat_eq p next (multiplied_by founds vector)
      → Applies p (tracing_hand sum coefficient parts vector (x ∷ left) (read_ids founds)) (tracing_hand sum coefficient parts next left unread)
  sums : (sum next : Row) (coefficient : ℕ) (parts : List Part) (vector : Row) (reading : Reading)
      → IsReducedOf ◌<◌ nat_eq p next (sum ++ scaled coefficient vector)
      → Applies p (tracing_hand sum coefficient parts vector [] reading) (next_hand next parts)
