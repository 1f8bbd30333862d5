-- What is right about the hand of an image job, and of a relation; machines with their hands.
use Rattle.std.specs.Prelude.{◌≡◌, ℕ, ◌-◌, ◌<◌, ◌++◌, List, [], ◌∷◌, All, nat_eq, length}
use Rattle.ve_theory.specs.Combinations.{difference, extended, scaled, unit, Alike}
use Rattle.ve_theory.specs.Answers.{Row}
use Rattle.ve_vec.specs.Tracing.{row_or_zero}
use Rattle.ve_table.specs.Tables.{ActionTable, presented, row_at}
use Rattle.ve_machine.specs.Forwards.{Forwards, IsForwarding, stand_in}
use Rattle.ve_machine.specs.Jobs.{HasForward, IsKnownBelow, image_value, relator_value, submodule_value}
use Rattle.ve_machine.specs.Seats.{Desk, empty_desk, image_job, relator_job, submodule_job, with_job, with_relation}
use Rattle.ve_machine.specs.SharedJobs.{IsVectorOn}
use Rattle.ve_machine.specs.Hands.{Hand, Part, Reading, beginning_hand, empty_hand, from_forward, read_forward, read_ids, read_image, summed_hand, tracing_hand, unread}
use Rattle.ve_machine.specs.RightHands.{IsHandOfElement, IsReadFor}

-- a vector of the table's ids, in any order
abbrev pub IsSumOn : ActionTable → Row → Type 0
IsSumOn O v = All (λ t. t.0 < length O.words) v

-- what was read for the beginning is the opening's row, but for forwards, and the forward of the id
abbrev pub IsForwardRead : ActionTable → Forwards → ℕ → ℕ → Reading → Type 0
IsForwardRead O forwards b x unread = Unit {0}
IsForwardRead O forwards b x (read_image image) = ⊥
IsForwardRead O forwards b x (read_forward row forward) =
    IsForwarding (presented O).prime forwards (difference (presented O).prime (row_or_zero (row_at O) x b) row) × IsSumOn O row × HasForward forwards b forward
IsForwardRead O forwards b x (read_ids founds) = ⊥

-- the one part of the job
abbrev pub image_part : ℕ → ℕ → Part
image_part b x = record { beginning = from_forward b x; letters = x ∷ []; coefficient = 1 }

pub record IsImageBeginning (O : ActionTable) (forwards : Forwards) (b x : ℕ) (sum : Row) (part : Part) (parts : List Part) (reading : Reading) : Type 0 where
  pub none_summed : sum ≡ []
  pub is_part : part ≡ image_part b x
  pub only : parts ≡ []
  pub read : IsForwardRead O forwards b x reading

-- a combination of ids below b, each less the vector that stands for it
pub record IsForwardingBelow (p : ℕ) (forwards : Forwards) (b : ℕ) (v : Row) : Type 0 where
  pub by : Row
  pub below : All (λ t. t.0 < b) by
  pub sum : Alike nat_eq p v (extended (λ c. difference p (unit c) (stand_in forwards c)) by)

-- before the letter: the sum is the row, but for forwards, and the vector is the negative of the forward, but for lower ids
pub record IsBeforeLetter (O : ActionTable) (forwards : Forwards) (b x : ℕ) (sum vector : Row) (y : ℕ) : Type 0 where
  pub letter : y ≡ x
  pub sum_is_row : IsForwarding (presented O).prime forwards (difference (presented O).prime (row_or_zero (row_at O) x b) sum)
  pub lower : All (λ t. t.0 < b) vector
  pub is_negative : IsForwardingBelow (presented O).prime forwards b
      (difference (presented O).prime (scaled ((presented O).prime - 1) (stand_in forwards b)) vector)

-- after it: the value less both is known by what is below
abbrev pub IsImageSoFar : ActionTable → Forwards → ℕ → ℕ → Row → Row → List ℕ → Type 0
IsImageSoFar O forwards b x sum vector [] = IsKnownBelow O forwards b x (difference (presented O).prime (image_value O forwards b x) (sum ++ vector))
IsImageSoFar O forwards b x sum vector (y ∷ []) = IsBeforeLetter O forwards b x sum vector y
IsImageSoFar O forwards b x sum vector (y ∷ z ∷ left) = ⊥

pub record IsImageTracing (O : ActionTable) (forwards : Forwards) (b x : ℕ) (sum : Row) (coefficient : ℕ) (parts : List Part) (vector : Row) (left : List ℕ) (reading : Reading) : Type 0 where
  pub once : coefficient ≡ 1
  pub only : parts ≡ []
  pub sum_on : IsSumOn O sum
  pub vector_on : IsSumOn O vector
  pub so_far : IsImageSoFar O forwards b x sum vector left
  pub read : IsReadFor O forwards left vector reading

pub record IsImageSummed (O : ActionTable) (forwards : Forwards) (b x : ℕ) (vector : Row) (reading : Reading) : Type 0 where
  pub vector_on : IsVectorOn O vector
  pub known : IsKnownBelow O forwards b x (difference (presented O).prime (image_value O forwards b x) vector)
  pub read : IsReadFor O forwards [] vector reading

abbrev pub IsHandOfImage : ActionTable → Forwards → ℕ → ℕ → Hand → Type 0
IsHandOfImage O forwards b x empty_hand = ⊥
IsHandOfImage O forwards b x (beginning_hand sum part parts reading) = IsImageBeginning O forwards b x sum part parts reading
IsHandOfImage O forwards b x (tracing_hand sum coefficient parts vector left reading) = IsImageTracing O forwards b x sum coefficient parts vector left reading
IsHandOfImage O forwards b x (summed_hand vector reading) = IsImageSummed O forwards b x vector reading

-- the vector is the relation, but for forwards
pub record IsLifted (O : ActionTable) (forwards : Forwards) (relation vector : Row) (reading : Reading) : Type 0 where
  pub vector_on : IsVectorOn O vector
  pub same : IsForwarding (presented O).prime forwards (difference (presented O).prime vector relation)
  pub read : IsReadFor O forwards [] vector reading

abbrev pub IsHandOfRelation : ActionTable → Forwards → Row → Hand → Type 0
IsHandOfRelation O forwards relation empty_hand = ⊥
IsHandOfRelation O forwards relation (beginning_hand sum part parts reading) = ⊥
IsHandOfRelation O forwards relation (tracing_hand sum coefficient parts vector left reading) = ⊥
IsHandOfRelation O forwards relation (summed_hand vector reading) = IsLifted O forwards relation vector reading

-- a hand is right for what is on the desk
abbrev pub IsRightHand : ActionTable → Forwards → Desk → Hand → Type 0
IsRightHand O forwards empty_desk hand = hand ≡ empty_hand
IsRightHand O forwards (with_job (relator_job b number)) hand = IsHandOfElement O forwards (relator_value O b number) hand
IsRightHand O forwards (with_job (submodule_job number)) hand = IsHandOfElement O forwards (submodule_value O number) hand
IsRightHand O forwards (with_job (image_job b x)) hand = IsHandOfImage O forwards b x hand
IsRightHand O forwards (with_relation v) hand = IsHandOfRelation O forwards v hand
