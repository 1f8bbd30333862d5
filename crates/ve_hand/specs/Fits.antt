-- Hands over a field: their vectors are reduced, and the coefficients of their parts are residues.
use Rattle.std.specs.Prelude.{ℕ, ◌<◌, All, List}
use Rattle.ve_theory.specs.Combinations.{IsReduced}
use Rattle.ve_theory.specs.Answers.{Row}
use Rattle.ve_machine.specs.Hands.{Found, Hand, Part, Reading, beginning_hand, empty_hand, forward_found, none_found, read_forward, read_ids, read_image, row_found, summed_hand, tracing_hand, unread}

abbrev pub FitsPart : ℕ → Part → Type 0
FitsPart p part = part.coefficient < p

abbrev pub FitsFound : ℕ → Found → Type 0
FitsFound p (row_found row) = IsReduced ◌<◌ p row
FitsFound p (forward_found forward) = IsReduced ◌<◌ p forward
FitsFound p none_found = Unit {0}

abbrev pub FitsReading : ℕ → Reading → Type 0
FitsReading p unread = Unit {0}
FitsReading p (read_image image) = IsReduced ◌<◌ p image
FitsReading p (read_forward row forward) = IsReduced ◌<◌ p row × IsReduced ◌<◌ p forward
FitsReading p (read_ids founds) = All (FitsFound p) founds

pub record FitsBeginning (p : ℕ) (sum : Row) (part : Part) (parts : List Part) (reading : Reading) : Type 0 where
  pub sum_fits : IsReduced ◌<◌ p sum
  pub part_fits : FitsPart p part
  pub parts_fit : All (FitsPart p) parts
  pub read_fits : FitsReading p reading

pub record FitsTracing (p : ℕ) (sum : Row) (coefficient : ℕ) (parts : List Part) (vector : Row) (reading : Reading) : Type 0 where
  pub sum_fits : IsReduced ◌<◌ p sum
  pub residue : coefficient < p
  pub parts_fit : All (FitsPart p) parts
  pub vector_fits : IsReduced ◌<◌ p vector
  pub read_fits : FitsReading p reading

pub record FitsSummed (p : ℕ) (vector : Row) (reading : Reading) : Type 0 where
  pub vector_fits : IsReduced ◌<◌ p vector
  pub read_fits : FitsReading p reading

abbrev pub FitsHand : ℕ → Hand → Type 0
FitsHand p empty_hand = Unit {0}
FitsHand p (beginning_hand sum part parts reading) = FitsBeginning p sum part parts reading
FitsHand p (tracing_hand sum coefficient parts vector left reading) = FitsTracing p sum coefficient parts vector reading
FitsHand p (summed_hand vector reading) = FitsSummed p vector reading
