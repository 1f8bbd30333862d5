-- Products of a vector with the first letters of a word.
use Rattle.std.specs.Prelude.{◌≡◌, ℕ, ◌+◌, ◌<◌, ◌≤◌, List, length, nat_eq, slice_index_or, take}
use Rattle.ve_theory.specs.Combinations.{Combination, IsReducedOf}
use Rattle.ve_vec.specs.Tracing.{PartialTable, vector_times_letters}

-- each of the vectors is the start times as many first letters as stand before it
pub record ArePrefixes (p : ℕ) (rows : PartialTable) (start : Combination ℕ) (letters : List ℕ) (products : List (Combination ℕ)) : Type 0 where
  pub some : 0 < length products
  pub within : length products ≤ length letters + 1
  pub each : (i : ℕ) (d : Combination ℕ) → i < length products → IsReducedOf ◌<◌ nat_eq p (slice_index_or products i d) (vector_times_letters rows start (take i letters))

-- there is one for each first part of the word
pub record AreAllPrefixes (p : ℕ) (rows : PartialTable) (start : Combination ℕ) (letters : List ℕ) (products : List (Combination ℕ)) : Type 0 where
  pub prefixes : ArePrefixes p rows start letters products
  pub all : length products ≡ length letters + 1
