-- Forwards: the vectors that stand for dead ids. A list has a place for each id, and none where the id is live.
use Rattle.std.specs.Prelude.{◌≡◌, ℕ, ◌<◌, ◌++◌, List, [], ◌∷◌, Option, None, Some, All, slice_get, slice_index_or, unwrap_or, nat_eq}
use Rattle.ve_theory.specs.Combinations.{unit, scaled, difference, extended, Alike, IsReduced, IsReducedOf}
use Rattle.ve_theory.specs.Answers.{Row}
use Rattle.ve_vec.specs.Tracing.{PartialTable, row_or_zero, vector_times}

abbrev pub Forwards : Type 0
Forwards = List (Option Row)

-- the vector that stands for an id: its forward where it is dead, and the id itself where it is live
abbrev pub stand_in : Forwards → ℕ → Row
stand_in forwards b = unwrap_or (slice_index_or forwards b None) (unit b)

-- a combination of ids, each less the vector that stands for it
pub record IsForwarding (p : ℕ) (forwards : Forwards) (v : Row) : Type 0 where
  pub by : Row
  pub sum : Alike nat_eq p v (extended (λ b. difference p (unit b) (stand_in forwards b)) by)

-- each id of the vector is live
abbrev pub AreLive : Forwards → Row → Type 0
AreLive forwards v = All (λ t. slice_get forwards t.0 ≡ Some None) v

-- the vector with live ids alone that a vector is equal to, where each dead id is its forward
pub record IsResolved (p : ℕ) (forwards : Forwards) (v w : Row) : Type 0 where
  pub reduced : IsReduced ◌<◌ p w
  pub live : AreLive forwards w
  pub forwarding : IsForwarding p forwards (difference p v w)

-- the row with each dead id replaced by its forward, once
abbrev pub IsRewritten : ℕ → Forwards → Row → Row → Type 0
IsRewritten p forwards row next = IsReducedOf ◌<◌ nat_eq p next (extended (stand_in forwards) row)

-- the forward that a vanishing vector gives its greatest id: the coefficient times the forward, and the other terms, add up to zero
pub record IsDrawnFrom (p : ℕ) (v : Row) (id : ℕ) (forward : Row) : Type 0 where
  pub coefficient : ℕ
  pub others : Row
  pub first : v ≡ (id, coefficient) ∷ others
  pub reduced : IsReduced ◌<◌ p forward
  pub sum : Alike nat_eq p (scaled coefficient forward ++ others) []

-- the row of a dead id at a letter, less the same combination of rows as its forward has of ids
abbrev pub image_difference : ℕ → PartialTable → Forwards → ℕ → ℕ → Row
image_difference p rows forwards dead x = difference p (row_or_zero rows x dead) (vector_times rows (stand_in forwards dead) x)
