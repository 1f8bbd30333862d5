-- Parts of vectors, and rows of their ids.
use Rattle.std.specs.Prelude.{◌≡◌, ◌≢◌, ℕ, ◌-◌, ◌<◌, ◌≤◌, All, None, Some, slice_get, take, drop}
use Rattle.ve_theory.specs.Combinations.{Combination}
use Rattle.ve_vec.specs.Spans.{AllBetween}
use Rattle.ve_vec.specs.Tracing.{PartialTable}

-- the terms from one place up to another
abbrev pub part : ℕ → ℕ → Combination ℕ → Combination ℕ
part from to v = take (to - from) (drop from v)

-- each id of the vector has a row at the letter
abbrev pub HasRows : PartialTable → Combination ℕ → ℕ → Type 0
HasRows rows v x = All (λ t. rows t.0 x ≢ None) v

-- the rows that a part of the vector has at the letter have their ids from `low` to `high`
abbrev pub AreRowsBetween : PartialTable → Combination ℕ → ℕ → ℕ → ℕ → ℕ → ℕ → Type 0
AreRowsBetween rows v x from to low high =
    (at b c : ℕ) (row : Combination ℕ) → from ≤ at → at < to → slice_get v at ≡ Some (b, c) → rows b x ≡ Some row → AllBetween low high row
