-- Sums over a span of ids.
use Rattle.std.specs.Prelude.{ℕ, ◌+◌, ◌≤◌, All, List, [], ◌∷◌}
use Rattle.ve_theory.specs.Combinations.{Combination}

-- a sum over the ids from `low` to `high`
pub record SpanSum : Type 0 where
  pub low : ℕ
  pub high : ℕ
  pub total : Combination ℕ

-- each id of the vector is from `low` to `high`
abbrev pub AllBetween : ℕ → ℕ → Combination ℕ → Type 0
AllBetween low high v = All (λ t. (low ≤ t.0) × (t.0 ≤ high)) v

-- the numbers as the coefficients of the ids from `low` on
unfoldable pub spanned : ℕ → List ℕ → Combination ℕ
spanned low [] = []
spanned low (n ∷ numbers) = (low, n) ∷ spanned (low + 1) numbers
