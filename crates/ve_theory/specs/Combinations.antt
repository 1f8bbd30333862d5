-- Formal sums over any kind of key: words, lists of letters, places of a basis.
use Rattle.std.specs.Prelude.{ℕ, ◌+◌, ◌*◌, ◌-◌, ◌<◌, Bool, cond, List, [], ◌∷◌, ◌++◌}
use Rattle.ve_theory.specs.Residues.{Congruent}

-- A formal sum: keys with natural coefficients, in any order, where a key may stand more than once.
-- The sum of two is `u ++ v`.
abbrev pub Combination : Type 0 → Type 0
Combination K = List (K × ℕ)

-- one key, once
abbrev pub unit : {K : Type 0} → K → Combination K
unit k = (k, 1) ∷ []

-- c times the sum
unfoldable pub scaled : {K : Type 0} → ℕ → Combination K → Combination K
scaled c [] = []
scaled c (t ∷ v) = (t.0, c * t.1) ∷ scaled c v

-- u minus v, modulo p
abbrev pub difference : {K : Type 0} → ℕ → Combination K → Combination K → Combination K
difference p u v = u ++ scaled (p - 1) v

-- each key replaced by a sum
unfoldable pub extended : {J K : Type 0} → (J → Combination K) → Combination J → Combination K
extended f [] = []
extended f (t ∷ v) = scaled t.1 (f t.0) ++ extended f v

-- the coefficient of k, where `same` tells equal keys
unfoldable pub coefficient : {K : Type 0} → (K → K → Bool) → Combination K → K → ℕ
coefficient same [] k = 0
coefficient same (t ∷ v) k = cond (same t.0 k) t.1 0 + coefficient same v k

-- all coefficients are equal modulo p
abbrev pub Alike : {K : Type 0} → (K → K → Bool) → ℕ → Combination K → Combination K → Type 0
Alike {K} same p u v = (k : K) → Congruent p (coefficient same u k) (coefficient same v k)

-- each key of v is before k
unfoldable pub AllBefore : {K : Type 0} → (K → K → Type 0) → K → Combination K → Type 0
AllBefore before k [] = Unit {0}
AllBefore before k (t ∷ v) = before t.0 k × AllBefore before k v

-- keys fall strictly in the order `before`, and coefficients are residues other than 0
unfoldable pub IsReduced : {K : Type 0} → (K → K → Type 0) → ℕ → Combination K → Type 0
IsReduced before p [] = Unit {0}
IsReduced before p (t ∷ v) = (0 < t.1) × (t.1 < p) × AllBefore before t.0 v × IsReduced before p v

-- v is the one reduced list that is alike to the sum e
pub record IsReducedOf {K : Type 0} (before : K → K → Type 0) (same : K → K → Bool) (p : ℕ) (v e : Combination K) : Type 0 where
  pub reduced : IsReduced before p v
  pub alike : Alike same p v e
