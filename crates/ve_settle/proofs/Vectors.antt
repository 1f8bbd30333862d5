-- Vectors, walked along from term to term.
use Rattle.std.proofs.Common.{◌≡◌, ℕ, zero, suc, ◌+◌, ◌<◌, Some, [], ◌∷◌, ◌++◌, take, All, ap, add-one, subst}
use Rattle.std.specs.Prelude.{slice_get}
use Rattle.std.proofs.lemmas.List.Elements.{All-get_or}
use Rattle.std.proofs.lemmas.Option.{slice_get_within, get_or_from_slice_get}
use Rattle.ve_theory.specs.Combinations.{Combination, IsReduced}

-- one term more
pub part_more : (v : Combination ℕ) (i : ℕ) (t : ℕ × ℕ) → slice_get v i ≡ Some t → take (i + 1) v ≡ take i v ++ t ∷ []
part_more v i t found = rw add-one (more v i found)
  where
    more : (v : Combination ℕ) (i : ℕ) → slice_get v i ≡ Some t → take (suc i) v ≡ take i v ++ t ∷ []
    more [] i found = cc
    more (s ∷ v) zero found = let same : s ≡ t = cc in ap (λ r. r ∷ []) same
    more (s ∷ v) (suc i) found = ap (λ l. s ∷ l) (more v i found)

-- what holds of each term
pub term_all : (P : ℕ × ℕ → Type 0) (v : Combination ℕ) (i : ℕ) (t : ℕ × ℕ) → slice_get v i ≡ Some t → All P v → P t
term_all P v i t found all = subst P (get_or_from_slice_get v i t t found) (All-get_or P v i t (slice_get_within v i t found) all)

-- a coefficient is a residue other than 0
pub term_residue : (p : ℕ) (v : Combination ℕ) (i : ℕ) (t : ℕ × ℕ) → IsReduced ◌<◌ p v → slice_get v i ≡ Some t → (0 < t.1) × (t.1 < p)
unfolding IsReduced
term_residue p [] i t reduced found = cc
term_residue p (s ∷ v) zero t reduced found = let same : s ≡ t = cc in rw (← same) (reduced.0, reduced.1)
term_residue p (s ∷ v) (suc i) t reduced found = term_residue p v i t reduced.3 found
