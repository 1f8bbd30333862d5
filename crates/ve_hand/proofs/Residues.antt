-- Coefficients of reduced sums.
use Rattle.std.proofs.Common.{ℕ, ◌<◌, [], ◌∷◌, All}
use Rattle.std.proofs.lemmas.List.Elements.{All-cons, All-nil}
use Rattle.ve_theory.specs.Combinations.{Combination, IsReduced}

pub residues_of : {K : Type 0} (before : K → K → Type 0) (p : ℕ) (v : Combination K) → IsReduced before p v → All (λ t. t.1 < p) v
unfolding IsReduced
residues_of {K} before p [] reduced = All-nil (λ (t : K × ℕ). t.1 < p)
residues_of {K} before p (t ∷ v) reduced = All-cons (λ (s : K × ℕ). s.1 < p) t v reduced.1 (residues_of before p v reduced.3)
