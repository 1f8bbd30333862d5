-- Coefficients that are residues of a field.
use Rattle.std.proofs.Common.{ℕ, ◌<◌, List, [], ◌∷◌, All}
use Rattle.std.proofs.lemmas.List.Elements.{All-nil, All-cons, All-head, All-tail}
use Rattle.ve_theory.specs.Combinations.{Combination, IsReduced}
use Rattle.ve_vec.specs.declared.term.Term.{Term}
use Rattle.ve_vec.specs.Terms.{pair_of, pairs}

pub residues_of_pairs : (p : ℕ) (xs : List Term) → All (λ (t : Term). t.coef < p) xs → All (λ (t : ℕ × ℕ). t.1 < p) (pairs xs)
residues_of_pairs p [] all = All-nil (λ (t : ℕ × ℕ). t.1 < p)
residues_of_pairs p (x ∷ xs) all =
    All-cons (λ (t : ℕ × ℕ). t.1 < p) (pair_of x) (pairs xs) (All-head (λ (t : Term). t.coef < p) x xs all)
    (residues_of_pairs p xs (All-tail (λ (t : Term). t.coef < p) x xs all))

pub residues_of_terms : (p : ℕ) (xs : List Term) → All (λ (t : ℕ × ℕ). t.1 < p) (pairs xs) → All (λ (t : Term). t.coef < p) xs
residues_of_terms p [] all = All-nil (λ (t : Term). t.coef < p)
residues_of_terms p (x ∷ xs) all =
    All-cons (λ (t : Term). t.coef < p) x xs (All-head (λ (t : ℕ × ℕ). t.1 < p) (pair_of x) (pairs xs) all)
    (residues_of_terms p xs (All-tail (λ (t : ℕ × ℕ). t.1 < p) (pair_of x) (pairs xs) all))

pub IsReduced-residues : (p q : ℕ) (v : Combination ℕ) → IsReduced ◌<◌ q v → All (λ (t : ℕ × ℕ). t.1 < p) v → IsReduced ◌<◌ p v
unfolding IsReduced
IsReduced-residues p q [] reduced all = tt
IsReduced-residues p q (t ∷ v) reduced all =
    (reduced.0, All-head (λ (t : ℕ × ℕ). t.1 < p) t v all, reduced.2, IsReduced-residues p q v reduced.3 (All-tail (λ (t : ℕ × ℕ). t.1 < p) t v all))
