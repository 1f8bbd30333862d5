-- Coefficients of vectors.
use Rattle.std.proofs.Common.{◌≡◌, ◌≢◌, ℕ, zero, suc, ◌%◌, ◌<◌, ◌≤◌, nat_eq, [], ◌∷◌, All, Some, slice_get, slice_index_or, length, ◌⊎◌, inl, inr, refl, sym, ap, ◌∙◌, arith}
use Rattle.std.proofs.Math.Nat.{mod-eq_of_lt, zero-mod}
use Rattle.std.proofs.lemmas.Bool.{cases_lt}
use Rattle.std.proofs.lemmas.Option.{slice_get-get_or}
use Rattle.std.proofs.lemmas.List.Elements.{All-head, All-tail, All-weaker}
use Rattle.ve_theory.specs.Residues.{Congruent}
use Rattle.ve_theory.specs.Combinations.{Combination, coefficient, AllBefore, IsReduced, IsReducedOf}
use Rattle.ve_vec.proofs.Coefficients.{coefficient-below, coefficient-first, coefficient-other}

before_at : (k : ℕ) (v : Combination ℕ) (at : ℕ) (t : ℕ × ℕ) → AllBefore ◌<◌ k v → slice_get v at ≡ Some t → t.0 < k
unfolding AllBefore
before_at k [] at t below e = absurd cc
before_at k (s ∷ v) zero t below e = let same : s ≡ t = cc in omega (arith, below.0, ap (λ r. r.0) same)
before_at k (s ∷ v) (suc at) t below e = before_at k v at t below.1 e

-- what a term of a vector is
pub record IsTerm (p : ℕ) (v : Combination ℕ) (b c : ℕ) : Type 0 where
  pub positive : 0 < c
  pub residue : c < p
  pub coefficient : coefficient nat_eq v b ≡ c

pub term_at : (p : ℕ) (v : Combination ℕ) (at : ℕ) (t : ℕ × ℕ) → IsReduced ◌<◌ p v → slice_get v at ≡ Some t → IsTerm p v t.0 t.1
unfolding IsReduced
term_at p [] at t reduced e = absurd cc
term_at p (s ∷ v) zero t reduced e =
    let same : s ≡ t = cc in
    let key : s.0 ≡ t.0 = ap (λ r. r.0) same in
    let coef : s.1 ≡ t.1 = ap (λ r. r.1) same in
    record {
      positive = omega (arith, reduced.0);
      residue = omega (arith, reduced.1);
      coefficient = ap (coefficient nat_eq (s ∷ v)) (sym key) ∙ omega (arith, coefficient-first s v, coefficient-below s.0 s.0 v (omega arith) reduced.2);
    }
term_at p (s ∷ v) (suc at) t reduced e =
    let rest : IsTerm p v t.0 t.1 = term_at p v at t reduced.3 e in
    record {
      positive = rest.positive;
      residue = rest.residue;
      coefficient = coefficient-other s v t.0 (let less = before_at s.0 v at t reduced.2 e in omega arith) ∙ rest.coefficient;
    }

-- a term's coefficient is not 0 modulo p
pub term_counts : (p : ℕ) (v : Combination ℕ) (b c : ℕ) → IsTerm p v b c → ¬ Congruent p (coefficient nat_eq v b) 0
term_counts p v b c term zero_there =
    let e : c % p ≡ 0 % p = ap (λ n. n % p) (sym term.coefficient) ∙ zero_there in
    let f : c ≡ 0 = sym (mod-eq_of_lt term.residue) ∙ (e ∙ zero-mod p) in
    omega (arith, term.positive)

-- an id that the sum lacks
coefficient-absent : (v : Combination ℕ) (k : ℕ) → All (λ t. t.0 ≢ k) v → coefficient nat_eq v k ≡ 0
unfolding coefficient
coefficient-absent [] k absent = refl
coefficient-absent (t ∷ v) k absent =
    coefficient-other t v k (All-head (λ (s : ℕ × ℕ). s.0 ≢ k) t v absent) ∙ coefficient-absent v k (All-tail (λ (s : ℕ × ℕ). s.0 ≢ k) t v absent)

pub vanishes_where_absent : (p : ℕ) (v : Combination ℕ) (k : ℕ) → All (λ t. t.0 ≢ k) v → Congruent p (coefficient nat_eq v k) 0
vanishes_where_absent p v k absent = ap (λ n. n % p) (coefficient-absent v k absent)

-- the vector of a sum has ids of the sum alone
pub ids_of_sum : (p n : ℕ) (v e : Combination ℕ) → IsReducedOf ◌<◌ nat_eq p v e → All (λ t. t.0 < n) e → All (λ t. t.0 < n) v
ids_of_sum p n v e sum below = λ at d within. inside at d within (cases_lt (slice_index_or v at d).0 n)
  where
    inside : (at : ℕ) (d : ℕ × ℕ) → at < length v → ((slice_index_or v at d).0 < n) ⊎ (n ≤ (slice_index_or v at d).0) → (slice_index_or v at d).0 < n
    inside at d within (inl less) = less
    inside at d within (inr past) =
        let k : ℕ = (slice_index_or v at d).0 in
        let absent : All (λ t. t.0 ≢ k) e = All-weaker (λ (t : ℕ × ℕ). t.0 < n) (λ (t : ℕ × ℕ). t.0 ≢ k) (λ t less same. omega arith) e below in
        absurd (term_counts p v k (slice_index_or v at d).1 (term_at p v at (slice_index_or v at d) sum.reduced (slice_get-get_or v at d within))
        (sum.alike k ∙ vanishes_where_absent p e k absent))
