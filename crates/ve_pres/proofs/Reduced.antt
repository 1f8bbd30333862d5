-- Reduced lists: terms whose keys fall strictly, with residues other than 0 as coefficients.
use Rattle.std.proofs.Common.{◌≡◌, ℕ, ◌+◌, ◌%◌, ◌<◌, Bool, true, false, cond, [], ◌∷◌, ◌++◌, All, refl, sym, ap, ap₂, ◌∙◌, subst, slice_index_or, arith}
use Rattle.std.proofs.Math.Nat.{mod-eq_of_lt, zero-mod}
use Rattle.std.proofs.lemmas.Bool.{cond-true, cond-false, false_from_ne_true}
use Rattle.std.proofs.lemmas.List.Elements.{All-nil, All-cons, All-head, All-tail, All-append, All-weaker}
use Rattle.ve_theory.specs.Combinations.{Combination, coefficient, AllBefore, IsReduced, IsReducedOf}
use Rattle.ve_theory.specs.Words.{Word, same_word, Shortlex}
use Rattle.ve_lemmas.proofs.Words.{Decides-same_word}
use Rattle.ve_lemmas.proofs.Sums.{All_from_AllBefore, AllBefore_from_All, coefficient-absent}
use Rattle.ve_pres.proofs.Orders.{shortlex_irreflexive}

-- lists that are built from the front to the end

pub IsReduced-push : {K : Type 0} (before : K → K → Type 0) (p : ℕ) (v : Combination K) (t : K × ℕ) → IsReduced before p v → All (λ s. before t.0 s.0) v → 0 < t.1 → t.1 < p
    → IsReduced before p (v ++ t ∷ [])
unfolding IsReduced AllBefore
IsReduced-push before p [] t h above positive residue = (positive, residue, tt, tt)
IsReduced-push {K} before p (s ∷ v) t h above positive residue = (
  h.0,
  h.1,
  AllBefore_from_All before s.0 (v ++ t ∷ []) (All-append (λ (r : K × ℕ). before r.0 s.0) v (t ∷ []) (All_from_AllBefore before s.0 v h.2) (All-cons (λ (r : K × ℕ). before r.0 s.0) t [] (All-head (λ (r : K × ℕ). before t.0 r.0) s v above) (All-nil (λ (r : K × ℕ). before r.0 s.0)))),
  IsReduced-push before p v t h.3 (All-tail (λ (r : K × ℕ). before t.0 r.0) s v above) positive residue,
)

-- what is left of a reduced list without its last term
pub record IsFront {K : Type 0} (before : K → K → Type 0) (p : ℕ) (v : Combination K) (t : K × ℕ) : Type 0 where
  pub reduced : IsReduced before p v
  pub above : All (λ s. before t.0 s.0) v
  pub positive : 0 < t.1
  pub residue : t.1 < p

pub IsReduced-front : {K : Type 0} (before : K → K → Type 0) (p : ℕ) (v : Combination K) (t : K × ℕ) → IsReduced before p (v ++ t ∷ []) → IsFront before p v t
unfolding IsReduced AllBefore
IsReduced-front {K} before p [] t h = record { reduced = tt; above = All-nil (λ (s : K × ℕ). before t.0 s.0); positive = h.0; residue = h.1 }
IsReduced-front {K} before p (s ∷ v) t h = more (IsReduced-front before p v t h.3) (All_from_AllBefore before s.0 (v ++ t ∷ []) h.2)
  where
    more : IsFront before p v t → All (λ r. before r.0 s.0) (v ++ t ∷ []) → IsFront before p (s ∷ v) t
    more front below = record {
      reduced = (h.0, h.1, AllBefore_from_All before s.0 v (front_of v below), front.reduced);
      above = All-cons (λ (r : K × ℕ). before t.0 r.0) s v (last_of v below) front.above;
      positive = front.positive;
      residue = front.residue;
    }
      where
        front_of : (u : Combination K) → All (λ r. before r.0 s.0) (u ++ t ∷ []) → All (λ r. before r.0 s.0) u
        front_of [] b = All-nil (λ (r : K × ℕ). before r.0 s.0)
        front_of (r ∷ u) b = All-cons (λ (r : K × ℕ). before r.0 s.0) r u (All-head (λ (r : K × ℕ). before r.0 s.0) r (u ++ t ∷ []) b) (front_of u (All-tail (λ (r : K × ℕ). before r.0 s.0) r (u ++ t ∷ []) b))

        last_of : (u : Combination K) → All (λ r. before r.0 s.0) (u ++ t ∷ []) → before t.0 s.0
        last_of [] b = All-head (λ (r : K × ℕ). before r.0 s.0) t [] b
        last_of (r ∷ u) b = last_of u (All-tail (λ (r : K × ℕ). before r.0 s.0) r (u ++ t ∷ []) b)

-- coefficients that are residues
pub residues_of_reduced : {K : Type 0} (before : K → K → Type 0) (p : ℕ) (v : Combination K) → IsReduced before p v → All (λ t. (0 < t.1) × (t.1 < p)) v
unfolding IsReduced
residues_of_reduced {K} before p [] h = All-nil (λ (t : K × ℕ). (0 < t.1) × (t.1 < p))
residues_of_reduced {K} before p (t ∷ v) h = All-cons (λ (s : K × ℕ). (0 < s.1) × (s.1 < p)) t v (h.0, h.1) (residues_of_reduced before p v h.3)

-- keys

-- a key whose coefficient isn't 0 stands in the sum
stands : (Q : Word → Type 0) (v : Combination Word) (k : Word) → All (λ t. Q t.0) v → (coefficient same_word v k ≡ 0 → ⊥) → Q k
unfolding coefficient
stands Q [] k all some = absurd (some refl)
stands Q (t ∷ v) k all some = cases (same_word t.0 k) refl (stands Q v k (All-tail (λ (s : Word × ℕ). Q s.0) t v all))
  where
    cases : (b : Bool) → same_word t.0 k ≡ b → ((coefficient same_word v k ≡ 0 → ⊥) → Q k) → Q k
    cases true e later = subst Q ((Decides-same_word t.0 k).0 e) (All-head (λ (s : Word × ℕ). Q s.0) t v all)
    cases false e later = later (λ none. some (ap₂ (λ a n. a + n) (cond-false (same_word t.0 k) t.1 0 e) none))

not_zero : (p c : ℕ) → 0 < c → c < p → c % p ≡ 0 % p → ⊥
not_zero p c positive residue e = let a : c % p ≡ c = mod-eq_of_lt residue in let b : 0 % p ≡ 0 = zero-mod p in omega arith

different : (j k : Word) → Shortlex j k → same_word j k ≡ false
different j k h = false_from_ne_true (same_word j k) (λ e. shortlex_irreflexive k (let P : Word → Type 0 = λ w. Shortlex w k in subst P ((Decides-same_word j k).0 e) h))

different_too : (j k : Word) → Shortlex j k → same_word k j ≡ false
different_too j k h = false_from_ne_true (same_word k j) (λ e. shortlex_irreflexive k (let P : Word → Type 0 = λ w. Shortlex w k in subst P (sym ((Decides-same_word k j).0 e)) h))

-- the coefficient of each word of a reduced list is the one that stands beside it
pub coefficients_of_reduced : (p : ℕ) (v : Combination Word) → IsReduced Shortlex p v → All (λ t. coefficient same_word v t.0 ≡ t.1) v
unfolding coefficient IsReduced
coefficients_of_reduced p [] h = All-nil (λ (t : Word × ℕ). coefficient same_word [] t.0 ≡ t.1)
coefficients_of_reduced p (t ∷ v) h =
    let below : All (λ s. Shortlex s.0 t.0) v = All_from_AllBefore Shortlex t.0 v h.2 in
    let rest : All (λ s. coefficient same_word v s.0 ≡ s.1) v = coefficients_of_reduced p v h.3 in
    All-cons (λ (s : Word × ℕ). coefficient same_word (t ∷ v) s.0 ≡ s.1) t v (first below) (λ k d l. later (slice_index_or v k d) (below k d l) (rest k d l))
  where
    first : All (λ s. Shortlex s.0 t.0) v → cond (same_word t.0 t.0) t.1 0 + coefficient same_word v t.0 ≡ t.1
    first below =
        let here : cond (same_word t.0 t.0) t.1 0 ≡ t.1 = cond-true (same_word t.0 t.0) t.1 0 ((Decides-same_word t.0 t.0).1 refl) in
        let none : coefficient same_word v t.0 ≡ 0 =
        coefficient-absent same_word v t.0 (All-weaker (λ (s : Word × ℕ). Shortlex s.0 t.0) (λ (s : Word × ℕ). same_word s.0 t.0 ≡ false) (λ s h. different s.0 t.0 h) v below) in
        omega arith

    later : (s : Word × ℕ) → Shortlex s.0 t.0 → coefficient same_word v s.0 ≡ s.1 → cond (same_word t.0 s.0) t.1 0 + coefficient same_word v s.0 ≡ s.1
    later s below e = let none : cond (same_word t.0 s.0) t.1 0 ≡ 0 = cond-false (same_word t.0 s.0) t.1 0 (different_too s.0 t.0 below) in omega arith

-- The words of a reduced list stand in each sum that it is alike to.
pub words_of_sum : (Q : Word → Type 0) (p : ℕ) (v e : Combination Word) → IsReducedOf Shortlex same_word p v e → All (λ t. Q t.0) e → All (λ t. Q t.0) v
words_of_sum Q p v e sum all =
    let beside : All (λ t. coefficient same_word v t.0 ≡ t.1) v = coefficients_of_reduced p v sum.reduced in
    let some : All (λ t. (0 < t.1) × (t.1 < p)) v = residues_of_reduced Shortlex p v sum.reduced in
    λ k d l. stands Q e (slice_index_or v k d).0 all (λ none. not_zero p (slice_index_or v k d).1 (some k d l).0 (some k d l).1 (vanishes (slice_index_or v k d) (beside k d l) none))
  where
    vanishes : (t : Word × ℕ) → coefficient same_word v t.0 ≡ t.1 → coefficient same_word e t.0 ≡ 0 → t.1 % p ≡ 0 % p
    vanishes t beside none = ap (λ n. n % p) (sym beside) ∙ (sum.alike t.0 ∙ ap (λ n. n % p) none)
