-- The terms of a vector, taken from the front, beside terms in a heap.
use Rattle.std.proofs.Common.{◌≡◌, ℕ, ◌+◌, ◌*◌, ◌%◌, ◌<◌, ◌≤◌, refl, max, Bool, IsTrue, Some, [], ◌∷◌, ◌++◌, drop, length, All, ap, ap₂, sym, subst, ◌∙◌, append_assoc, add-one, drop-cons, inl, inr, arith}
use Rattle.std.specs.Prelude.{Option, IfSome, IsNone, None, slice_get, ◌↔◌}
use Rattle.std.specs.List.Sorted.{IsPermutation}
use Rattle.std.proofs.lemmas.Bool.{cases_lt}
use Rattle.std.proofs.lemmas.Option.{slice_get_within, get_or_from_slice_get}
use Rattle.std.proofs.lemmas.List.Elements.{All-nil, All-cons, All-head, All-tail, All-weaker}
use Rattle.ve_theory.specs.Combinations.{Combination, IsReduced}
use Rattle.ve_theory.proofs.Sums.{weigh, weigh-append, SameWeights, SameWeights-refl, SameWeights-trans, SameWeights-append, SameWeights_of}
use Rattle.ve_theory.proofs.Reduced.{All_from_AllBefore}
use Rattle.ve_vec.specs.Vectors.{AllIds}
use Rattle.ve_vec.proofs.ReducedLists.{IsReduced-drop}
use Rattle.ve_settle.proofs.Heaps.{SameWeights-permutation}

-- what holds of the terms of both
pub parts_all : (P : ℕ × ℕ → Type 0) (u v : Combination ℕ) → All P (u ++ v) → All P u × All P v
parts_all P [] v all = (All-nil P, all)
parts_all P (t ∷ u) v all =
    let rest = parts_all P u v (All-tail P t (u ++ v) all) in
    (All-cons P t u (All-head P t (u ++ v) all) rest.0, rest.1)

-- the next term, and those behind it
pub drop_next : (v : Combination ℕ) (n : ℕ) (t : ℕ × ℕ) → slice_get v n ≡ Some t → drop n v ≡ t ∷ drop (n + 1) v
drop_next v n t next =
    drop-cons v n t (slice_get_within v n t next)
    ∙ ap₂ (λ s r. s ∷ r) (get_or_from_slice_get v n t t next) (ap (λ m. drop m v) (sym (add-one n)))

pub behind_next : (p : ℕ) (v : Combination ℕ) (n : ℕ) (t : ℕ × ℕ) → IsReduced ◌<◌ p v → slice_get v n ≡ Some t → All (λ s. s.0 < t.0) (drop (n + 1) v)
unfolding IsReduced
behind_next p v n t reduced next =
    let whole : IsReduced ◌<◌ p (t ∷ drop (n + 1) v) = subst (IsReduced ◌<◌ p) (drop_next v n t next) (IsReduced-drop p n v reduced) in
    All_from_AllBefore ◌<◌ t.0 (drop (n + 1) v) whole.2

pub up_to_next : (p : ℕ) (v : Combination ℕ) (n m : ℕ) (t : ℕ × ℕ) → IsReduced ◌<◌ p v → slice_get v n ≡ Some t → t.0 ≤ m → All (λ s. s.0 ≤ m) (drop n v)
up_to_next p v n m t reduced next le =
    subst (All (λ (s : ℕ × ℕ). s.0 ≤ m)) (sym (drop_next v n t next))
    (All-cons (λ (s : ℕ × ℕ). s.0 ≤ m) t (drop (n + 1) v) le
    (All-weaker (λ (s : ℕ × ℕ). s.0 < t.0) (λ (s : ℕ × ℕ). s.0 ≤ m) (λ s less. omega (arith, less, le)) (drop (n + 1) v) (behind_next p v n t reduced next)))

-- what holds of all terms that are left holds of the next one, and of those that it leaves
pub next_all : (P : ℕ × ℕ → Type 0) (v l : Combination ℕ) (n : ℕ) (t : ℕ × ℕ) → slice_get v n ≡ Some t → All P (drop n v ++ l) → P t × All P (drop (n + 1) v ++ l)
next_all P v l n t next all =
    let whole : All P (t ∷ (drop (n + 1) v ++ l)) = subst (λ u. All P (u ++ l)) (drop_next v n t next) all in
    (All-head P t (drop (n + 1) v ++ l) whole, All-tail P t (drop (n + 1) v ++ l) whole)

-- no id is above i, and the next one is another
pub next_below : (p : ℕ) (v l : Combination ℕ) (n i : ℕ) (t : ℕ × ℕ) → IsReduced ◌<◌ p v → slice_get v n ≡ Some t → All (λ s. s.0 ≤ i) (drop n v ++ l) → (t.0 ≡ i → ⊥) → All (λ s. s.0 < i) (drop n v)
next_below p v l n i t reduced next all other =
    let le : t.0 ≤ i = (next_all (λ s. s.0 ≤ i) v l n t next all).0 in
    let less : t.0 < i = omega (arith, le, other) in
    All-weaker (λ (s : ℕ × ℕ). s.0 ≤ t.0) (λ (s : ℕ × ℕ). s.0 < i) (λ s at_most. omega (arith, at_most, less)) (drop n v) (up_to_next p v n t.0 t reduced next (omega arith))

-- the first term is taken away
pub first_gone : {A : Type 0} (o : Option A) (term : A → ℕ × ℕ) (old new : Combination ℕ) → (IsNone o ↔ (old ≡ [])) → IfSome o (λ t. old ≡ term t ∷ new) → 0 < length old → new ≡ drop 1 old
first_gone (Some t) term old new none first some = sym (ap (drop 1) first)
first_gone None term old new none first some = absurd (omega (arith, some, ap length (none.0 refl)))

-- an id that passes where all terms behind do
pub passes_behind : (o : Option ℕ) (d l : Combination ℕ) → IfSome o (λ id. (among : ℕ → Bool) → AllIds among l → IsTrue (among id)) → IfSome o (λ id. (among : ℕ → Bool) → AllIds among (d ++ l) → IsTrue (among id))
passes_behind (Some id) d l passes = λ among all. passes among (parts_all (λ t. IsTrue (among t.0)) d l all).1
passes_behind None d l passes = tt

-- the greater of two ids that pass
pub greater_passes : (among : ℕ → Bool) (i j : ℕ) → IsTrue (among i) → IsTrue (among j) → IsTrue (among (max i j))
greater_passes among i j first other =
    elim (cases_lt i j) [
      | inl less ↦ let same : j ≡ max i j = omega (arith, less) in subst (λ k. IsTrue (among k)) same other
      | inr le ↦ let same : i ≡ max i j = omega (arith, le) in subst (λ k. IsTrue (among k)) same first
    ]

-- sums

pub nothing_taken : (p i : ℕ) (v : Combination ℕ) → SameWeights p v ((i, 0) ∷ v)
unfolding weigh
nothing_taken p i v = record { at = λ h. let same : weigh h v ≡ 0 * h i + weigh h v = omega arith in ap (λ n. n % p) same }

pub next_taken : (p : ℕ) (v l : Combination ℕ) (n : ℕ) (t : ℕ × ℕ) → slice_get v n ≡ Some t → SameWeights p (drop n v ++ l) (t ∷ (drop (n + 1) v ++ l))
next_taken p v l n t next = SameWeights_of (ap (λ u. u ++ l) (drop_next v n t next))

-- a term is taken from those behind
pub taken_behind : (p : ℕ) (t : ℕ × ℕ) (d l rest : Combination ℕ) → IsPermutation l (t ∷ rest) → SameWeights p (d ++ l) (t ∷ (d ++ rest))
unfolding weigh
taken_behind p t d l rest moved =
    SameWeights-trans (SameWeights-append (SameWeights-refl p d) (SameWeights-permutation p l (t ∷ rest) moved))
    (record {
      at = λ h.
          let same : weigh h (d ++ t ∷ rest) ≡ t.1 * h t.0 + weigh h (d ++ rest) = omega (arith, weigh-append h d (t ∷ rest), weigh-append h d rest) in
          ap (λ n. n % p) same;
    })

-- a vector is added behind
pub pushed_behind : (p : ℕ) (d l new by : Combination ℕ) → SameWeights p new (l ++ by) → SameWeights p (d ++ new) (d ++ l ++ by)
pushed_behind p d l new by same = SameWeights-trans (SameWeights-append (SameWeights-refl p d) same) (SameWeights_of (sym (append_assoc d l by)))

-- a vector is added in front
pub pushed_before : (p : ℕ) (d l new by : Combination ℕ) → SameWeights p new (d ++ by) → SameWeights p (new ++ l) (d ++ l ++ by)
pushed_before p d l new by same =
    SameWeights-trans (SameWeights-append same (SameWeights-refl p l))
    (record {
      at = λ h.
          let swapped : weigh h (d ++ by ++ l) ≡ weigh h (d ++ l ++ by) =
          omega (arith, weigh-append h (d ++ by) l, weigh-append h d by, weigh-append h (d ++ l) by, weigh-append h d l) in
          ap (λ n. n % p) swapped;
    })
