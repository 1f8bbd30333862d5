-- Terms in a heap, as a sum.
use Rattle.std.proofs.Common.{◌≡◌, ℕ, ◌+◌, ◌*◌, ◌%◌, ◌<◌, Some, None, IfSome, IfNone, [], ◌∷◌, ◌++◌, length, All, refl, sym, ap, ◌∙◌, append-nil, arith}
use Rattle.std.specs.Prelude.{Option, Result, Ok, Err, OnOk, OnErr, sum_by}
use Rattle.std.specs.List.Sorted.{IsPermutation}
use Rattle.std.proofs.lemmas.List.Elements.{All-cons, All-head, All-tail}
use Rattle.std.proofs.lemmas.List.Sorted.{All-permutation, sum_by-IsPermutation, length_permutation}
use Rattle.std.proofs.lemmas.List.Sums.{sum_by-cons}
use Rattle.ve_theory.specs.Combinations.{Combination, scaled}
use Rattle.std.proofs.Math.Nat.{mod-mod}
use Rattle.ve_theory.proofs.Sums.{weigh, weigh-append, weigh-scaled, SameWeights, SameWeights-refl, congruent-add, congruent-mul}

weigh-sum_by : (h : ℕ → ℕ) (v : Combination ℕ) → weigh h v ≡ sum_by (λ t. t.1 * h t.0) v
unfolding weigh
weigh-sum_by h [] = refl
weigh-sum_by h (t ∷ v) = ap (λ n. t.1 * h t.0 + n) (weigh-sum_by h v) ∙ sym (sum_by-cons (λ (t : ℕ × ℕ). t.1 * h t.0) t v)

-- the order of terms is of no account
pub SameWeights-permutation : (p : ℕ) (u v : Combination ℕ) → IsPermutation u v → SameWeights p u v
SameWeights-permutation p u v moved = record {
  at = λ h. ap (λ n. n % p) (weigh-sum_by h u ∙ sym (sum_by-IsPermutation (λ t. t.1 * h t.0) u v moved) ∙ sym (weigh-sum_by h v));
}

-- what holds of all terms holds of one that is taken, and of the rest
pub taken_all : (P : ℕ × ℕ → Type 0) (t : ℕ × ℕ) (u v : Combination ℕ) → IsPermutation u (t ∷ v) → All P u → P t × All P v
taken_all P t u v moved all = let whole : All P (t ∷ v) = All-permutation P u (t ∷ v) moved all in (All-head P t v whole, All-tail P t v whole)

pub shorter : (t : ℕ × ℕ) (u v : Combination ℕ) → IsPermutation u (t ∷ v) → length v < length u
shorter t u v moved = omega (arith, length_permutation u (t ∷ v) moved)

-- what holds of all terms holds of those that a pop leaves
pub left_all : (Z : Type 0) (P : ℕ × ℕ → Type 0) (o : Option (ℕ × ℕ)) (u v : Combination ℕ) → IfSome o (λ t. IsPermutation u (t ∷ v)) → IfNone o ((v ≡ u) × Z) → All P u → All P v
left_all Z P (Some t) u v moved same all = (taken_all P t u v moved all).1
left_all Z P None u v moved same all = rw same.0 all

-- two terms of one key become one
pub merged : (p i a b c : ℕ) (u v w : Combination ℕ) → SameWeights p u ((i, a) ∷ v) → SameWeights p v ((i, b) ∷ w) → c ≡ (a + b) % p → SameWeights p u ((i, c) ∷ w)
unfolding weigh
merged p i a b c u v w same taken c_is = record {
  at = λ h.
      let whole : (a * h i + weigh h v) % p ≡ (a * h i + (b * h i + weigh h w)) % p =
      congruent-add p (a * h i) (a * h i) (weigh h v) (b * h i + weigh h w) refl (taken.at h) in
      let joined : a * h i + (b * h i + weigh h w) ≡ (a + b) * h i + weigh h w = omega arith in
      let sum_is : (a + b) % p ≡ c % p = sym (mod-mod (a + b) p) ∙ ap (λ n. n % p) (sym c_is) in
      same.at h ∙ whole ∙ ap (λ n. n % p) joined
      ∙ congruent-add p ((a + b) * h i) (c * h i) (weigh h w) (weigh h w) (congruent-mul p (a + b) c (h i) (h i) sum_is refl) refl;
}

-- one more term of a vector is added
pub pushed : (p by i a c : ℕ) (start old new part next : Combination ℕ) → SameWeights p old (start ++ scaled by part) → IsPermutation ((i, c) ∷ old) new → c ≡ (by * a) % p → next ≡ part ++ (i, a) ∷ []
    → SameWeights p new (start ++ scaled by next)
unfolding weigh
pushed p by i a c start old new part next same moved c_is next_is = record {
  at = λ h.
      let product_is : c % p ≡ (by * a) % p = ap (λ n. n % p) c_is ∙ mod-mod (by * a) p in
      let before : weigh h (start ++ scaled by part) ≡ weigh h start + by * weigh h part = weigh-append h start (scaled by part) ∙ ap (λ n. weigh h start + n) (weigh-scaled h by part) in
      let longer : weigh h next ≡ weigh h part + (a * h i + 0) = ap (weigh h) next_is ∙ weigh-append h part ((i, a) ∷ []) in
      let after : weigh h (start ++ scaled by next) ≡ weigh h start + by * weigh h next = weigh-append h start (scaled by next) ∙ ap (λ n. weigh h start + n) (weigh-scaled h by next) in
      let total : by * a * h i + (weigh h start + by * weigh h part) ≡ weigh h (start ++ scaled by next) = omega (arith, after, ap (λ n. by * n) longer) in
      sym ((SameWeights-permutation p ((i, c) ∷ old) new moved).at h)
      ∙ congruent-add p (c * h i) (by * a * h i) (weigh h old) (weigh h start + by * weigh h part)
      (congruent-mul p c (by * a) (h i) (h i) product_is refl) (same.at h ∙ ap (λ n. n % p) before)
      ∙ ap (λ n. n % p) total;
}

-- nothing is added
pub nothing_pushed : (p by : ℕ) (start v : Combination ℕ) → by ≡ 0 → SameWeights p start (start ++ scaled by v)
nothing_pushed p by start v none = record {
  at = λ h.
      let after : weigh h (start ++ scaled by v) ≡ weigh h start + by * weigh h v = weigh-append h start (scaled by v) ∙ ap (λ n. weigh h start + n) (weigh-scaled h by v) in
      let same : weigh h start ≡ weigh h (start ++ scaled by v) = omega (arith, after, ap (λ n. n * weigh h v) none) in
      ap (λ n. n % p) same;
}

pub start_pushing : (p by : ℕ) (start : Combination ℕ) → SameWeights p start (start ++ scaled by [])
unfolding scaled
start_pushing p by start = rw append-nil (SameWeights-refl p start)

-- what holds of all terms, and of one that is pushed, holds after the push
pub added_all : {X Y : Type 0} (Z : Type 0) (P : ℕ × ℕ → Type 0) (r : Result X Y) (t : ℕ × ℕ) (u v : Combination ℕ) → OnOk r (IsPermutation (t ∷ u) v) → OnErr r ((v ≡ u) × Z) → P t → All P u → All P v
added_all Z P (Ok x) t u v moved same one all = All-permutation P (t ∷ u) v moved (All-cons P t u one all)
added_all Z P (Err e) t u v moved same one all = rw same.0 all
