-- Products of elements, as sums of sums.
use Rattle.std.proofs.Common.{◌≡◌, ℕ, ◌+◌, ◌*◌, ◌%◌, Bool, List, [], ◌∷◌, ◌++◌, slice_index_or, Decides, refl, sym, ap, ◌∙◌, arith}
use mathlib.Core.Path.{fun_ext}
use Rattle.ve_theory.specs.Combinations.{Combination, unit, scaled, Alike}
use Rattle.ve_theory.specs.Words.{Word, times, times_all, same_letters, same_word}
use Rattle.ve_theory.specs.Elements.{AlgebraElement, Element, letters_times, product, word_times, element_times, times_letter}
use Rattle.ve_theory.specs.Laws.{IsBilinear, ProductsAreBilinear}
use Rattle.ve_theory.proofs.Sums.{weigh, weigh-append, weigh-scaled, weigh-unit, weigh-add, weigh-times, weigh-congruent, SameWeights, Alike_from_weights, weights_from_Alike, Decides-same_letters, Decides-same_word}

-- weights of products

weigh-letters_times : (h : List ℕ → ℕ) (u : List ℕ) (r : AlgebraElement) → weigh h (letters_times u r) ≡ weigh (λ w. h (u ++ w)) r
unfolding weigh letters_times
weigh-letters_times h u [] = refl
weigh-letters_times h u (t ∷ r) = ap (λ n. t.1 * h (u ++ t.0) + n) (weigh-letters_times h u r)

pub weigh-word_times : (h : Word → ℕ) (w : Word) (r : AlgebraElement) → weigh h (word_times w r) ≡ weigh (λ u. h (times_all w u)) r
unfolding weigh word_times
weigh-word_times h w [] = refl
weigh-word_times h w (t ∷ r) = ap (λ n. t.1 * h (times_all w t.0) + n) (weigh-word_times h w r)

pub weigh-times_letter : (h : Word → ℕ) (v : Element) (x : ℕ) → weigh h (times_letter v x) ≡ weigh (λ w. h (times w x)) v
unfolding weigh times_letter
weigh-times_letter h [] x = refl
weigh-times_letter h (t ∷ v) x = ap (λ n. t.1 * h (times t.0 x) + n) (weigh-times_letter h v x)

weigh-product : (h : List ℕ → ℕ) (u r : AlgebraElement) → weigh h (product u r) ≡ weigh (λ a. weigh (λ b. h (a ++ b)) r) u
unfolding weigh product
weigh-product h [] r = refl
weigh-product h (t ∷ u) r =
    omega (
      arith,
      weigh-append h (scaled t.1 (letters_times t.0 r)) (product u r),
      weigh-scaled h t.1 (letters_times t.0 r),
      ap (λ n. t.1 * n) (weigh-letters_times h t.0 r),
      weigh-product h u r,
    )

weigh-element_times : (h : Word → ℕ) (v : Element) (r : AlgebraElement) → weigh h (element_times v r) ≡ weigh (λ w. weigh (λ u. h (times_all w u)) r) v
unfolding weigh element_times
weigh-element_times h [] r = refl
weigh-element_times h (t ∷ v) r =
    omega (
      arith,
      weigh-append h (scaled t.1 (word_times t.0 r)) (element_times v r),
      weigh-scaled h t.1 (word_times t.0 r),
      ap (λ n. t.1 * n) (weigh-word_times h t.0 r),
      weigh-element_times h v r,
    )

-- products by sums with congruent weights

pub SameWeights-word_times : {p : ℕ} (w : Word) {r s : AlgebraElement} → SameWeights p r s → SameWeights p (word_times w r) (word_times w s)
SameWeights-word_times {p} w {r} {s} e = record {
  at = λ h. ap (λ n. n % p) (weigh-word_times h w r) ∙ (e.at (λ u. h (times_all w u)) ∙ ap (λ n. n % p) (sym (weigh-word_times h w s)));
}

pub SameWeights-times_letter : {p : ℕ} {u v : Element} (x : ℕ) → SameWeights p u v → SameWeights p (times_letter u x) (times_letter v x)
SameWeights-times_letter {p} {u} {v} x e = record {
  at = λ h. ap (λ n. n % p) (weigh-times_letter h u x) ∙ (e.at (λ w. h (times w x)) ∙ ap (λ n. n % p) (sym (weigh-times_letter h v x)));
}

-- products are linear in both factors

Alike_by_weights : {K : Type 0} (same : K → K → Bool) (p : ℕ) (u v : Combination K) → ((h : K → ℕ) → weigh h u ≡ weigh h v) → Alike same p u v
Alike_by_weights same p u v e = Alike_from_weights same (record { at = λ h. ap (λ n. n % p) (e h) })

-- a product whose weight is the sum over both factors
module _ {K : Type 0} (same : K → K → Bool) (decides : (j k : K) → Decides (same j k) (j ≡ k)) (joined : K → List ℕ → K) (multiply : Combination K → AlgebraElement → Combination K)
    (weighs : (h : K → ℕ) (u : Combination K) (r : AlgebraElement) → weigh h (multiply u r) ≡ weigh (λ a. weigh (λ b. h (joined a b)) r) u) where
  -- what the products of a key weigh
  abbrev over : (K → ℕ) → AlgebraElement → K → ℕ
  over h r a = weigh (λ b. h (joined a b)) r

  multiply-alike : (p : ℕ) (u v : Combination K) (r s : AlgebraElement) → SameWeights p u v → SameWeights p r s → SameWeights p (multiply u r) (multiply v s)
  multiply-alike p u v r s d e = record {
    at = λ h. ap (λ n. n % p) (weighs h u r)
        ∙ (d.at (over h r)
        ∙ (weigh-congruent p (over h r) (over h s) v (λ k t l. e.at (λ b. h (joined (slice_index_or v k t).0 b)))
        ∙ ap (λ n. n % p) (sym (weighs h v s))));
  }

  multiply-append : (h : K → ℕ) (u v : Combination K) (r : AlgebraElement) → weigh h (multiply (u ++ v) r) ≡ weigh h (multiply u r ++ multiply v r)
  multiply-append h u v r =
      omega (arith, weighs h (u ++ v) r, weigh-append (over h r) u v, weigh-append h (multiply u r) (multiply v r), weighs h u r, weighs h v r)

  multiply-append_right : (h : K → ℕ) (u : Combination K) (r s : AlgebraElement) → weigh h (multiply u (r ++ s)) ≡ weigh h (multiply u r ++ multiply u s)
  multiply-append_right h u r s =
      let both : weigh (over h (r ++ s)) u ≡ weigh (λ a. over h r a + over h s a) u = ap (λ g. weigh g u) (fun_ext (λ a. weigh-append (λ b. h (joined a b)) r s)) in
      omega (arith, weighs h u (r ++ s), both, weigh-add (over h r) (over h s) u, weigh-append h (multiply u r) (multiply u s), weighs h u r, weighs h u s)

  multiply-scaled : (h : K → ℕ) (c : ℕ) (u : Combination K) (r : AlgebraElement) → weigh h (multiply (scaled c u) r) ≡ weigh h (scaled c (multiply u r))
  multiply-scaled h c u r = weighs h (scaled c u) r ∙ (weigh-scaled (over h r) c u ∙ (ap (λ n. c * n) (sym (weighs h u r)) ∙ sym (weigh-scaled h c (multiply u r))))

  multiply-scaled_right : (h : K → ℕ) (c : ℕ) (u : Combination K) (r : AlgebraElement) → weigh h (multiply u (scaled c r)) ≡ weigh h (scaled c (multiply u r))
  multiply-scaled_right h c u r =
      weighs h u (scaled c r)
      ∙ (ap (λ g. weigh g u) (fun_ext (λ a. weigh-scaled (λ b. h (joined a b)) c r))
      ∙ (weigh-times c (over h r) u ∙ (ap (λ n. c * n) (sym (weighs h u r)) ∙ sym (weigh-scaled h c (multiply u r)))))

  multiply-unit : (h : K → ℕ) (a : K) (r : AlgebraElement) → weigh h (multiply (unit a) r) ≡ weigh (λ b. h (joined a b)) r
  multiply-unit h a r = weighs h (unit a) r ∙ weigh-unit (over h r) a

  is_bilinear : IsBilinear same joined multiply
  is_bilinear = record {
    alike = λ p u v r s d e.
        Alike_from_weights same (multiply-alike p u v r s (weights_from_Alike same decides p u v d) (weights_from_Alike same_letters Decides-same_letters p r s e));
    left_sums = λ p u v r. Alike_by_weights same p (multiply (u ++ v) r) (multiply u r ++ multiply v r) (λ h. multiply-append h u v r);
    right_sums = λ p u r s. Alike_by_weights same p (multiply u (r ++ s)) (multiply u r ++ multiply u s) (λ h. multiply-append_right h u r s);
    left_scalings = λ p c u r. Alike_by_weights same p (multiply (scaled c u) r) (scaled c (multiply u r)) (λ h. multiply-scaled h c u r);
    right_scalings = λ p c u r. Alike_by_weights same p (multiply u (scaled c r)) (scaled c (multiply u r)) (λ h. multiply-scaled_right h c u r);
    units = λ p a b. Alike_by_weights same p (multiply (unit a) (unit b)) (unit (joined a b))
        (λ h. multiply-unit h a (unit b) ∙ (weigh-unit (λ c. h (joined a c)) b ∙ sym (weigh-unit h (joined a b))));
  }

weigh-by_letter : (h : Word → ℕ) (v : Element) (x : ℕ) → weigh h (times_letter v x) ≡ weigh h (element_times v (unit (x ∷ [])))
unfolding times_all
weigh-by_letter h v x =
    weigh-times_letter h v x ∙ (ap (λ g. weigh g v) (fun_ext (λ w. sym (weigh-unit (λ u. h (times_all w u)) (x ∷ [])))) ∙ sym (weigh-element_times h v (unit (x ∷ []))))

weigh-of_word : (h : Word → ℕ) (w : Word) (r : AlgebraElement) → weigh h (word_times w r) ≡ weigh h (element_times (unit w) r)
weigh-of_word h w r = weigh-word_times h w r ∙ sym (multiply-unit same_word Decides-same_word times_all element_times weigh-element_times h w r)

pub products_are_bilinear : ProductsAreBilinear
products_are_bilinear = record {
  algebra = is_bilinear same_letters Decides-same_letters ◌++◌ product weigh-product;
  elements = is_bilinear same_word Decides-same_word times_all element_times weigh-element_times;
  by_letter = λ p v x. Alike_by_weights same_word p (times_letter v x) (element_times v (unit (x ∷ []))) (λ h. weigh-by_letter h v x);
  of_word = λ p w r. Alike_by_weights same_word p (word_times w r) (element_times (unit w) r) (λ h. weigh-of_word h w r);
}
