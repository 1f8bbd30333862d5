-- What holds of the keys of sums, scalings and products, and how many terms these have.
use Rattle.std.proofs.Common.{◌≡◌, ℕ, ◌+◌, ◌*◌, List, [], ◌∷◌, ◌++◌, length, All, refl, ◌∙◌, length-append, arith}
use Rattle.std.proofs.lemmas.List.Elements.{All-nil, All-cons, All-head, All-tail, All-append}
use Rattle.ve_theory.specs.Combinations.{Combination, scaled}
use Rattle.ve_theory.specs.Words.{Word, times_all}
use Rattle.ve_theory.specs.Elements.{AlgebraElement, Element, letters_times, product, word_times, element_times}
use Rattle.ve_lemmas.proofs.Products.{length-scaled}

-- scalings

module _ {K : Type 0} (c : ℕ) where
  pub scaled_keys : (Q : K → Type 0) (v : Combination K) → All (λ t. Q t.0) v → All (λ t. Q t.0) (scaled c v)
  unfolding scaled
  scaled_keys Q [] all = All-nil (λ (t : K × ℕ). Q t.0)
  scaled_keys Q (t ∷ v) all =
      All-cons (λ (s : K × ℕ). Q s.0) (t.0, c * t.1) (scaled c v) (All-head (λ (s : K × ℕ). Q s.0) t v all) (scaled_keys Q v (All-tail (λ (s : K × ℕ). Q s.0) t v all))

-- products in the algebra

module _ (Q : List ℕ → Type 0) (v : AlgebraElement) where
  letters_times-keys : (u : List ℕ) (r : AlgebraElement) → All (λ t. Q (u ++ t.0)) r → All (λ t. Q t.0) (letters_times u r)
  unfolding letters_times
  letters_times-keys u [] all = All-nil (λ (t : List ℕ × ℕ). Q t.0)
  letters_times-keys u (t ∷ r) all = All-cons (λ (s : List ℕ × ℕ). Q s.0) (u ++ t.0, t.1) (letters_times u r) (All-head (λ (s : List ℕ × ℕ). Q (u ++ s.0)) t r all)
      (letters_times-keys u r (All-tail (λ (s : List ℕ × ℕ). Q (u ++ s.0)) t r all))

  pub product_keys : (u : AlgebraElement) → All (λ s. All (λ t. Q (s.0 ++ t.0)) v) u → All (λ t. Q t.0) (product u v)
  unfolding product
  product_keys [] all = All-nil (λ (t : List ℕ × ℕ). Q t.0)
  product_keys (s ∷ u) all =
      All-append (λ (t : List ℕ × ℕ). Q t.0) (scaled s.1 (letters_times s.0 v)) (product u v)
      (scaled_keys s.1 Q (letters_times s.0 v) (letters_times-keys s.0 v (All-head (λ (s : List ℕ × ℕ). All (λ (t : List ℕ × ℕ). Q (s.0 ++ t.0)) v) s u all)))
      (product_keys u (All-tail (λ (s : List ℕ × ℕ). All (λ (t : List ℕ × ℕ). Q (s.0 ++ t.0)) v) s u all))

length-letters_times : (u : List ℕ) (r : AlgebraElement) → length (letters_times u r) ≡ length r
unfolding letters_times
length-letters_times u [] = refl
length-letters_times u (t ∷ r) = omega (arith, length-letters_times u r)

pub length-product : (u v : AlgebraElement) → length (product u v) ≡ length u * length v
unfolding product
length-product [] v = omega arith
length-product (s ∷ u) v =
    let all : length (scaled s.1 (letters_times s.0 v) ++ product u v) ≡ length (scaled s.1 (letters_times s.0 v)) + length (product u v) = length-append (scaled s.1 (letters_times s.0 v)) (product u v) in
    let here : length (scaled s.1 (letters_times s.0 v)) ≡ length v = length-scaled s.1 (letters_times s.0 v) ∙ length-letters_times s.0 v in
    omega (arith, all, here, length-product u v)

-- products in the module

module _ (Q : Word → Type 0) (r : AlgebraElement) where
  word_times-keys : (w : Word) (s : AlgebraElement) → All (λ t. Q (times_all w t.0)) s → All (λ t. Q t.0) (word_times w s)
  unfolding word_times
  word_times-keys w [] all = All-nil (λ (t : Word × ℕ). Q t.0)
  word_times-keys w (t ∷ s) all = All-cons (λ (s : Word × ℕ). Q s.0) (times_all w t.0, t.1) (word_times w s) (All-head (λ (s : List ℕ × ℕ). Q (times_all w s.0)) t s all)
      (word_times-keys w s (All-tail (λ (s : List ℕ × ℕ). Q (times_all w s.0)) t s all))

  pub element_times_keys : (u : Element) → All (λ s. All (λ t. Q (times_all s.0 t.0)) r) u → All (λ t. Q t.0) (element_times u r)
  unfolding element_times
  element_times_keys [] all = All-nil (λ (t : Word × ℕ). Q t.0)
  element_times_keys (s ∷ u) all =
      All-append (λ (t : Word × ℕ). Q t.0) (scaled s.1 (word_times s.0 r)) (element_times u r)
      (scaled_keys s.1 Q (word_times s.0 r) (word_times-keys s.0 r (All-head (λ (s : Word × ℕ). All (λ (t : List ℕ × ℕ). Q (times_all s.0 t.0)) r) s u all)))
      (element_times_keys u (All-tail (λ (s : Word × ℕ). All (λ (t : List ℕ × ℕ). Q (times_all s.0 t.0)) r) s u all))
