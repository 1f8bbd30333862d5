-- Values are lists of terms over the presentation's letters, within the limits.
use Rattle.std.proofs.Common.{◌≡◌, ℕ, ◌+◌, ◌*◌, ◌-◌, ◌<◌, ◌≤◌, List, [], ◌∷◌, ◌++◌, length, All, Result, Ok, Err, slice_index_or, ap, length-append, arith}
use Rattle.std.proofs.lemmas.Option.{slice_get_within}
use Rattle.std.proofs.lemmas.List.Elements.{All-nil, All-cons, All-append, All-weaker}
use Rattle.ve_theory.specs.Combinations.{unit, scaled, AllBefore, IsReduced}
use Rattle.ve_theory.specs.Elements as elements
use Rattle.ve_theory.specs.Elements.{AlgebraElement, IsAlgebraElementOf, algebra_length, greatest}
use Rattle.ve_theory.specs.Presentations.{Presentation, letter_count, HasLetters}
use Rattle.ve_theory.specs.Laws.{ReducedListsAreUnique}
use Rattle.ve_theory.specs.Validity.{most_terms, most_length}
use Rattle.ve_lemmas.proofs.Residues.{prime-large}
use Rattle.ve_lemmas.proofs.Sums.{greatest-le, le-greatest}
use Rattle.ve_lemmas.proofs.Products.{length-scaled}
use Rattle.ve_formats.specs.Causes.{Cause}
use Rattle.ve_formats.specs.Expressions.{Expression}
use Rattle.ve_formats.specs.Values.{IsReadable, IsAlgebraValue, AddsUp, added, too_many, Multiplies, multiplied, too_long, HasPower, zeroth, first, next, stopped, HasValue, of_constant, of_letter, of_unknown, of_group, of_power, of_large_power, of_faulty_base, of_inverse_power, of_large_inverse_power, of_no_inverse, of_faulty_inverse_base, of_product, of_product_left, of_product_right, of_opposite, of_faulty_opposite, of_sum, of_sum_left, of_sum_right, of_difference, of_difference_left, of_difference_right}
use Rattle.ve_formats.specs.Values as algebra
use Rattle.ve_formats.proofs.ElementSums.{prime_positive}
use Rattle.ve_formats.proofs.KeptTerms.{letters_kept, terms_kept}
use Rattle.ve_formats.proofs.SumTerms.{scaled_keys, product_keys, length-product}

-- letters of the presentation, and not too many
abbrev pub IsShort : Presentation → List ℕ → Type 0
IsShort P u = HasLetters P u × (length u ≤ most_length)

module _ (unique : ReducedListsAreUnique) (P : Presentation) (readable : IsReadable P) where
  some : 0 < P.prime
  some = prime_positive P.prime readable.field

  abbrev IfValue : Result AlgebraElement Cause → Type 0
  IfValue (Ok v) = IsAlgebraValue P v
  IfValue (Err cause) = Unit {0}

  -- the list of a sum of few terms with short keys
  pub collected_value : {v e : AlgebraElement} → IsAlgebraElementOf P.prime v e → All (λ t. IsShort P t.0) e → length e ≤ most_terms → IsAlgebraValue P v
  collected_value {v} {e} h keys few =
      let all : All (λ t. IsShort P t.0) v = letters_kept unique P.prime some (IsShort P) h keys in
      let short : All (λ t. length t.0 ≤ most_length) v = All-weaker (λ (t : List ℕ × ℕ). IsShort P t.0) (λ (t : List ℕ × ℕ). length t.0 ≤ most_length) (λ t k. k.1) v all in
      record {
        reduced = h.reduced;
        letters = All-weaker (λ (t : List ℕ × ℕ). IsShort P t.0) (λ (t : List ℕ × ℕ). HasLetters P t.0) (λ t k. k.0) v all;
        terms = let kept : length v ≤ length e = terms_kept unique P.prime some (IsShort P) h in omega (arith, kept);
        short = greatest-le length most_length v short;
      }

  pub keys_of : {v : AlgebraElement} → IsAlgebraValue P v → All (λ t. IsShort P t.0) v
  keys_of {v} h = λ k d l. (h.letters k d l, short (slice_index_or v k d).0 (le-greatest length v k d l))
    where
      short : (u : List ℕ) → length u ≤ algebra_length v → length u ≤ most_length
      short u k = omega (arith, k, h.short)

  unit_value : (u : List ℕ) → IsShort P u → IsAlgebraValue P (unit u)
  unfolding IsReduced AllBefore greatest
  unit_value u h = record {
    reduced = (omega arith, prime-large P.prime readable.field, tt, tt);
    letters = All-cons (λ (t : List ℕ × ℕ). HasLetters P t.0) (u, 1) [] h.0 (All-nil (λ (t : List ℕ × ℕ). HasLetters P t.0));
    terms = omega arith;
    short = omega (arith, h.1);
  }

  empty_value : IsShort P []
  empty_value = (All-nil (λ x. x < letter_count P), omega arith)

  scaled_value : (c : ℕ) {u v : AlgebraElement} → IsAlgebraValue P u → IsAlgebraElementOf P.prime v (scaled c u) → IsAlgebraValue P v
  scaled_value c {u} h is =
      let long : length (scaled c u) ≡ length u = length-scaled c u in
      collected_value is (scaled_keys c (IsShort P) u (keys_of h)) (omega (arith, long, h.terms))

  sum_value : {u v : AlgebraElement} {r : Result AlgebraElement Cause} → IsAlgebraValue P u → IsAlgebraValue P v → AddsUp P.prime u v r → IfValue r
  sum_value {u} {v} h k (added w few is) =
      let long : length (u ++ v) ≡ length u + length v = length-append u v in
      collected_value is (All-append (λ (t : List ℕ × ℕ). IsShort P t.0) u v (keys_of h) (keys_of k)) (omega (arith, long, few))
  sum_value h k (too_many many) = tt

  product_value : {u v : AlgebraElement} {r : Result AlgebraElement Cause} → IsAlgebraValue P u → IsAlgebraValue P v → Multiplies P.prime u v r → IfValue r
  product_value {u} {v} h k (multiplied w few short is) =
      let long : length (elements.product u v) ≡ length u * length v = length-product u v in
      collected_value is (product_keys (IsShort P) v u (λ i d l j e m. joined (slice_index_or u i d).0 (slice_index_or v j e).0 (keys_of h i d l).0 (keys_of k j e m).0
      (le-greatest length u i d l) (le-greatest length v j e m) (fits i j l m))) (omega (arith, long, few))
    where
      fits : (i j : ℕ) → i < length u → j < length v → algebra_length u + algebra_length v ≤ most_length
      fits i j l m = short (λ none. let empty : length u ≡ 0 = ap length none in omega arith) (λ none. let empty : length v ≡ 0 = ap length none in omega arith)

      joined : (x y : List ℕ) → HasLetters P x → HasLetters P y → length x ≤ algebra_length u → length y ≤ algebra_length v → algebra_length u + algebra_length v ≤ most_length → IsShort P (x ++ y)
      joined x y a b c d m =
          let long : length (x ++ y) ≡ length x + length y = length-append x y in (All-append (λ z. z < letter_count P) x y a b, omega (arith, long, c, d, m))
  product_value h k (algebra.too_many many) = tt
  product_value h k (too_long few left right long) = tt

  power_value : {u : AlgebraElement} {k : ℕ} {r : Result AlgebraElement Cause} → IsAlgebraValue P u → HasPower P.prime u k r → IfValue r
  power_value h zeroth = unit_value [] empty_value
  power_value h first = h
  power_value h (next m p) = product_value (power_value h m) h p
  power_value h (stopped m) = tt

  letter_value : (x : ℕ) → x < letter_count P → IsAlgebraValue P (unit (x ∷ []))
  letter_value x within = unit_value (x ∷ []) (All-cons (λ y. y < letter_count P) x [] within (All-nil (λ y. y < letter_count P)), omega arith)

  pub is_value : {e : Expression} {r : Result AlgebraElement Cause} → HasValue P e r → IfValue r
  is_value (of_constant n is) = scaled_value n (unit_value [] empty_value) is
  is_value (of_letter {x} {i} numbered) = letter_value i (slice_get_within P.names i x numbered)
  is_value (of_unknown absent) = tt
  is_value (of_group h) = is_value h
  is_value (of_power h small m) = power_value (is_value h) m
  is_value (of_large_power h large) = tt
  is_value (of_faulty_base h) = tt
  is_value (of_inverse_power {y} i small m) = power_value (letter_value y (readable.inverses i.number y i.inverted)) m
  is_value (of_large_inverse_power h large) = tt
  is_value (of_no_inverse h small none) = tt
  is_value (of_faulty_inverse_base h) = tt
  is_value (of_product h k m) = product_value (is_value h) (is_value k) m
  is_value (of_product_left h) = tt
  is_value (of_product_right h k) = tt
  is_value (of_opposite h is) = scaled_value (P.prime - 1) (is_value h) is
  is_value (of_faulty_opposite h) = tt
  is_value (of_sum h k m) = sum_value (is_value h) (is_value k) m
  is_value (of_sum_left h) = tt
  is_value (of_sum_right h k) = tt
  is_value (of_difference h k is m) = sum_value (is_value h) (scaled_value (P.prime - 1) (is_value k) is) m
  is_value (of_difference_left h) = tt
  is_value (of_difference_right h k) = tt
