-- Values in the module are lists of terms over the presentation's generators and letters, within the limits.
use Rattle.std.proofs.Common.{◌≡◌, ℕ, ◌+◌, ◌*◌, ◌-◌, ◌<◌, ◌≤◌, List, [], ◌++◌, length, All, Result, Ok, Err, slice_index_or, sym, subst, ap, ◌∙◌, length-append, arith}
use Rattle.std.proofs.lemmas.List.Elements.{All-nil, All-cons, All-append, All-weaker}
use Rattle.ve_theory.specs.Combinations.{unit, scaled, IsReduced}
use Rattle.ve_theory.specs.Words as words
use Rattle.ve_theory.specs.Words.{Word, start, letters, times_all, Shortlex, word_length}
use Rattle.ve_theory.specs.Elements.{AlgebraElement, Element, IsElementOf, algebra_length, element_length, element_times, greatest}
use Rattle.ve_theory.specs.Presentations.{Presentation, letter_count, HasLetters, IsWord}
use Rattle.ve_theory.specs.Laws.{ReducedListsAreUnique}
use Rattle.ve_theory.specs.Validity.{most_terms, most_length}
use Rattle.ve_lemmas.proofs.Words.{letters-times_all, start-times_all}
use Rattle.ve_lemmas.proofs.Sums.{greatest-le, le-greatest}
use Rattle.ve_lemmas.proofs.Products.{length-element_times, length-scaled}
use Rattle.ve_formats.specs.Causes.{Cause}
use Rattle.ve_formats.specs.ModuleExpressions.{ModuleExpression}
use Rattle.ve_formats.specs.Values.{IsReadable, IsAlgebraValue}
use Rattle.ve_formats.specs.ModuleValues.{IsModuleValue, ModuleAddsUp, added, too_many, ModuleMultiplies, multiplied, too_long, multiple, HasModuleValue, of_zero, of_generator, of_unknown, of_product, of_product_left, of_product_right, of_opposite, of_faulty_opposite, of_sum, of_sum_left, of_sum_right, of_difference, of_difference_left, of_difference_right}
use Rattle.ve_formats.specs.ModuleValues as modules
use Rattle.ve_formats.proofs.ElementSums.{prime_positive}
use Rattle.ve_formats.proofs.KeptTerms.{words_kept, module_terms_kept}
use Rattle.ve_formats.proofs.SumTerms.{scaled_keys, element_times_keys}
use Rattle.ve_formats.proofs.ValueElements.{is_value}

-- a word of the presentation, and not too long
abbrev IsShortWord : Presentation → Word → Type 0
IsShortWord P w = IsWord P w × (word_length w ≤ most_length)

module _ (unique : ReducedListsAreUnique) (P : Presentation) (readable : IsReadable P) where
  some : 0 < P.prime
  some = prime_positive P.prime readable.field

  abbrev IfModuleValue : Result Element Cause → Type 0
  IfModuleValue (Ok v) = IsModuleValue P v
  IfModuleValue (Err cause) = Unit {0}

  -- the list of a sum of few terms with short keys
  collected_module_value : {v e : Element} → IsElementOf P.prime v e → All (λ t. IsShortWord P t.0) e → length e ≤ most_terms → IsModuleValue P v
  collected_module_value {v} {e} h keys few =
      let all : All (λ t. IsShortWord P t.0) v = words_kept unique P.prime some (IsShortWord P) h keys in
      let short : All (λ t. word_length t.0 ≤ most_length) v = All-weaker (λ (t : Word × ℕ). IsShortWord P t.0) (λ (t : Word × ℕ). word_length t.0 ≤ most_length) (λ t k. k.1) v all in
      record {
        reduced = h.reduced;
        words = All-weaker (λ (t : Word × ℕ). IsShortWord P t.0) (λ (t : Word × ℕ). IsWord P t.0) (λ t k. k.0) v all;
        terms = let kept : length v ≤ length e = module_terms_kept unique P.prime some (IsShortWord P) h in omega (arith, kept);
        short = greatest-le word_length most_length v short;
      }

  words_of : {v : Element} → IsModuleValue P v → All (λ t. IsShortWord P t.0) v
  words_of {v} h = λ k d l. (h.words k d l, short (slice_index_or v k d).0 (le-greatest word_length v k d l))
    where
      short : (w : Word) → word_length w ≤ element_length v → word_length w ≤ most_length
      short w k = omega (arith, k, h.short)

  empty_module_value : IsModuleValue P []
  unfolding IsReduced greatest
  empty_module_value = record { reduced = tt; words = All-nil (λ (t : Word × ℕ). IsWord P t.0); terms = omega arith; short = omega arith }

  generator_value : (i : ℕ) → i < P.generators → All (λ t. IsShortWord P t.0) (unit (words.generator i))
  unfolding start letters
  generator_value i within =
      All-cons (λ (t : Word × ℕ). IsShortWord P t.0) (words.generator i, 1) [] ((within, All-nil (λ x. x < letter_count P)), omega arith) (All-nil (λ (t : Word × ℕ). IsShortWord P t.0))

  scaled_generator_value : (c i : ℕ) {v : Element} → i < P.generators → IsElementOf P.prime v (scaled c (unit (words.generator i))) → IsModuleValue P v
  scaled_generator_value c i within is =
      let long : length (scaled c (unit (words.generator i))) ≡ 1 = length-scaled c (unit (words.generator i)) in
      collected_module_value is (scaled_keys c (IsShortWord P) (unit (words.generator i)) (generator_value i within)) (omega (arith, long))

  scaled_module_value : (c : ℕ) {u v : Element} → IsModuleValue P u → IsElementOf P.prime v (scaled c u) → IsModuleValue P v
  scaled_module_value c {u} h is =
      let long : length (scaled c u) ≡ length u = length-scaled c u in
      collected_module_value is (scaled_keys c (IsShortWord P) u (words_of h)) (omega (arith, long, h.terms))

  module_sum_value : {u v : Element} {r : Result Element Cause} → IsModuleValue P u → IsModuleValue P v → ModuleAddsUp P.prime u v r → IfModuleValue r
  module_sum_value {u} {v} h k (added w few is) =
      let long : length (u ++ v) ≡ length u + length v = length-append u v in
      collected_module_value is (All-append (λ (t : Word × ℕ). IsShortWord P t.0) u v (words_of h) (words_of k)) (omega (arith, long, few))
  module_sum_value h k (too_many many) = tt

  module_product_value : {u : Element} {v : AlgebraElement} {r : Result Element Cause} → IsModuleValue P u → IsAlgebraValue P v → ModuleMultiplies P.prime u v r → IfModuleValue r
  module_product_value {u} {v} h k (multiplied w few short is) =
      let long : length (element_times u v) ≡ length u * length v = length-element_times u v in
      collected_module_value is (element_times_keys (IsShortWord P) v u (λ i d l j e m. joined (slice_index_or u i d).0 (slice_index_or v j e).0 (h.words i d l) (k.letters j e m)
      (le-greatest word_length u i d l) (le-greatest length v j e m) (fits i j l m))) (omega (arith, long, few))
    where
      fits : (i j : ℕ) → i < length u → j < length v → element_length u + algebra_length v ≤ most_length
      fits i j l m = short (λ none. let empty : length u ≡ 0 = ap length none in omega arith) (λ none. let empty : length v ≡ 0 = ap length none in omega arith)

      joined : (x : Word) (y : List ℕ) → IsWord P x → HasLetters P y → word_length x ≤ element_length u → length y ≤ algebra_length v → element_length u + algebra_length v ≤ most_length
          → IsShortWord P (times_all x y)
      joined x y a b c d m =
          let long : length (letters (times_all x y)) ≡ length (letters x) + length y = ap length (letters-times_all x y) ∙ length-append (letters x) y in
          let first : start (times_all x y) < P.generators = subst (λ i. i < P.generators) (sym (start-times_all x y)) a.0 in
          let own : HasLetters P (letters (times_all x y)) = subst (λ u. HasLetters P u) (sym (letters-times_all x y)) (All-append (λ z. z < letter_count P) (letters x) y a.1 b) in
          ((first, own), omega (arith, long, c, d, m))
  module_product_value h k (modules.too_many many) = tt
  module_product_value h k (too_long few left right long) = tt

  pub is_module_value : {e : ModuleExpression} {r : Result Element Cause} → HasModuleValue P e r → IfModuleValue r
  is_module_value of_zero = empty_module_value
  is_module_value (of_generator {n} {i} named is) = scaled_generator_value (multiple n) i named.0 is
  is_module_value (of_unknown absent) = tt
  is_module_value (of_product h k m) = module_product_value (is_module_value h) (is_value unique P readable k) m
  is_module_value (of_product_left h) = tt
  is_module_value (of_product_right h k) = tt
  is_module_value (of_opposite h is) = scaled_module_value (P.prime - 1) (is_module_value h) is
  is_module_value (of_faulty_opposite h) = tt
  is_module_value (of_sum h k m) = module_sum_value (is_module_value h) (is_module_value k) m
  is_module_value (of_sum_left h) = tt
  is_module_value (of_sum_right h k) = tt
  is_module_value (of_difference h k is m) = module_sum_value (is_module_value h) (scaled_module_value (P.prime - 1) (is_module_value k) is) m
  is_module_value (of_difference_left h) = tt
  is_module_value (of_difference_right h k) = tt
