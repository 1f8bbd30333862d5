-- Over a sound table a vector times letters differs from the product by what is derived within the level.
use Rattle.std.proofs.Common.{◌≡◌, ℕ, ◌+◌, ◌*◌, ◌-◌, ◌<◌, ◌≤◌, List, [], ◌∷◌, All, Option, unwrap_or, refl, sym, ap, subst, arith}
use Rattle.std.proofs.lemmas.List.Elements.{All-head, All-tail, All-append, All-weaker}
use Rattle.ve_theory.specs.Combinations.{Combination, unit, scaled, difference, extended}
use Rattle.ve_theory.specs.Words.{Word, times, letters_weight}
use Rattle.ve_theory.specs.Elements.{Element, element_times, times_letter}
use Rattle.ve_theory.specs.Presentations.{Presentation, HasLetters, letter_count, reach}
use Rattle.ve_theory.specs.Derivations.{DerivedWithin}
use Rattle.ve_theory.specs.Answers.{Row}
use Rattle.ve_theory.specs.Laws.{ReachAddsUp, IsTotalOrder}
use Rattle.ve_theory.proofs.Sums.{SameWeights, SameWeights_of, SameWeights-refl, SameWeights-sym, SameWeights-trans, SameWeights-append, SameWeights-difference, extended-extended, differences-extended, differences-append, difference_vanishes, prime-large}
use Rattle.ve_theory.proofs.Members.{All-scaled}
use Rattle.ve_theory.proofs.Remainders.{All-extended, All-combination_of}
use Rattle.ve_theory.proofs.DerivedElements.{DerivedWithin-alike, DerivedWithin-nothing}
use Rattle.ve_lemmas.proofs.Derivations.{DerivedWithin-extended, DerivedWithin-append}
use Rattle.ve_vec.specs.Tracing.{PartialTable, row_or_zero, vector_times, vector_times_letters}
use Rattle.ve_table.specs.Tables.{ActionTable, presented, word_at, element_of, on_words}
use Rattle.ve_trace.specs.Within.{AreRowsOf, StandsForElement}
use Rattle.ve_trace.proofs.Products.{StaysFor, times_no_letters, times_first_letter, times_sum, times_scaled}
use Rattle.ve_trace.proofs.Derivations.{derived-times, stays_for_next}
use Rattle.ve_trace.proofs.SoundRows.{IsIdFor, HasIdsFor, IsProductRow, product_row}

module _ (adds : ReachAddsUp) (T : ActionTable) (rows : PartialTable) (are : AreRowsOf T (presented T).prime rows) (ordered : IsTotalOrder (presented T)) where
  abbrev P : Presentation
  P = presented T

  abbrev p : ℕ
  p = P.prime

  positive : 0 < p
  positive = let large = prime-large p are.sound.valid.presentation.field in omega arith

  -- an element that is alike to one that the vector stands for
  pub stands-alike : (e f : Element) (v : Row) → SameWeights p e f → StandsForElement T e v → StandsForElement T f v
  stands-alike e f v same h = DerivedWithin-alike P T.level (SameWeights-difference same (SameWeights-refl p (element_of T v))) h

  -- what stands for something that stands for the element, but for what is derived
  pub stands-through : (e f : Element) (v : Row) → DerivedWithin P T.level (difference p e f) → StandsForElement T f v → StandsForElement T e v
  stands-through e f v d h =
      DerivedWithin-alike P T.level (differences-append p e f (element_of T v) positive) (DerivedWithin-append P T.level d h)

  -- sums of what is stood for
  pub stands-extended : {J : Type 0} (f : J → Element) (g : J → Row) (v : Combination J) → All (λ t. StandsForElement T (f t.0) (g t.0)) v → StandsForElement T (extended f v) (extended g v)
  stands-extended f g v h =
      DerivedWithin-alike P T.level
      (SameWeights-trans (differences-extended p f (λ j. element_of T (g j)) v)
      (SameWeights-difference (SameWeights-refl p (extended f v)) (SameWeights-sym (extended-extended p (λ j. unit (word_at T j)) g v))))
      (DerivedWithin-extended P T.level (λ j. difference p (f j) (element_of T (g j))) v h)

  pub stands-itself : (v : Row) → StandsForElement T (element_of T v) v
  stands-itself v =
      DerivedWithin-alike P T.level (SameWeights-sym (difference_vanishes p (element_of T v) (element_of T v) positive (SameWeights-refl p (element_of T v)))) (DerivedWithin-nothing P T.level)

  -- a letter

  times_letter-element : (v : Row) (x : ℕ) → extended (λ b. unit (times (word_at T b) x)) v ≡ times_letter (element_of T v) x
  unfolding extended scaled times_letter
  times_letter-element [] x = refl
  times_letter-element (t ∷ v) x = ap (λ e. (times (word_at T t.0) x, t.1 * 1) ∷ e) (times_letter-element v x)

  product_of_id : (b x : ℕ) (u : List ℕ) → x < letter_count P → IsIdFor T (x ∷ u) b → StandsForElement T (unit (times (word_at T b) x)) (row_or_zero rows x b)
  product_of_id b x u is_letter fits =
      let row : IsProductRow T rows b x u = product_row adds T rows p are ordered b x u is_letter fits in
      let S : Row → Type 0 = λ v. StandsForElement T (unit (times (word_at T b) x)) v in
      subst S (sym (ap (λ (r : Option Row). unwrap_or r []) row.known)) row.row.stands.derived

  ids_of_product : (b x : ℕ) (u : List ℕ) → x < letter_count P → IsIdFor T (x ∷ u) b → HasIdsFor T u (row_or_zero rows x b)
  ids_of_product b x u is_letter fits =
      let row : IsProductRow T rows b x u = product_row adds T rows p are ordered b x u is_letter fits in
      let S : Row → Type 0 = λ v. HasIdsFor T u v in
      subst S (sym (ap (λ (r : Option Row). unwrap_or r []) row.known)) row.ids

  pub stands-letter : (v : Row) (x : ℕ) (u : List ℕ) → x < letter_count P → HasIdsFor T (x ∷ u) v → StandsForElement T (times_letter (element_of T v) x) (vector_times rows v x)
  stands-letter v x u is_letter fits =
      stands-alike (extended (λ b. unit (times (word_at T b) x)) v) (times_letter (element_of T v) x) (vector_times rows v x) (SameWeights_of (times_letter-element v x))
      (stands-extended (λ b. unit (times (word_at T b) x)) (row_or_zero rows x) v
      (All-weaker (λ (t : ℕ × ℕ). IsIdFor T (x ∷ u) t.0) (λ (t : ℕ × ℕ). StandsForElement T (unit (times (word_at T t.0) x)) (row_or_zero rows x t.0))
      (λ t h. product_of_id t.0 x u is_letter h) v fits))

  pub ids_after_letter : (v : Row) (x : ℕ) (u : List ℕ) → x < letter_count P → HasIdsFor T (x ∷ u) v → HasIdsFor T u (vector_times rows v x)
  ids_after_letter v x u is_letter fits =
      All-extended (λ b. IsIdFor T u b) (row_or_zero rows x) v
      (All-weaker (λ (t : ℕ × ℕ). IsIdFor T (x ∷ u) t.0) (λ (t : ℕ × ℕ). HasIdsFor T u (row_or_zero rows x t.0)) (λ t h. ids_of_product t.0 x u is_letter h) v fits)

  pub ids_after_letters : (v : Row) (u : List ℕ) → HasLetters P u → HasIdsFor T u v → HasIdsFor T [] (vector_times_letters rows v u)
  unfolding vector_times_letters
  ids_after_letters v [] has fits = fits
  ids_after_letters v (x ∷ u) has fits =
      ids_after_letters (vector_times rows v x) u (All-tail (λ y. y < letter_count P) x u has) (ids_after_letter v x u (All-head (λ y. y < letter_count P) x u has) fits)

  -- an element and what stands for it, times letters

  stays_by_ids : (u : List ℕ) (v : Row) → HasIdsFor T u v → StaysFor P T.level u (element_of T v)
  stays_by_ids u v fits =
      All-combination_of (λ w. reach P w + letters_weight P.weights u ≤ T.level) (on_words T.words) v
      (All-weaker (λ (t : ℕ × ℕ). IsIdFor T u t.0) (λ (t : ℕ × ℕ). reach P (word_at T t.0) + letters_weight P.weights u ≤ T.level) (λ t h. h.1) v fits)

  times_difference : (e f : Element) (u : List ℕ) → SameWeights p (element_times (difference p e f) (unit u)) (difference p (element_times e (unit u)) (element_times f (unit u)))
  times_difference e f u =
      SameWeights-trans (times_sum p e (scaled (p - 1) f) u) (SameWeights-append (SameWeights-refl p (element_times e (unit u))) (times_scaled p (p - 1) f u))

  -- the element and its vector times the letters differ by what is derived
  pub derived-after : (e : Element) (v : Row) (u : List ℕ) → HasLetters P u → StaysFor P T.level u e → HasIdsFor T u v → StandsForElement T e v
      → DerivedWithin P T.level (difference p (element_times e (unit u)) (element_times (element_of T v) (unit u)))
  derived-after e v u has stays fits stands =
      let Q : Word → Type 0 = λ w. reach P w + letters_weight P.weights u ≤ T.level in
      DerivedWithin-alike P T.level (times_difference e (element_of T v) u)
      (derived-times adds P T.level u (difference p e (element_of T v)) has
      (All-append (λ (t : Word × ℕ). Q t.0) e (scaled (p - 1) (element_of T v)) stays (All-scaled Q (p - 1) (element_of T v) (stays_by_ids u v fits))) stands)

  pub stands-letters : (v : Row) (u : List ℕ) → HasLetters P u → HasIdsFor T u v → StandsForElement T (element_times (element_of T v) (unit u)) (vector_times_letters rows v u)
  unfolding vector_times_letters
  stands-letters v [] has fits =
      stands-alike (element_of T v) (element_times (element_of T v) (unit [])) v (SameWeights-sym (times_no_letters p (element_of T v))) (stands-itself v)
  stands-letters v (x ∷ u) has fits =
      let is_letter : x < letter_count P = All-head (λ y. y < letter_count P) x u has in
      let others : HasLetters P u = All-tail (λ y. y < letter_count P) x u has in
      let next : HasIdsFor T u (vector_times rows v x) = ids_after_letter v x u is_letter fits in
      let product : Element = times_letter (element_of T v) x in
      stands-alike (element_times product (unit u)) (element_times (element_of T v) (unit (x ∷ u))) (vector_times_letters rows (vector_times rows v x) u)
      (SameWeights-sym (times_first_letter p (element_of T v) x u))
      (stands-through (element_times product (unit u)) (element_times (element_of T (vector_times rows v x)) (unit u)) (vector_times_letters rows (vector_times rows v x) u)
      (derived-after product (vector_times rows v x) u others (stays_for_next adds P T.level x u (element_of T v) (stays_by_ids (x ∷ u) v fits)) next (stands-letter v x u is_letter fits))
      (stands-letters (vector_times rows v x) u others next))

  -- an element, and the vector that stands for it, times letters
  pub stands-product : (e : Element) (v : Row) (u : List ℕ) → HasLetters P u → StaysFor P T.level u e → HasIdsFor T u v → StandsForElement T e v
      → StandsForElement T (element_times e (unit u)) (vector_times_letters rows v u)
  stands-product e v u has stays fits stands =
      stands-through (element_times e (unit u)) (element_times (element_of T v) (unit u)) (vector_times_letters rows v u) (derived-after e v u has stays fits stands) (stands-letters v u has fits)
