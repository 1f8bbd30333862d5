-- What is traced over a sound table, by its definition.
use Rattle.std.proofs.Common.{◌≡◌, ℕ, ◌+◌, ◌%◌, ◌<◌, ◌≤◌, List, [], ◌∷◌, All, length, nat_eq, slice_index_or, sym, ap, ◌∙◌, subst, arith}
use Rattle.std.proofs.lemmas.List.Elements.{All-nil, All-cons, All-head, All-tail, All-weaker}
use Rattle.std.proofs.lemmas.Option.{slice_get-get_or}
use mathlib.Core.Path.{fun_ext}
use Rattle.ve_theory.specs.Combinations.{unit, scaled, extended, IsReducedOf}
use Rattle.ve_theory.specs.Words.{Word, generator, times_all, start, letters, letters_weight, spelled_back}
use Rattle.ve_theory.specs.Elements.{AlgebraElement, Element, element_times, word_times, greatest}
use Rattle.ve_theory.specs.Presentations.{Presentation, HasLetters, IsWord, due, element_reach, relator_reach, reach}
use Rattle.ve_theory.specs.Answers.{Row, IsRow, IsNotAfter}
use Rattle.ve_theory.specs.Laws.{ReachAddsUp, WordsAreOrdered, IsTotalOrder}
use Rattle.ve_theory.proofs.Sums.{weigh-extended, weigh-unit, weigh, SameWeights, SameWeights-refl, SameWeights-sym, SameWeights-difference, SameWeights-extended, extended-by_units}
use Rattle.ve_theory.proofs.Products.{weigh-word_times}
use Rattle.ve_theory.proofs.DerivationTrees.{All-greatest}
use Rattle.ve_theory.proofs.Remainders.{All-extended, All-unit}
use Rattle.ve_theory.proofs.DerivedElements.{DerivedWithin-alike}
use Rattle.ve_vec.specs.Tracing.{PartialTable, vector_times_letters, vector_times_element, vector_of_word, vector_of}
use Rattle.ve_table.specs.Tables.{ActionTable, presented, word_at, element_of}
use Rattle.ve_table.specs.Sound.{IsImageOf}
use Rattle.ve_trace.specs.Within.{AreRowsOf, StandsForElement, IsTracedWord, IsTracedRelator, IsTracedRelation}
use Rattle.ve_trace.proofs.Vectors.{ids_of_sum}
use Rattle.ve_trace.proofs.Adding.{weights_of}
use Rattle.ve_trace.proofs.Products.{reach-times_all}
use Rattle.ve_trace.proofs.SoundRows.{IsIdFor, HasIdsFor, not_after_reach}
use Rattle.ve_trace.proofs.DerivedProducts.{stands-alike, stands-extended, stands-letters, stands-product, ids_after_letters}

-- words of an element that are within k

pub ids_by_reach : (adds : ReachAddsUp) (T : ActionTable) (v : Row) (u : List ℕ) → All (λ t. t.0 < length T.words) v
    → element_reach (presented T) (element_times (element_of T v) (unit u)) ≤ T.level → HasIdsFor T u v
unfolding extended scaled element_times word_times greatest
ids_by_reach adds T [] u below within = All-nil (λ (t : ℕ × ℕ). IsIdFor T u t.0)
ids_by_reach adds T (t ∷ v) u below within =
    All-cons (λ (s : ℕ × ℕ). IsIdFor T u s.0) t v
    (All-head (λ (s : ℕ × ℕ). s.0 < length T.words) t v below, omega (arith, reach-times_all adds (presented T) (word_at T t.0) u))
    (ids_by_reach adds T v u (All-tail (λ (s : ℕ × ℕ). s.0 < length T.words) t v below) (omega arith))

pub id_by_due : (T : ActionTable) (b : ℕ) (r : AlgebraElement) → b < length T.words → due (presented T) (word_at T b) r ≤ T.level → All (λ t. IsIdFor T t.0 b) r
id_by_due T b r known within =
    All-weaker (λ (t : List ℕ × ℕ). letters_weight (presented T).weights t.0 ≤ relator_reach (presented T) r) (λ (t : List ℕ × ℕ). IsIdFor T t.0 b)
    (λ t le. (known, omega arith)) r (All-greatest (letters_weight (presented T).weights) r (relator_reach (presented T) r) (omega arith))

-- an id, as a vector
pub unit_fits : (T : ActionTable) (b : ℕ) (u : List ℕ) → IsIdFor T u b → HasIdsFor T u (unit b)
unit_fits T b u fits = All-unit (λ j. IsIdFor T u j) b fits

-- the image of a generator
pub record IsImageFor (T : ActionTable) (u : List ℕ) (i : ℕ) (v : Row) : Type 0 where
  pub image : IsImageOf T i v
  pub ids : HasIdsFor T u v

module _ (adds : ReachAddsUp) (T : ActionTable) (rows : PartialTable) (are : AreRowsOf T (presented T).prime rows) (ordered : IsTotalOrder (presented T)) where
  abbrev P : Presentation
  P = presented T

  abbrev p : ℕ
  p = P.prime

  -- a vector that is alike to one that stands for the element
  from_sum : (e : Element) (v s : Row) → IsReducedOf ◌<◌ nat_eq p v s → HasIdsFor T [] s → StandsForElement T e s → StandsForElement T e v × IsRow p (length T.words) v
  from_sum e v s sum fits stands = (
    DerivedWithin-alike P T.level (SameWeights-difference (SameWeights-refl p e) (SameWeights-extended (λ j. unit (word_at T j)) (SameWeights-sym (weights_of sum)))) stands,
    (sum.reduced, ids_of_sum p (length T.words) v s sum (All-weaker (λ (t : ℕ × ℕ). IsIdFor T [] t.0) (λ (t : ℕ × ℕ). t.0 < length T.words) (λ t h. h.0) s fits)),
  )

  word_traced : (first : Row) (u : List ℕ) (v : Row) → IsReducedOf ◌<◌ nat_eq p v (vector_times_letters rows first u) → IsTracedWord T p rows first u v
  word_traced first u v traced _ row has within =
      let fits : HasIdsFor T u first = ids_by_reach adds T first u row.1 within in
      from_sum (element_times (element_of T first) (unit u)) v (vector_times_letters rows first u) traced
      (ids_after_letters adds T rows are ordered first u has fits) (stands-letters adds T rows are ordered first u has fits)

  -- a relator

  word_times-extended : (w : Word) (r : AlgebraElement) → SameWeights p (extended (λ u. unit (times_all w u)) r) (word_times w r)
  word_times-extended w r = record {
    at = λ h. ap (λ n. n % p) (weigh-extended h (λ u. unit (times_all w u)) r ∙ (ap (λ g. weigh g r) (fun_ext (λ u. weigh-unit h (times_all w u))) ∙ sym (weigh-word_times h w r)));
  }

  id_stands : (b : ℕ) (u : List ℕ) → HasLetters P u → IsIdFor T u b → StandsForElement T (unit (times_all (word_at T b) u)) (vector_times_letters rows (unit b) u)
  unfolding extended scaled element_times word_times
  id_stands b u has fits = stands-letters adds T rows are ordered (unit b) u has (unit_fits T b u fits)

  relator_traced : (b : ℕ) (r : AlgebraElement) (v : Row) → IsReducedOf ◌<◌ nat_eq p v (vector_times_element rows (unit b) r) → IsTracedRelator T p rows b r v
  relator_traced b r v traced _ known has within =
      let fits : All (λ t. IsIdFor T t.0 b) r = id_by_due T b r known within in
      from_sum (word_times (word_at T b) r) v (vector_times_element rows (unit b) r) traced
      (All-extended (λ j. IsIdFor T [] j) (vector_times_letters rows (unit b)) r
      (λ k d l. ids_after_letters adds T rows are ordered (unit b) (slice_index_or r k d).0 (has k d l) (unit_fits T b (slice_index_or r k d).0 (fits k d l))))
      (stands-alike adds T rows are ordered (extended (λ u. unit (times_all (word_at T b) u)) r) (word_times (word_at T b) r) (vector_times_element rows (unit b) r) (word_times-extended (word_at T b) r)
      (stands-extended adds T rows are ordered (λ u. unit (times_all (word_at T b) u)) (vector_times_letters rows (unit b)) r
      (λ k d l. id_stands b (slice_index_or r k d).0 (has k d l) (fits k d l))))

  -- a submodule relation

  pub image_for : (w : Word) → IsWord P w → reach P w ≤ T.level → IsImageFor T (letters w) (start w) (slice_index_or T.images (start w) [])
  image_for w word within =
      let image : IsImageOf T (start w) (slice_index_or T.images (start w) []) =
      are.sound.images (start w) (slice_index_or T.images (start w) []) (slice_get-get_or T.images (start w) [] (omega (arith, word.0, are.sound.one_image_each))) in
      let none : reach P (generator (start w)) ≡ 0 = (adds P).0 (start w) in
      let spelled : reach P w ≡ reach P (generator (start w)) + letters_weight P.weights (letters w) =
      ap (reach P) (sym (spelled_back w)) ∙ reach-times_all adds P (generator (start w)) (letters w) in
      record {
        image = image;
        ids = All-weaker (λ (t : ℕ × ℕ). (t.0 < length T.words) × IsNotAfter P (word_at T t.0) (generator (start w))) (λ (t : ℕ × ℕ). IsIdFor T (letters w) t.0)
            (λ t h. (h.0, omega (arith, not_after_reach P ordered (word_at T t.0) (generator (start w)) h.1))) (slice_index_or T.images (start w) []) image.not_after;
      }

  word_stands : (w : Word) → IsWord P w → reach P w ≤ T.level → StandsForElement T (unit w) (vector_of_word rows T.images w)
  unfolding element_times word_times scaled
  word_stands w word within =
      let image : IsImageFor T (letters w) (start w) (slice_index_or T.images (start w) []) = image_for w word within in
      let spelled : reach P w ≡ reach P (generator (start w)) + letters_weight P.weights (letters w) =
      ap (reach P) (sym (spelled_back w)) ∙ reach-times_all adds P (generator (start w)) (letters w) in
      let S : Word → Type 0 = λ m. StandsForElement T (unit m) (vector_of_word rows T.images w) in
      subst S (spelled_back w)
      (stands-product adds T rows are ordered (unit (generator (start w))) (slice_index_or T.images (start w) []) (letters w) word.1
      (All-unit (λ m. reach P m + letters_weight P.weights (letters w) ≤ T.level) (generator (start w)) (omega arith)) image.ids image.image.stands.derived)

  relation_traced : (q : Element) (v : Row) → IsReducedOf ◌<◌ nat_eq p v (vector_of rows T.images q) → All (λ t. IsWord P t.0) q → element_reach P q ≤ T.level
      → StandsForElement T q v × IsRow p (length T.words) v
  relation_traced q v traced words within =
      let reaches : All (λ t. reach P t.0 ≤ T.level) q = All-greatest (reach P) q T.level within in
      from_sum q v (vector_of rows T.images q) traced
      (All-extended (λ j. IsIdFor T [] j) (vector_of_word rows T.images) q
      (λ k d l.
      let w : Word = (slice_index_or q k d).0 in
      ids_after_letters adds T rows are ordered (slice_index_or T.images (start w) []) (letters w) (words k d l).1 (image_for w (words k d l) (reaches k d l)).ids))
      (stands-alike adds T rows are ordered (extended unit q) q (vector_of rows T.images q) (extended-by_units p q)
      (stands-extended adds T rows are ordered unit (vector_of_word rows T.images) q (λ k d l. word_stands (slice_index_or q k d).0 (words k d l) (reaches k d l))))

-- the same over the field that the rows are over

module _ (adds : ReachAddsUp) (orders : WordsAreOrdered) (T : ActionTable) (p : ℕ) (rows : PartialTable) where
  pub traced_word : (first : Row) (u : List ℕ) (v : Row) → IsReducedOf ◌<◌ nat_eq p v (vector_times_letters rows first u) → IsTracedWord T p rows first u v
  traced_word first u v traced are =
      let M : ℕ → Type 0 = λ q. IsReducedOf ◌<◌ nat_eq q v (vector_times_letters rows first u) → AreRowsOf T q rows → IsTracedWord T q rows first u v in
      let at_prime : M (presented T).prime = λ given at_rows. word_traced adds T rows at_rows (orders (presented T) at_rows.sound.valid.presentation) first u v given in
      subst M are.field at_prime traced are are

  pub traced_relator : (b : ℕ) (r : AlgebraElement) (v : Row) → IsReducedOf ◌<◌ nat_eq p v (vector_times_element rows (unit b) r) → IsTracedRelator T p rows b r v
  traced_relator b r v traced are =
      let M : ℕ → Type 0 = λ q. IsReducedOf ◌<◌ nat_eq q v (vector_times_element rows (unit b) r) → AreRowsOf T q rows → IsTracedRelator T q rows b r v in
      let at_prime : M (presented T).prime = λ given at_rows. relator_traced adds T rows at_rows (orders (presented T) at_rows.sound.valid.presentation) b r v given in
      subst M are.field at_prime traced are are

  pub traced_relation : (images : List Row) (q : Element) (v : Row) → IsReducedOf ◌<◌ nat_eq p v (vector_of rows images q) → IsTracedRelation T p rows images q v
  traced_relation images q v traced are same words within =
      let M : ℕ → Type 0 = λ n. IsReducedOf ◌<◌ nat_eq n v (vector_of rows T.images q) → AreRowsOf T n rows → StandsForElement T q v × IsRow n (length T.words) v in
      let at_prime : M (presented T).prime = λ given at_rows. relation_traced adds T rows at_rows (orders (presented T) at_rows.sound.valid.presentation) q v given words within in
      let I : List Row → Type 0 = λ is. IsReducedOf ◌<◌ nat_eq p v (vector_of rows is q) in
      subst M are.field at_prime (subst I same traced) are
