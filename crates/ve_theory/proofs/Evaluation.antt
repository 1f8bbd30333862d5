-- What actions evaluate words, products and derivations to.
use Rattle.std.proofs.Common.{◌≡◌, ℕ, ◌%◌, ◌<◌, List, [], ◌∷◌, length, slice_index_or, All, refl, sym, ap, ◌∙◌}
use mathlib.Core.Path.{fun_ext}
use Rattle.ve_theory.specs.Combinations.{unit, scaled, extended}
use Rattle.ve_theory.specs.Words.{Word, times, times_all}
use Rattle.ve_theory.specs.Elements.{AlgebraElement, Element, word_times, times_letter}
use Rattle.ve_theory.specs.Presentations.{Presentation, relators, relator, submodule_relation, IsWord}
use Rattle.ve_theory.specs.Derivations.{Derivation, by_relator, by_submodule, combined, multiplied, nothing, value, IsDerivation}
use Rattle.ve_theory.specs.Answers.{Action, Row, matrix_row, row_times, row_times_letters, row_times_element, word_row, evaluation}
use Rattle.ve_theory.proofs.Sums.{weigh, weigh-extended, weigh-swap, SameWeights, SameWeights-refl, SameWeights-sym, SameWeights-trans, SameWeights-append, SameWeights-scaled, SameWeights-extended, SameWeights-extended_by, SameWeights_of, extended-append, extended-scaled, extended-extended, extended-unit, extended-by_units, extended_vanishes}
use Rattle.ve_theory.proofs.Products.{weigh-word_times, weigh-times_letter}

-- words

pub word_row-times_all : (A : Action) (w : Word) (u : List ℕ) → word_row A (times_all w u) ≡ row_times_letters A (word_row A w) u
unfolding times_all word_row row_times_letters
word_row-times_all A w [] = refl
word_row-times_all A w (x ∷ u) = word_row-times_all A (times w x) u

pub evaluation-word_times : (p : ℕ) (A : Action) (w : Word) (r : AlgebraElement) → SameWeights p (evaluation A (word_times w r)) (row_times_element A (word_row A w) r)
evaluation-word_times p A w r = record {
  at = λ h. ap (λ n. n % p)
      (weigh-extended h (word_row A) (word_times w r)
      ∙ (weigh-word_times (λ v. weigh h (word_row A v)) w r
      ∙ (ap (λ k. weigh k r) (fun_ext (λ u. ap (weigh h) (word_row-times_all A w u))) ∙ sym (weigh-extended h (row_times_letters A (word_row A w)) r))));
}

pub evaluation-times_letter : (p : ℕ) (A : Action) (v : Element) (x : ℕ) → SameWeights p (evaluation A (times_letter v x)) (row_times A (evaluation A v) x)
unfolding word_row
evaluation-times_letter p A v x =
    SameWeights-trans {v = extended (λ w. row_times A (word_row A w) x) v}
    (record {
      at = λ h. ap (λ n. n % p)
          (weigh-extended h (word_row A) (times_letter v x)
          ∙ (weigh-times_letter (λ w. weigh h (word_row A w)) v x ∙ sym (weigh-extended h (λ w. row_times A (word_row A w) x) v)));
    })
    (SameWeights-sym (extended-extended p (matrix_row A x) (word_row A) v))

-- rows times letters and elements are sums over the places

pub row_times_letters-extended : (p : ℕ) (A : Action) (row : Row) (u : List ℕ) → SameWeights p (row_times_letters A row u) (extended (λ j. row_times_letters A (unit j) u) row)
unfolding row_times_letters
row_times_letters-extended p A row [] = SameWeights-sym (extended-by_units p row)
row_times_letters-extended p A row (x ∷ u) =
    SameWeights-trans (row_times_letters-extended p A (row_times A row x) u)
    (SameWeights-trans (extended-extended p (λ j. row_times_letters A (unit j) u) (matrix_row A x) row)
    (SameWeights-extended_by (λ i. extended (λ j. row_times_letters A (unit j) u) (matrix_row A x i)) (λ i. row_times_letters A (row_times A (unit i) x) u) row (λ k t l. at_place (slice_index_or row k t).0 (row_times_letters-extended p A (row_times A (unit (slice_index_or row k t).0) x) u))))
  where
    at_place : (i : ℕ) → SameWeights p (row_times_letters A (row_times A (unit i) x) u) (extended (λ j. row_times_letters A (unit j) u) (row_times A (unit i) x))
        → SameWeights p (extended (λ j. row_times_letters A (unit j) u) (matrix_row A x i)) (row_times_letters A (row_times A (unit i) x) u)
    at_place i e =
        SameWeights-trans (SameWeights-extended (λ j. row_times_letters A (unit j) u) (SameWeights-sym (extended-unit p (matrix_row A x) i))) (SameWeights-sym e)

pub row_times_element-extended : (p : ℕ) (A : Action) (row : Row) (r : AlgebraElement) → SameWeights p (row_times_element A row r) (extended (λ j. row_times_element A (unit j) r) row)
row_times_element-extended p A row r =
    SameWeights-trans (SameWeights-extended_by (row_times_letters A row) (λ u. extended (λ j. row_times_letters A (unit j) u) row) r (λ k t l. row_times_letters-extended p A row (slice_index_or r k t).0))
    (record {
      at = λ h. ap (λ n. n % p)
          (weigh-extended h (λ u. extended (λ j. row_times_letters A (unit j) u) row) r
          ∙ (ap (λ k. weigh k r) (fun_ext (λ u. weigh-extended h (λ j. row_times_letters A (unit j) u) row))
          ∙ (weigh-swap (λ u j. weigh h (row_times_letters A (unit j) u)) r row
          ∙ (ap (λ k. weigh k row) (fun_ext (λ j. sym (weigh-extended h (row_times_letters A (unit j)) r)))
          ∙ sym (weigh-extended h (λ j. row_times_element A (unit j) r) row)))));
    })

-- a word times an element vanishes where each place of the word's row times the element does
pub word_times_vanishes : (p : ℕ) (A : Action) (w : Word) (r : AlgebraElement) → All (λ t. SameWeights p (row_times_element A (unit t.0) r) []) (word_row A w)
    → SameWeights p (evaluation A (word_times w r)) []
word_times_vanishes p A w r zeros =
    SameWeights-trans (evaluation-word_times p A w r)
    (SameWeights-trans (row_times_element-extended p A (word_row A w) r) (extended_vanishes p (λ j. row_times_element A (unit j) r) (word_row A w) zeros))

-- derivations

-- the value of a derivation vanishes where the relations in it do
module _ (P : Presentation) (A : Action) (Stays : Derivation → Type 0)
    (of_combined : (c : ℕ) (s : Derivation) (d : ℕ) (t : Derivation) → Stays (combined c s d t) → Stays s × Stays t)
    (of_multiplied : (t : Derivation) (x : ℕ) → Stays (multiplied t x) → Stays t)
    (relators_vanish : (w : Word) (number : ℕ) → IsWord P w → number < length (relators P) → Stays (by_relator w number)
    → SameWeights P.prime (evaluation A (word_times w (relator P number))) [])
    (submodule_vanishes : (number : ℕ) → number < length P.submodule → Stays (by_submodule number) → SameWeights P.prime (evaluation A (submodule_relation P number)) []) where
  pub value_vanishes : (t : Derivation) → IsDerivation P t → Stays t → SameWeights P.prime (evaluation A (value P t)) []
  unfolding value IsDerivation scaled extended
  value_vanishes (by_relator w number) h stays = relators_vanish w number h.0 h.1 stays
  value_vanishes (by_submodule number) h stays = submodule_vanishes number h stays
  value_vanishes (combined c s d t) h stays =
      let parts = of_combined c s d t stays in
      SameWeights-trans (SameWeights_of (extended-append (word_row A) (scaled c (value P s)) (scaled d (value P t))))
      (SameWeights-append {v = []} {s = []}
      (SameWeights-trans (extended-scaled P.prime (word_row A) c (value P s)) (SameWeights-scaled c (value_vanishes s h.0 parts.0)))
      (SameWeights-trans (extended-scaled P.prime (word_row A) d (value P t)) (SameWeights-scaled d (value_vanishes t h.1 parts.1))))
  value_vanishes (multiplied t x) h stays =
      SameWeights-trans (evaluation-times_letter P.prime A (value P t) x) (SameWeights-extended (matrix_row A x) (value_vanishes t h.0 (of_multiplied t x stays)))
  value_vanishes nothing h stays = SameWeights-refl P.prime []
