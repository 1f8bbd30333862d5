-- An answer of the module, by its least words and its derived rows alone, meets the relations and decides what is derived.
use Rattle.std.proofs.Common.{ℕ, suc, ◌+◌, ◌*◌, ◌-◌, ◌%◌, ◌<◌, ◌≤◌, ◌≡◌, refl, nat_eq, Option, Some, None, slice_get, List, [], ◌∷◌, length, slice_index_or, All, ap, ◌∙◌, subst, arith}
use Rattle.std.proofs.lemmas.Option.{slice_get_within}
use Rattle.std.proofs.lemmas.List.Elements.{All-nil, All-cons, All-head, All-tail, All-append}
use Rattle.ve_theory.specs.Residues.{Congruent}
use Rattle.ve_theory.specs.Combinations.{Combination, unit, scaled, difference, extended, coefficient}
use Rattle.ve_theory.specs.Words.{Word, generator, times_all}
use Rattle.ve_theory.specs.Elements.{AlgebraElement, Element, word_times}
use Rattle.ve_theory.specs.Presentations.{Presentation, IsPresentation, IsWord, HasLetters, letter_count, inverse_relators, relators, relator, submodule_relation}
use Rattle.ve_theory.specs.Derivations.{Derived}
use Rattle.ve_theory.specs.Answers.{Answer, Row, IsModuleAnswer, HasPlacedRows, IsPlaced, MeetsRelations, basis_word, dimension, word_row, evaluation, combination_of, row_times_element, RelatorVanishes}
use Rattle.ve_theory.specs.Laws.{IsElement, AnswersDecide}
use Rattle.ve_theory.proofs.Sums.{weigh, weigh-append, weigh-scaled, SameWeights, SameWeights-refl, SameWeights-sym, SameWeights-trans, SameWeights-extended, SameWeights-difference, extended-extended, extended-difference, extended-unit, extended-by_units, differences-extended, same_from_difference, Alike_from_weights, prime-large}
use Rattle.ve_theory.proofs.Members.{All-scaled}
use Rattle.ve_theory.proofs.DerivedElements.{Derived-alike, Derived-nothing, Derived-append, Derived-scaled, Derived-combined, Derived-relator, Derived-submodule}
use Rattle.ve_theory.proofs.Evaluation.{evaluation-word_times, row_times_element-extended}
use Rattle.ve_theory.proofs.InverseLetters.{IsWord-times_all}
use Rattle.ve_theory.proofs.Independence.{congruent_by, least_words_independent}
use Rattle.ve_theory.proofs.Remainders.{All-extended, All-unit, HasRemainders, word_remainder, zero_in}
use Rattle.ve_theory.proofs.Kernels.{zero_row, row_weights, placed_from_form, word_row_placed, derived_remainders}

-- the letters of relators

pub inverse_relators_letters : (p n first : ℕ) (inverses : List (Option ℕ)) → first + length inverses ≤ n → ((x y : ℕ) → slice_get inverses x ≡ Some (Some y) → y < n)
    → All (λ r. All (λ t. All (λ x. x < n) t.0) r) (inverse_relators p first inverses)
unfolding inverse_relators
inverse_relators_letters p n first [] l known = All-nil (λ (r : AlgebraElement). All (λ t. All (λ x. x < n) t.0) r)
inverse_relators_letters p n first (None ∷ rest) l known = inverse_relators_letters p n (first + 1) rest (omega arith) (λ x. known (suc x))
inverse_relators_letters p n first (Some y ∷ rest) l known =
    All-cons (λ (r : AlgebraElement). All (λ t. All (λ x. x < n) t.0) r) ((first ∷ y ∷ [], 1) ∷ ([], p - 1) ∷ []) (inverse_relators p (first + 1) rest)
    (All-cons (λ (t : List ℕ × ℕ). All (λ x. x < n) t.0) (first ∷ y ∷ [], 1) (([], p - 1) ∷ [])
    (All-cons (λ x. x < n) first (y ∷ []) (omega arith) (All-cons (λ x. x < n) y [] (known 0 y refl) (All-nil (λ x. x < n))))
    (All-cons (λ (t : List ℕ × ℕ). All (λ x. x < n) t.0) ([], p - 1) [] (All-nil (λ x. x < n)) (All-nil (λ (t : List ℕ × ℕ). All (λ x. x < n) t.0))))
    (inverse_relators_letters p n (first + 1) rest (omega arith) (λ x. known (suc x)))

pub relators_letters : (P : Presentation) → IsPresentation P → All (λ r. All (λ t. HasLetters P t.0) r) (relators P)
relators_letters P V =
    All-append (λ (r : AlgebraElement). All (λ t. HasLetters P t.0) r) (inverse_relators P.prime 0 P.inverses) P.relations
    (inverse_relators_letters P.prime (letter_count P) 0 P.inverses (omega (arith, V.one_inverse_each))
    (λ x y e. omega (arith, slice_get_within P.inverses y (Some x) (V.inverses x y e), V.one_inverse_each)))
    (λ k d l. (V.relations k d l).1)

pub All-word_times : (Q : Word → Type 0) (w : Word) (r : AlgebraElement) → All (λ t. Q (times_all w t.0)) r → All (λ t. Q t.0) (word_times w r)
unfolding word_times
All-word_times Q w [] h = All-nil (λ (t : Word × ℕ). Q t.0)
All-word_times Q w (t ∷ r) h =
    All-cons (λ (s : Word × ℕ). Q s.0) (times_all w t.0, t.1) (word_times w r) (All-head (λ (s : List ℕ × ℕ). Q (times_all w s.0)) t r h)
    (All-word_times Q w r (All-tail (λ (s : List ℕ × ℕ). Q (times_all w s.0)) t r h))

-- derived elements

Derived-extended : {K : Type 0} (P : Presentation) (f : K → Element) (v : Combination K) → All (λ t. Derived P (f t.0)) v → Derived P (extended f v)
unfolding extended
Derived-extended P f [] h = Derived-nothing P
Derived-extended {K} P f (t ∷ v) h =
    Derived-append P (Derived-scaled P t.1 (All-head (λ (s : K × ℕ). Derived P (f s.0)) t v h)) (Derived-extended P f v (All-tail (λ (s : K × ℕ). Derived P (f s.0)) t v h))

-- x, minus x - r, is r
rest_number : (p x r : ℕ) → 0 < p → Congruent p ((p - 1) * (x + (p - 1) * r) + 1 * x) r
rest_number p x r l = subst (λ q. Congruent q ((p - 1) * (x + (p - 1) * r) + 1 * x) r) (omega arith) (at (p - 1))
  where
    at : (m : ℕ) → Congruent (suc m) (m * (x + m * r) + 1 * x) r
    at m = congruent_by (suc m) (m * (x + m * r) + 1 * x) r r (x + m * r) (omega arith)

-- what a derived element differs from by what is derived
Derived-rest : (P : Presentation) → 0 < P.prime → (u r : Element) → Derived P (difference P.prime u r) → Derived P u → Derived P r
Derived-rest P l u r d h =
    Derived-alike P (record { at = λ g. ap (λ n. n % P.prime) (simp (weigh-append, weigh-scaled) refl) ∙ rest_number P.prime (weigh g u) (weigh g r) l })
    (Derived-combined P (P.prime - 1) 1 d h)

module _ (P : Presentation) (A : Answer) (V : IsPresentation P) (F : IsModuleAnswer P A) where
  positive : 0 < P.prime
  positive = omega (arith, prime-large P.prime V.field)

  placed : HasPlacedRows P A.action
  placed = placed_from_form P A F.shape F.form

  remainders : HasRemainders P A.action (IsWord P) (λ w j. j < dimension A.action) (Derived P)
  remainders = derived_remainders P A.action V placed F.rows

  -- a row that stands for a derived combination of basis words
  zero_combination : (row : Row) → IsPlaced A.action row → Derived P (combination_of A.action row) → SameWeights P.prime row []
  unfolding coefficient
  zero_combination row h d = row_weights P.prime row [] (least_words_independent P V A.action.basis F.basis row h d)

  -- an element differs from the combination of its row by what is derived
  combination_remainder : (v : Element) → IsElement P v → Derived P (difference P.prime v (combination_of A.action (evaluation A.action v)))
  combination_remainder v words =
      Derived-alike P
      (SameWeights-trans (differences-extended P.prime unit (λ w. combination_of A.action (word_row A.action w)) v)
      (SameWeights-difference (extended-by_units P.prime v) (SameWeights-sym (extended-extended P.prime (λ j. unit (basis_word A.action j)) (word_row A.action) v))))
      (Derived-extended P (λ w. difference P.prime (unit w) (combination_of A.action (word_row A.action w))) v
      (λ k t l. word_remainder remainders (slice_index_or v k t).0 (words k t l)))

  derived_zero : (v : Element) → IsElement P v → Derived P v → SameWeights P.prime (evaluation A.action v) []
  derived_zero v words d =
      zero_combination (evaluation A.action v)
      (All-extended (λ j. j < dimension A.action) (word_row A.action) v (λ k t l. word_row_placed P A.action placed (slice_index_or v k t).0 (words k t l)))
      (Derived-rest P positive v (combination_of A.action (evaluation A.action v)) (combination_remainder v words) d)

  -- the relations

  basis_is_word : (j : ℕ) → j < dimension A.action → IsWord P (basis_word A.action j)
  basis_is_word j l = (F.basis.only j (generator 0) l).word

  own_row : (j : ℕ) → j < dimension A.action → SameWeights P.prime (word_row A.action (basis_word A.action j)) (unit j)
  own_row j l =
      SameWeights-sym (same_from_difference P.prime (unit j) row positive
      (zero_combination (difference P.prime (unit j) row)
      (All-append (λ (t : ℕ × ℕ). t.0 < dimension A.action) (unit j) (scaled (P.prime - 1) row) (All-unit (λ i. i < dimension A.action) j l)
      (All-scaled (λ i. i < dimension A.action) (P.prime - 1) row (word_row_placed P A.action placed (basis_word A.action j) (basis_is_word j l))))
      (Derived-alike P
      (SameWeights-sym
      (SameWeights-trans (extended-difference P.prime (λ i. unit (basis_word A.action i)) (unit j) row)
      (SameWeights-difference (extended-unit P.prime (λ i. unit (basis_word A.action i)) j) (SameWeights-refl P.prime (combination_of A.action row)))))
      (word_remainder remainders (basis_word A.action j) (basis_is_word j l)))))
    where
      row : Row
      row = word_row A.action (basis_word A.action j)

  relator_vanishes : (number j : ℕ) → number < length (relators P) → j < dimension A.action → RelatorVanishes P A.action number j
  relator_vanishes number j l m =
      zero_row (SameWeights-trans (SameWeights-sym same)
      (derived_zero (word_times (basis_word A.action j) (relator P number)) words (Derived-relator P (basis_word A.action j) number (basis_is_word j m) l)))
    where
      act : ℕ → Row
      act i = row_times_element A.action (unit i) (relator P number)

      same : SameWeights P.prime (evaluation A.action (word_times (basis_word A.action j) (relator P number))) (act j)
      same =
          SameWeights-trans (evaluation-word_times P.prime A.action (basis_word A.action j) (relator P number))
          (SameWeights-trans (row_times_element-extended P.prime A.action (word_row A.action (basis_word A.action j)) (relator P number))
          (SameWeights-trans (SameWeights-extended act (own_row j m)) (extended-unit P.prime act j)))

      words : IsElement P (word_times (basis_word A.action j) (relator P number))
      words =
          All-word_times (IsWord P) (basis_word A.action j) (relator P number)
          (λ k t n. IsWord-times_all P (basis_word A.action j) (slice_index_or (relator P number) k t).0 (basis_is_word j m) (relators_letters P V number [] l k t n))

  meets_relations : MeetsRelations P A.action
  meets_relations = record {
    relators = relator_vanishes;
    submodule = λ number l. zero_row (derived_zero (submodule_relation P number) (V.submodule number [] l).1 (Derived-submodule P number l));
    own_rows = λ j l. Alike_from_weights nat_eq (own_row j l);
  }

pub answers_decide : AnswersDecide
answers_decide = λ P A V F. record {
  meets = meets_relations P A V F;
  kernel = λ v words. (
    λ h. zero_row (derived_zero P A V F v words h),
    λ zero. zero_in (remainders P A V F) v words (row_weights P.prime (evaluation A.action v) [] zero),
  );
}
