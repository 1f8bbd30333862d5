-- What is derived, and the actions that meet the relations.
use Rattle.std.proofs.Common.{◌≡◌, ℕ, ◌%◌, ◌<◌, nat_eq, [], length, slice_index_or, All, Contains, ap, arith}
use Rattle.std.proofs.lemmas.List.Elements.{All-from_get_or}
use Rattle.ve_theory.specs.Combinations.{unit, difference, coefficient}
use Rattle.ve_theory.specs.Words.{Word, generator, times}
use Rattle.ve_theory.specs.Elements.{Element, word_times}
use Rattle.ve_theory.specs.Presentations.{Presentation, IsPresentation, IsWord, relators, relator, submodule_relation}
use Rattle.ve_theory.specs.Derivations.{Derived}
use Rattle.ve_theory.specs.Levels.{IsLeast, Lists}
use Rattle.ve_theory.specs.Answers.{Action, Answer, HasShape, IsWellFormed, Row, basis_word, dimension, matrix_row, row_times_element, word_row, evaluation, IsZeroRow, IsPlaced, IsNotAfter, IsRowUpTo, HasPlacedRows, HasDerivedRows, IsOrdered, MeetsRelations}
use Rattle.ve_theory.proofs.Sums.{SameWeights, SameWeights-sym, SameWeights-trans, SameWeights-extended, Alike_from_weights, weights_from_Alike, Decides-nat_eq, prime-large}
use Rattle.ve_theory.proofs.Members.{IsWord-prefix, IsWord-last, IsWord-start}
use Rattle.ve_theory.proofs.DerivedElements.{Derived-shows, Derived-alike, Derived-nothing, Derived-combined, Derived-times}
use Rattle.ve_theory.proofs.Evaluation.{word_times_vanishes, value_vanishes}
use Rattle.ve_theory.proofs.Remainders.{word_row_fits, IsSubspace, HasRemainders}
use Rattle.ve_theory.proofs.OrderedRows.{IsNotAfter-times, IsRowUpTo-later, irreducible_listed, own_row_irreducible}

-- rows that are zero, and rows that are equal
pub zero_row : {p : ℕ} {row : Row} → SameWeights p row [] → IsZeroRow p row
zero_row e = Alike_from_weights nat_eq e

pub row_weights : (p : ℕ) (r s : Row) → ((k : ℕ) → coefficient nat_eq r k % p ≡ coefficient nat_eq s k % p) → SameWeights p r s
row_weights p r s e = weights_from_Alike nat_eq Decides-nat_eq p r s e

-- the rows of a well-formed answer name basis words alone
pub placed_from_form : (P : Presentation) (A : Answer) → HasShape P A → IsWellFormed A → HasPlacedRows P A.action
placed_from_form P A S F = record {
  images = λ i l. (F.images i [] (omega (arith, F.one_image_each, S.generators))).1;
  matrices = λ x j l m.
      let row : x < length A.action.matrices = omega (arith, F.one_matrix_each, ap length S.names) in
      (F.matrices x [] row j [] (omega (arith, F.square x [] row))).1;
}

module _ (P : Presentation) (A : Action) where
  pub word_row_placed : HasPlacedRows P A → (w : Word) → IsWord P w → IsPlaced A (word_row A w)
  word_row_placed H =
      word_row_fits A (IsWord P) (λ w j. j < dimension A) (IsWord-prefix P) (λ i good. H.images i (IsWord-start P i good))
      (λ w x j good fits. H.matrices x j (IsWord-last P w x good) fits)

  -- what is derived evaluates to zero
  pub derived_vanishes : HasPlacedRows P A → MeetsRelations P A → (v : Element) → Derived P v → SameWeights P.prime (evaluation A v) []
  derived_vanishes H M v h =
      SameWeights-trans (SameWeights-extended (word_row A) (SameWeights-sym (Derived-shows P h)))
      (value_vanishes P A (λ t. Unit {0}) (λ c s d t h. (tt, tt)) (λ t x h. tt) relators_vanish submodule_vanishes h.derivation h.is_derivation tt)
    where
      relators_vanish : (w : Word) (number : ℕ) → IsWord P w → number < length (relators P) → Unit {0} → SameWeights P.prime (evaluation A (word_times w (relator P number))) []
      relators_vanish w number good l _ =
          word_times_vanishes P.prime A w (relator P number)
          (λ k t m.
          let place = (slice_index_or (word_row A w) k t).0 in
          row_weights P.prime (row_times_element A (unit place) (relator P number)) [] (M.relators number place l (word_row_placed H w good k t m)))

      submodule_vanishes : (number : ℕ) → number < length P.submodule → Unit {0} → SameWeights P.prime (evaluation A (submodule_relation P number)) []
      submodule_vanishes number l _ = row_weights P.prime (evaluation A (submodule_relation P number)) [] (M.submodule number l)

  derived_space : IsSubspace P.prime (Derived P)
  derived_space = record { alike = λ u v e h. Derived-alike P e h; nothing = Derived-nothing P; combined = λ c d u v h k. Derived-combined P c d h k }

  pub derived_remainders : IsPresentation P → HasPlacedRows P A → HasDerivedRows P A → HasRemainders P A (IsWord P) (λ w j. j < dimension A) (Derived P)
  derived_remainders V H R = record {
    positive = omega (arith, prime-large P.prime V.field);
    space = derived_space;
    shorter = IsWord-prefix P;
    fits = word_row_placed H;
    multiplied = λ w x row good fits h. Derived-times P x (IsWord-last P w x good) h;
    images = λ i good. R.images i (IsWord-start P i good);
    matrices = λ w x j good fits. R.matrices x j (IsWord-last P w x good) fits;
  }

  -- ordered rows

  pub placed_from_ordered : IsOrdered P A → HasPlacedRows P A
  placed_from_ordered O = record { images = λ i l k t m. (O.images i l k t m).0; matrices = λ x j l m k t n. (O.matrices x j l m k t n).0 }

  pub word_row_upto : IsOrdered P A → (w : Word) → IsWord P w → IsRowUpTo P A w (word_row A w)
  word_row_upto O =
      word_row_fits A (IsWord P) (λ w j. (j < dimension A) × IsNotAfter P (basis_word A j) w) (IsWord-prefix P) (λ i good. O.images i (IsWord-start P i good))
      (λ w x j good fits.
      IsRowUpTo-later P A (times (basis_word A j) x) (times w x) (matrix_row A x j) (IsNotAfter-times P (basis_word A j) w x fits.1)
      (O.matrices x j (IsWord-last P w x good) fits.0))

  module _ (V : IsPresentation P) (M : MeetsRelations P A) (R : HasDerivedRows P A) (O : IsOrdered P A) (words : All (IsWord P) A.basis) where
    basis_word_least : (i : ℕ) → i < dimension A → IsLeast P (basis_word A i)
    basis_word_least i l = record {
      word = words i (generator 0) l;
      irreducible = λ v earlier h.
          own_row_irreducible P A i v (prime-large P.prime V.field) (row_weights P.prime (word_row A (basis_word A i)) (unit i) (M.own_rows i l))
          (λ k t m. let e = earlier k t m in (e.1, word_row_upto O (slice_index_or v k t).0 e.0))
          (derived_vanishes (placed_from_ordered O) M (difference P.prime (unit (basis_word A i)) v) h);
    }

    least_word_listed : (w : Word) → IsLeast P w → Contains A.basis w
    least_word_listed w least = irreducible_listed (derived_remainders V (placed_from_ordered O) R) words w least.word (word_row_upto O w least.word) least.irreducible

    pub lists_least : Lists P (IsLeast P) A.basis
    lists_least = record { rising = O.rising; only = All-from_get_or (IsLeast P) A.basis (generator 0) basis_word_least; every = least_word_listed }
