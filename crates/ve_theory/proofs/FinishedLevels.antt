-- A finished level has exactly what is derived within it as its kernel, and the normal words as its words. Where the level
-- closes, both are the module's.
use Rattle.std.proofs.Common.{◌≡◌, ℕ, ◌+◌, ◌-◌, ◌<◌, ◌≤◌, ◌⊎◌, [], length, slice_index_or, All, Contains, inl, inr, ap, arith}
use Rattle.std.proofs.lemmas.List.Elements.{All-from_get_or, All-append}
use Rattle.ve_theory.specs.Combinations.{unit, scaled, difference, extended}
use Rattle.ve_theory.specs.Words.{Word, generator, times}
use Rattle.ve_theory.specs.Elements.{Element, word_times, times_letter}
use Rattle.ve_theory.specs.Presentations.{Presentation, IsPresentation, IsWord, relators, relator, submodule_relation, reach, step, due}
use Rattle.ve_theory.specs.Derivations.{by_relator, by_submodule, value, StaysWithin, DerivedWithin}
use Rattle.ve_theory.specs.Levels.{IsNormal, Closes}
use Rattle.ve_theory.specs.Answers.{Action, Row, basis_word, dimension, image_row, matrix_row, row_times_element, word_row, evaluation, combination_of, IsRowUpTo, IsNotAfter, HasDerivedRows, IsOrdered, MeetsRelations}
use Rattle.ve_theory.specs.FinishedLevels.{IsFinishedLevel}
use Rattle.ve_theory.specs.Laws.{SettlesLevel, SettlesModule}
use Rattle.ve_theory.proofs.Grown.{grown_from_least, grown_from_normal}
use Rattle.ve_theory.specs.Levels.{IsLeast, Lists}
use Rattle.ve_theory.proofs.Sums.{SameWeights, SameWeights-sym, SameWeights-trans, SameWeights-extended, SameWeights_of, prime-large}
use Rattle.ve_theory.proofs.Orders.{reach-times, before_reach, has_bounds}
use Rattle.ve_theory.proofs.Members.{All-scaled, All-times_letter, IsWord-prefix, IsWord-last, IsWord-start}
use Rattle.ve_theory.proofs.DerivationTrees.{Within-words, Derived-from_within}
use Rattle.ve_theory.proofs.DerivedElements.{DerivedWithin-shows, DerivedWithin-alike, DerivedWithin-nothing, DerivedWithin-combined, DerivedWithin-times}
use Rattle.ve_theory.proofs.Evaluation.{word_times_vanishes, value_vanishes}
use Rattle.ve_theory.proofs.Remainders.{All-unit, All-combination_of, word_row_fits, remainder, IsSubspace, HasRemainders, zero_in}
use Rattle.ve_theory.proofs.OrderedRows.{IsNotAfter-times, IsNotAfter-reach, IsRowUpTo-later, irreducible_listed, own_row_irreducible}
use Rattle.ve_theory.proofs.RelatorReaches.{relators_reduced, element_within, due_within}
use Rattle.ve_theory.proofs.Kernels.{zero_row, row_weights, derived_vanishes, derived_remainders, placed_from_ordered, lists_least}

-- a word of the presentation, of reach at most k
abbrev IsWordUpTo : Presentation → ℕ → Word → Type 0
IsWordUpTo P k w = IsWord P w × (reach P w ≤ k)

module _ (P : Presentation) (k : ℕ) (A : Action) (V : IsPresentation P) (F : IsFinishedLevel P k A) where
  prefix_upto : (w : Word) (x : ℕ) → IsWordUpTo P k (times w x) → IsWordUpTo P k w
  prefix_upto w x good = (IsWord-prefix P w x good.0, omega (arith, reach-times P w x, good.1))

  -- a basis word that is not after w times a letter stays within the level where w times the letter does
  place_within : (w : Word) (x j : ℕ) → IsWordUpTo P k (times w x) → IsNotAfter P (basis_word A j) w → reach P (basis_word A j) + step P x ≤ k
  place_within w x j good h = omega (arith, reach-times P w x, good.1, IsNotAfter-reach P (basis_word A j) w h)

  level_row_upto : (w : Word) → IsWordUpTo P k w → IsRowUpTo P A w (word_row A w)
  level_row_upto =
      word_row_fits A (IsWordUpTo P k) (λ w j. (j < dimension A) × IsNotAfter P (basis_word A j) w) prefix_upto (λ i good. (F.images i (IsWord-start P i good.0)).1)
      (λ w x j good fits.
      IsRowUpTo-later P A (times (basis_word A j) x) (times w x) (matrix_row A x j) (IsNotAfter-times P (basis_word A j) w x fits.1)
      (F.matrices x j (IsWord-last P w x good.0) fits.0 (place_within w x j good fits.1)).1)

  -- what is derived within the level evaluates to zero
  level_relators_vanish : (w : Word) (number : ℕ) → IsWord P w → number < length (relators P) → StaysWithin P k (by_relator w number)
      → SameWeights P.prime (evaluation A (word_times w (relator P number))) []
  unfolding value StaysWithin word_times extended
  level_relators_vanish w number good l stays = cases (due_within P k w (relator P number) (relators_reduced P V number [] l) stays)
    where
      cases : (relator P number ≡ []) ⊎ (due P w (relator P number) ≤ k) → SameWeights P.prime (evaluation A (word_times w (relator P number))) []
      cases (inl e) = SameWeights_of (ap (λ r. evaluation A (word_times w r)) e)
      cases (inr is_due) =
          word_times_vanishes P.prime A w (relator P number)
          (λ m t n.
          let place = (slice_index_or (word_row A w) m t).0 in
          let fits = level_row_upto w (good, omega arith) m t n in
          row_weights P.prime (row_times_element A (unit place) (relator P number)) []
          (F.relators number place l fits.0 (omega (arith, IsNotAfter-reach P (basis_word A place) w fits.1))))

  level_submodule_vanishes : (number : ℕ) → number < length P.submodule → StaysWithin P k (by_submodule number) → SameWeights P.prime (evaluation A (submodule_relation P number)) []
  unfolding value StaysWithin
  level_submodule_vanishes number l stays =
      row_weights P.prime (evaluation A (submodule_relation P number)) []
      (F.submodule number l (element_within P k (submodule_relation P number) (V.submodule number [] l).0 stays))

  pub level_derived_vanishes : (v : Element) → DerivedWithin P k v → SameWeights P.prime (evaluation A v) []
  unfolding StaysWithin
  level_derived_vanishes v h =
      SameWeights-trans (SameWeights-extended (word_row A) (SameWeights-sym (DerivedWithin-shows P k h)))
      (value_vanishes P A (StaysWithin P k) (λ c s d t g. (g.0, g.1)) (λ t x g. g.0) level_relators_vanish level_submodule_vanishes h.derivation h.is_derivation h.stays)

  -- what evaluates to zero is derived within the level
  level_space : IsSubspace P.prime (DerivedWithin P k)
  level_space = record {
    alike = λ u v e h. DerivedWithin-alike P k e h;
    nothing = DerivedWithin-nothing P k;
    combined = λ c d u v h g. DerivedWithin-combined P k c d h g;
  }

  remainder_times_letter : (w : Word) (x : ℕ) (row : Row) → IsWordUpTo P k (times w x) → IsRowUpTo P A w row → DerivedWithin P k (remainder P A w row)
      → DerivedWithin P k (times_letter (remainder P A w row) x)
  remainder_times_letter w x row good upto h =
      DerivedWithin-times P k x (IsWord-last P w x good.0)
      (Within-words P k (times_letter (remainder P A w row) x)
      (All-times_letter (λ v. reach P v ≤ k) (remainder P A w row) x
      (All-append (λ (t : Word × ℕ). reach P (times t.0 x) ≤ k) (unit w) (scaled (P.prime - 1) (combination_of A row))
      (All-unit (λ v. reach P (times v x) ≤ k) w good.1)
      (All-scaled (λ v. reach P (times v x) ≤ k) (P.prime - 1) (combination_of A row) (All-combination_of (λ v. reach P (times v x) ≤ k) A row within)))))
      h
    where
      within : All (λ t. reach P (times (basis_word A t.0) x) ≤ k) row
      within = λ m t n.
          let j = (slice_index_or row m t).0 in
          omega (arith, place_within w x j good (upto m t n).1, reach-times P (basis_word A j) x)

  level_remainders : HasRemainders P A (IsWordUpTo P k) (λ w j. (j < dimension A) × IsNotAfter P (basis_word A j) w) (DerivedWithin P k)
  level_remainders = record {
    positive = omega (arith, prime-large P.prime V.field);
    space = level_space;
    shorter = prefix_upto;
    fits = level_row_upto;
    multiplied = remainder_times_letter;
    images = λ i good. (F.images i (IsWord-start P i good.0)).0;
    matrices = λ w x j good fits. (F.matrices x j (IsWord-last P w x good.0) fits.0 (place_within w x j good fits.1)).0;
  }

  -- the words of the level are the normal ones
  basis_word_normal : (i : ℕ) → i < dimension A → IsNormal P k (basis_word A i)
  basis_word_normal i l = record {
    word = (F.words i (generator 0) l).0;
    within = (F.words i (generator 0) l).1;
    irreducible = λ v earlier h.
        own_row_irreducible P A i v (prime-large P.prime V.field) (row_weights P.prime (word_row A (basis_word A i)) (unit i) (F.own_rows i l))
        (λ m t n.
        let e = earlier m t n in
        let w = (slice_index_or v m t).0 in
        (e.1, level_row_upto w (e.0, omega (arith, before_reach P w (basis_word A i) e.1, (F.words i (generator 0) l).1))))
        (level_derived_vanishes (difference P.prime (unit (basis_word A i)) v) h);
  }

  normal_word_listed : (w : Word) → IsNormal P k w → Contains A.basis w
  normal_word_listed w normal =
      let good : IsWordUpTo P k w = (normal.word, normal.within) in
      irreducible_listed level_remainders (λ m t l. (F.words m t l).0) w good (level_row_upto w good) normal.irreducible

  normal_words : Lists P (IsNormal P k) A.basis
  normal_words = record { rising = F.rising; only = All-from_get_or (IsNormal P k) A.basis (generator 0) basis_word_normal; every = normal_word_listed }

  pub settles_level : SettlesLevel P k A
  settles_level = record {
    normal = normal_words;
    grown = grown_from_normal P k V A.basis normal_words;
    kernel = λ v words. (λ h. zero_row (level_derived_vanishes v h), λ zero. zero_in level_remainders v words (row_weights P.prime (evaluation A v) [] zero));
  }

  -- a level that closes

  module _ (C : Closes P k) where
    -- there each letter is due, and each relator, at each of the level's words
    letter_due : (x j : ℕ) → j < dimension A → reach P (basis_word A j) + step P x ≤ k
    letter_due x j l =
        let bounds = has_bounds P V in
        omega (arith, C.relators (basis_word A j) (basis_word_normal j l), bounds.steps x, bounds.greatest)

    relator_due : (number j : ℕ) → j < dimension A → due P (basis_word A j) (relator P number) ≤ k
    relator_due number j l =
        let bounds = has_bounds P V in
        omega (arith, C.relators (basis_word A j) (basis_word_normal j l), bounds.relators number)

    closed_meets : MeetsRelations P A
    closed_meets =
        let bounds = has_bounds P V in
        record {
          relators = λ number j l m. F.relators number j l m (relator_due number j m);
          submodule = λ number l. F.submodule number l (omega (arith, bounds.submodule number, C.submodule));
          own_rows = F.own_rows;
        }

    closed_rows : HasDerivedRows P A
    closed_rows = record {
      images = λ i l. Derived-from_within P k (remainder P A (generator i) (image_row A i)) (F.images i l).0;
      matrices = λ x j l m. Derived-from_within P k (remainder P A (times (basis_word A j) x) (matrix_row A x j)) (F.matrices x j l m (letter_due x j m)).0;
    }

    closed_ordered : IsOrdered P A
    closed_ordered = record { rising = F.rising; images = λ i l. (F.images i l).1; matrices = λ x j l m. (F.matrices x j l m (letter_due x j m)).1 }

    pub settles_module : SettlesModule P A
    settles_module =
        let placed = placed_from_ordered P A closed_ordered in
        let listed : Lists P (IsLeast P) A.basis = lists_least P A V closed_meets closed_rows closed_ordered (λ m t l. (F.words m t l).0) in
        record {
          least = listed;
          grown = grown_from_least P V A.basis listed;
          kernel = λ v words. (
            λ h. zero_row (derived_vanishes P A placed closed_meets v h),
            λ zero. zero_in (derived_remainders P A V placed closed_rows) v words (row_weights P.prime (evaluation A v) [] zero),
          );
          meets = closed_meets;
          rows = closed_rows;
          ordered = closed_ordered;
        }
