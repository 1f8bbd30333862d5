-- What makes the live words of a sound table a finished level.
use Rattle.std.proofs.Common.{◌≡◌, ℕ, ◌+◌, ◌<◌, ◌≤◌, List, [], length, get_or, All, AllPairs, sym, ap, subst, ◌∙◌, arith}
use Rattle.std.specs.Prelude.{slice_index_or}
use Rattle.std.proofs.lemmas.Option.{slice_get-get_or}
use Rattle.ve_theory.specs.Combinations.{unit, difference}
use Rattle.ve_theory.specs.Words.{Word, generator, times}
use Rattle.ve_theory.specs.Elements.{AlgebraElement, word_times}
use Rattle.ve_theory.specs.Presentations.{Presentation, IsWord, relators, relator, submodule_relation, reach, element_reach, step, due, before}
use Rattle.ve_theory.specs.Derivations.{DerivedWithin}
use Rattle.ve_theory.specs.Answers.{Row, Action, image_row, matrix_row, row_times_element, word_row, evaluation, combination_of, IsRowUpTo}
use Rattle.ve_theory.specs.FinishedLevels.{IsFinishedLevel}
use Rattle.ve_theory.proofs.Sums.{SameWeights, SameWeights-sym, SameWeights-trans, SameWeights-extended, Alike_from_weights}
use Rattle.ve_theory.proofs.Evaluation.{evaluation-word_times, row_times_element-extended}
use Rattle.ve_theory.proofs.Kernels.{zero_row}
use Rattle.ve_table.specs.Tables.{ActionTable, presented, word_at, IsLive, live_words, live_below}
use Rattle.ve_table.specs.Sound.{IsSound}
use Rattle.ve_table.proofs.LiveIds.{number_reflects}
use Rattle.ve_table.proofs.Dropping.{number_is, word_kept, old_id, id_within}
use Rattle.ve_machine.specs.Finished.{IsActionOf}
use Rattle.ve_machine.proofs.LiveActions.{derived_and_ordered}
use Rattle.ve_machine.proofs.SettledSteps.{settled, live_settled, row_there}

-- alike rows times an element
row_times_element-same : (p : ℕ) (A : Action) (r : AlgebraElement) {u v : Row} → SameWeights p u v → SameWeights p (row_times_element A u r) (row_times_element A v r)
row_times_element-same p A r {u} {v} same =
    SameWeights-trans (row_times_element-extended p A u r)
    (SameWeights-trans (SameWeights-extended (λ j. row_times_element A (unit j) r) same) (SameWeights-sym (row_times_element-extended p A v r)))

module _ (T : ActionTable) (images : List Row) (matrices : List (List Row)) (sound : IsSound T) where
  abbrev A : Action
  A = record { basis = live_words T; images = images; matrices = matrices }

  abbrev P : Presentation
  P = presented T

  -- the live id of a basis word
  pub id_of : (j : ℕ) → j < length (live_words T) → (b : ℕ) × IsLive T b × (live_below T b ≡ j) × (b < length T.words)
  id_of j lt = let old = old_id T j sound.one_forward_each lt in (old.0, old.1, old.2, id_within T old.0 sound.one_forward_each old.1)

  word_of : (j : ℕ) (d : Word) (lt : j < length (live_words T)) → get_or (live_words T) j d ≡ get_or T.words (id_of j lt).0 d
  word_of j d lt = let b = id_of j lt in ap (λ n. get_or (live_words T) n d) (sym b.2) ∙ word_kept T b.0 d sound.one_forward_each b.1

  pub live_words_good : All (λ w. IsWord P w × (reach P w ≤ T.level)) (live_words T)
  live_words_good j d lt = subst (λ w. IsWord P w × (reach P w ≤ T.level)) (sym (word_of j d lt)) (sound.words (id_of j lt).0 d (id_of j lt).3)

  pub live_words_rise : AllPairs (before P) (live_words T)
  live_words_rise m n d lt within =
      let m_within : m < length (live_words T) = omega (arith, lt, within) in
      let first = id_of m m_within in
      let second = id_of n within in
      let order : first.0 < second.0 = number_reflects T.forwards first.0 second.0 second.1 (omega (arith, lt, first.2, second.2, number_is T first.0 sound.one_forward_each, number_is T second.0 sound.one_forward_each)) in
      subst (λ w. before P w (get_or (live_words T) n d)) (sym (word_of m d m_within))
      (subst (λ w. before P (get_or T.words first.0 d) w) (sym (word_of n d within)) (sound.rising first.0 second.0 d order second.3))

  module _ (of : IsActionOf T A) (own : (b : ℕ) → b < length T.words → SameWeights P.prime (word_row A (word_at T b)) (settled T b))
      (relators_vanish : (b number : ℕ) → IsLive T b → number < length (relators P) → due P (word_at T b) (relator P number) ≤ T.level → SameWeights P.prime (evaluation A (word_times (word_at T b) (relator P number))) [])
      (submodule_vanishes : (number : ℕ) → number < length P.submodule → element_reach P (submodule_relation P number) ≤ T.level → SameWeights P.prime (evaluation A (submodule_relation P number)) []) where
    own_row : (j : ℕ) (lt : j < length (live_words T)) → SameWeights P.prime (word_row A (word_at T (id_of j lt).0)) (unit j)
    own_row j lt =
        let b = id_of j lt in
        SameWeights-trans (own b.0 b.3) (subst (λ n. SameWeights P.prime (settled T b.0) (unit n)) b.2 (live_settled T b.0 b.1))

    pub is_finished_level : IsFinishedLevel P T.level A
    is_finished_level = record {
      words = live_words_good;
      rising = live_words_rise;
      own_rows = λ j lt. Alike_from_weights _ (subst (λ w. SameWeights P.prime (word_row A w) (unit j)) (sym (word_of j (generator 0) lt)) (own_row j lt));
      images = λ i lt.
          let within : i < length T.images = omega (arith, lt, sound.one_image_each) in
          let v : Row = slice_index_or T.images i [] in
          let found = slice_get-get_or T.images i [] within in
          let form = of.images i v found in
          derived_and_ordered T A (generator i) v form.0 (image_row A i) sound of.basis (sound.images i v found) form.1 form.2;
      matrices = λ x j letter lt le.
          let b = id_of j lt in
          let v = row_there _ ((sound.due b.0 x).1 (b.3, letter, subst (λ w. reach P w + step P x ≤ T.level) (word_of j (generator 0) lt) le)) in
          let form = of.matrices b.0 x v.0 b.1 v.1 in
          subst (λ w. DerivedWithin P T.level (difference P.prime (unit (times w x)) (combination_of A (matrix_row A x j))) × IsRowUpTo P A (times w x) (matrix_row A x j)) (sym (word_of j (generator 0) lt))
          (subst (λ n. DerivedWithin P T.level (difference P.prime (unit (times (word_at T b.0) x)) (combination_of A (matrix_row A x n))) × IsRowUpTo P A (times (word_at T b.0) x) (matrix_row A x n)) b.2
          (derived_and_ordered T A (times (word_at T b.0) x) v.0 form.0 (matrix_row A x (live_below T b.0)) sound of.basis (sound.rows b.0 x v.0 v.1) form.1 form.2));
      relators = λ number j within lt le.
          let b = id_of j lt in
          zero_row
          (SameWeights-trans (SameWeights-sym (row_times_element-same P.prime A (relator P number) (own_row j lt)))
          (SameWeights-trans (SameWeights-sym (evaluation-word_times P.prime A (word_at T b.0) (relator P number)))
          (relators_vanish b.0 number b.1 within (subst (λ w. due P w (relator P number) ≤ T.level) (word_of j (generator 0) lt) le))));
      submodule = λ number within le. zero_row (submodule_vanishes number within le);
    }
