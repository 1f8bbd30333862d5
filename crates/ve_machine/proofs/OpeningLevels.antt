-- What the beginning of a level tells of an action that has its rows: each id's word has the id's row, and what is derived within
-- lower levels evaluates to zero.
use Rattle.std.proofs.Common.{◌≡◌, ℕ, ◌+◌, ◌-◌, ◌<◌, ◌≤◌, ◌⊎◌, inl, inr, Some, None, List, [], length, map, get_or, All, refl, sym, ap, subst, ◌∙◌, arith}
use Rattle.std.specs.Prelude.{Option, slice_get, slice_index_or}
use Rattle.std.specs.List.{range_with_len}
use Rattle.std.proofs.lemmas.Bool.{cases_lt}
use Rattle.std.proofs.lemmas.Option.{slice_get-get_or, slice_get_within}
use Rattle.std.proofs.lemmas.List.{get_or_append_left, get_or-append_right, length-append}
use Rattle.std.proofs.lemmas.List.FromFn.{get_or-map-range_with_len, length-map-range_with_len}
use Rattle.ve_theory.specs.Combinations.{unit, extended}
use Rattle.ve_theory.specs.Words.{Word, generator, times}
use Rattle.ve_theory.specs.Elements.{Element}
use Rattle.ve_theory.specs.Presentations.{Presentation, IsWord, letter_count, reach, step}
use Rattle.ve_theory.specs.Derivations.{DerivedWithin}
use Rattle.ve_theory.specs.Answers.{Row, Action, basis_word, dimension, image_row, matrix_row, row_times, word_row, evaluation, IsRowUpTo, IsNotAfter}
use Rattle.ve_theory.specs.FinishedLevels.{IsFinishedLevel}
use Rattle.ve_theory.specs.Laws.{FinishedLevelsSettle, IsElementUpTo}
use Rattle.ve_theory.proofs.Sums.{SameWeights, SameWeights-sym, SameWeights-trans, SameWeights-extended, SameWeights-extended_by, SameWeights_of, extended-unit, extended-extended}
use Rattle.ve_theory.proofs.Orders.{reach-times}
use Rattle.ve_theory.proofs.Members.{IsWord-prefix, IsWord-last, IsWord-start}
use Rattle.ve_theory.proofs.DerivationTrees.{DerivedWithin-higher}
use Rattle.ve_theory.proofs.Kernels.{row_weights}
use Rattle.ve_theory.proofs.Remainders.{word_row_fits}
use Rattle.ve_theory.proofs.OrderedRows.{IsNotAfter-times, IsNotAfter-reach, IsRowUpTo-later}
use Rattle.ve_table.specs.Tables.{ActionTable, presented, word_at, row_at}
use Rattle.ve_table.specs.Sound.{IsSound}
use Rattle.ve_table.specs.Changes.{Grows}
use Rattle.ve_machine.specs.Finished.{IsActionOf, IsPacked}
use Rattle.ve_machine.proofs.SettledSteps.{opening, settled, settled_row, row_there}
use Rattle.ve_machine.proofs.PackedLevels.{packed_basis, packed_image, packed_row}

module _ (T : ActionTable) (A : Action) (images_settled : (i : ℕ) (v : Row) → slice_get T.images i ≡ Some v → SameWeights (presented T).prime (settled_row T v) (image_row A i)) where
  -- level 0

  pub opened_own : T.words ≡ map generator (range_with_len 0 (presented T).generators) → T.images ≡ map unit (range_with_len 0 (presented T).generators)
      → (b : ℕ) → b < length T.words → SameWeights (presented T).prime (word_row A (word_at T b)) (settled T b)
  unfolding word_row
  opened_own words images b lt =
      let n : ℕ = (presented T).generators in
      let small : b < n = subst (λ m. b < m) (length-map-range_with_len generator 0 n) (subst (λ ws. b < length ws) words lt) in
      let word : word_at T b ≡ generator b = ap (λ ws. get_or ws b (generator 0)) words ∙ get_or-map-range_with_len generator 0 n b b (generator 0) small (omega arith) in
      let inside : b < length T.images = subst (λ us. b < length us) (sym images) (omega (arith, small, length-map-range_with_len (λ (b : ℕ). unit b) 0 n)) in
      let image : slice_get T.images b ≡ Some (unit b) =
      slice_get-get_or T.images b [] inside ∙ ap Some (ap (λ us. get_or us b []) images ∙ get_or-map-range_with_len (λ (b : ℕ). unit b) 0 n b b [] small (omega arith)) in
      SameWeights-trans (SameWeights_of (ap (word_row A) word)) (SameWeights-trans (SameWeights-sym (images_settled b (unit b) image)) (extended-unit (presented T).prime (settled T) b))

  -- a level after a finished one

  module _ (fs : List (Option Row)) (rs : List (List (Option Row))) (l : ℕ) (ws : List Word) (old_fs : List (Option Row)) (old_rs : List (List (Option Row))) where
    abbrev pub old : ActionTable
    old = record { draft = T.draft; level = l; words = ws; forwards = old_fs; rows = old_rs; images = T.images }

    module _ (sound : IsSound T) (sound_opening : IsSound (opening T fs rs)) (sound_old : IsSound old) (packed : IsPacked old) (B : Action) (of : IsActionOf old B) (finished : IsFinishedLevel (presented T) l B)
        (grows : Grows old (opening T fs rs)) (settle : FinishedLevelsSettle)
        (steps_settled : (b x : ℕ) (v : Row) → row_at (opening T fs rs) b x ≡ Some v → SameWeights (presented T).prime (settled_row T v) (row_times A (settled T b) x)) where
      abbrev P : Presentation
      P = presented T

      abbrev p : ℕ
      p = P.prime

      abbrev IsWordUpTo : Word → Type 0
      IsWordUpTo w = IsWord P w × (reach P w ≤ l)

      prefix_upto : (w : Word) (x : ℕ) → IsWordUpTo (times w x) → IsWordUpTo w
      prefix_upto w x good = (IsWord-prefix P w x good.0, omega (arith, reach-times P w x, good.1))

      place_within : (w : Word) (x j : ℕ) → IsWordUpTo (times w x) → IsNotAfter P (basis_word B j) w → reach P (basis_word B j) + step P x ≤ l
      place_within w x j good h = omega (arith, reach-times P w x, good.1, IsNotAfter-reach P (basis_word B j) w h)

      row_upto : (w : Word) → IsWordUpTo w → IsRowUpTo P B w (word_row B w)
      row_upto =
          word_row_fits B IsWordUpTo (λ w j. (j < dimension B) × IsNotAfter P (basis_word B j) w) prefix_upto (λ i good. (finished.images i (IsWord-start P i good.0)).1)
          (λ w x j good fits.
          IsRowUpTo-later P B (times (basis_word B j) x) (times w x) (matrix_row B x j) (IsNotAfter-times P (basis_word B j) w x fits.1)
          (finished.matrices x j (IsWord-last P w x good.0) fits.0 (place_within w x j good fits.1)).1)

      -- the old action's rows, in the new numbers
      old_step : (x j : ℕ) → x < letter_count P → j < dimension B → reach P (basis_word B j) + step P x ≤ l → SameWeights p (settled_row T (matrix_row B x j)) (row_times A (settled T j) x)
      old_step x j letter lt le =
          let basis : B.basis ≡ ws = packed_basis old packed sound_old B of in
          let inside : j < length ws = subst (λ bs. j < length bs) basis lt in
          let v = row_there _ ((sound_old.due j x).1 (inside, letter, subst (λ bs. reach P (get_or bs j (generator 0)) + step P x ≤ l) basis le)) in
          SameWeights-trans (SameWeights-extended (settled T) (packed_row old packed sound_old B of j x v.0 inside v.1)) (steps_settled j x v.0 (grows.kept j x v.0 v.1))

      old_word : (w : Word) → IsWordUpTo w → SameWeights p (settled_row T (word_row B w)) (word_row A w)
      unfolding word_row
      old_word (generator i) good =
          let inside : i < length T.images = omega (arith, IsWord-start P i good.0, sound.one_image_each) in
          let v : Row = slice_index_or T.images i [] in
          let found = slice_get-get_or T.images i [] inside in
          SameWeights-trans (SameWeights-extended (settled T) (packed_image old packed sound_old B of i v found)) (images_settled i v found)
      old_word (times w x) good =
          let good_w = prefix_upto w x good in
          SameWeights-trans (extended-extended p (settled T) (matrix_row B x) (word_row B w))
          (SameWeights-trans
          (SameWeights-extended_by (λ j. settled_row T (matrix_row B x j)) (λ j. row_times A (settled T j) x) (word_row B w)
          (λ k t lt.
          let j = (slice_index_or (word_row B w) k t).0 in
          let fits = row_upto w good_w k t lt in
          old_step x j (IsWord-last P w x good.0) fits.0 (place_within w x j good fits.1)))
          (SameWeights-trans (SameWeights-sym (extended-extended p (matrix_row A x) (settled T) (word_row B w))) (SameWeights-extended (matrix_row A x) (old_word w good_w))))

      old_element : (v : Element) → All (λ t. IsWordUpTo t.0) v → SameWeights p (settled_row T (evaluation B v)) (evaluation A v)
      old_element v good =
          SameWeights-trans (extended-extended p (settled T) (word_row B) v)
          (SameWeights-extended_by (λ w. settled_row T (word_row B w)) (word_row A) v (λ k t lt. old_word (slice_index_or v k t).0 (good k t lt)))

      -- what is derived within lower levels
      pub lower_vanishes : (j : ℕ) (v : Element) → j < T.level → IsElementUpTo P j v → DerivedWithin P j v → SameWeights p (evaluation A v) []
      unfolding extended
      lower_vanishes j v less upto derived =
          let le : j ≤ l = omega (arith, less, grows.level) in
          let good : All (λ t. IsWordUpTo t.0) v = λ k t lt. ((upto k t lt).0, omega (arith, le, (upto k t lt).1)) in
          SameWeights-trans (SameWeights-sym (old_element v good))
          (SameWeights-extended (settled T)
          (row_weights p (evaluation B v) [] (((settle P l B sound.valid.presentation finished).kernel v good).0 (DerivedWithin-higher P j l v le derived))))

      -- each id's word has the id's row
      own_old : (b : ℕ) → b < length ws → SameWeights p (word_row A (word_at old b)) (settled T b)
      own_old b lt =
          let basis : B.basis ≡ ws = packed_basis old packed sound_old B of in
          let word : basis_word B b ≡ word_at old b = ap (λ bs. get_or bs b (generator 0)) basis in
          SameWeights-trans (SameWeights-sym (old_word (word_at old b) (sound_old.words b (generator 0) lt)))
          (SameWeights-trans
          (SameWeights-extended (settled T)
          (SameWeights-trans (SameWeights_of (ap (word_row B) (sym word))) (row_weights p (word_row B (basis_word B b)) (unit b) (finished.own_rows b (subst (λ bs. b < length bs) (sym basis) lt)))))
          (extended-unit p (settled T) b))

      own_new : (b : ℕ) → length ws ≤ b → b < length T.words → SameWeights p (word_row A (word_at T b)) (settled T b)
      unfolding word_row
      own_new b past lt =
          let count : length T.words ≡ length ws + length grows.born = ap length grows.words ∙ length-append ws grows.born in
          let k : ℕ = b - length ws in
          let inside : k < length grows.born = omega (arith, count, past, lt) in
          let born = grows.are_born.only k (generator 0) inside in
          let parent : born.parent < length ws = omega (arith, slice_get_within old_fs born.parent None born.live, sound_old.one_forward_each) in
          let word : word_at T b ≡ times (word_at old born.parent) born.letter =
          ap (λ us. get_or us b (generator 0)) grows.words ∙ get_or-append_right ws grows.born (length ws) b (generator 0) refl past ∙ born.product in
          let row = grows.rows born.parent born.letter b parent past (slice_get-get_or T.words b (generator 0) lt ∙ ap Some word) in
          SameWeights-trans (SameWeights_of (ap (word_row A) word))
          (SameWeights-trans (SameWeights-extended (matrix_row A born.letter) (own_old born.parent parent))
          (SameWeights-trans (SameWeights-sym (steps_settled born.parent born.letter (unit b) row)) (extended-unit p (settled T) b)))

      pub grown_own : (b : ℕ) → b < length T.words → SameWeights p (word_row A (word_at T b)) (settled T b)
      grown_own b lt = cases (cases_lt b (length ws))
        where
          cases : (b < length ws) ⊎ (length ws ≤ b) → SameWeights p (word_row A (word_at T b)) (settled T b)
          cases (inl less) =
              subst (λ w. SameWeights p (word_row A w) (settled T b))
              (sym (ap (λ l. get_or l b (generator 0)) grows.words ∙ get_or_append_left ws grows.born (generator 0) b less)) (own_old b less)
          cases (inr past) = own_new b past lt
