-- A packed table whose level closes has the module's answer.
use Rattle.std.proofs.Common.{◌≡◌, ℕ, ◌+◌, ◌<◌, ◌≤◌, List, [], length, All, Some, slice_get, slice_index_or, sym, subst, ap, ◌∙◌, arith}
use Rattle.std.proofs.lemmas.Option.{slice_get-get_or}
use Rattle.ve_theory.specs.Residues.{IsFieldPrime}
use Rattle.ve_theory.specs.Combinations.{unit, difference}
use Rattle.ve_theory.specs.Words.{Word, generator, times, start, letters}
use Rattle.ve_theory.specs.Presentations.{Presentation, IsPresentation, letter_count, reach, step}
use Rattle.ve_theory.specs.Derivations.{Derived}
use Rattle.ve_theory.specs.Levels.{IsNormal, IsLeast, Lists, Closes}
use Rattle.ve_theory.specs.Answers.{Action, Row, IsRow, IsWellFormed, IsGrown, IsModuleAnswer, HasDerivedRows, dimension, basis_word, combination_of, image_row, matrix_row}
use Rattle.ve_theory.specs.Laws.{LevelsGrow, ReachesAreBounded, FinishedLevelsSettle, ClosingLevelsSettle, SettlesModule}
use Rattle.ve_table.specs.declared.origin.Origin.{Origin}
use Rattle.ve_table.specs.declared.origin.Origin.TheVariants.{Root, Child}
use Rattle.ve_table.specs.Tables.{ActionTable, presented, word_at, row_at, on_words}
use Rattle.ve_table.specs.Books.{words_of, IsOriginOf}
use Rattle.ve_table.specs.Numbers.{HasParentBelow}
use Rattle.ve_table.specs.Sound.{StandsFor}
use Rattle.ve_table.proofs.Opening.{all_live}
use Rattle.ve_table.proofs.Spelling.{words_are}
use Rattle.ve_machine.specs.Finished.{IsFinishedTable, IsPacked}
use Rattle.ve_matrix.specs.declared.answer.Answer.{Answer}
use Rattle.ve_matrix.specs.Answers.{answer_of, NameEarlierPlaces, IsAnswerValue}
use Rattle.ve_table.specs.Parts.{HasAllRows, AreRowsAt}
use Rattle.ve_matrix.specs.Copying.{IsCopyOf}
use Rattle.ve_matrix.proofs.Copying.{copied_rows}

parent_below : (words : List Word) (b : ℕ) (o : Origin) (w : Word) → IsOriginOf words b o w → HasParentBelow b o
unfolding IsOriginOf
parent_below words b (Root i) w of = tt
parent_below words b (Child parent letter) w of = of.0

-- a combination of the words of a basis, which may be given otherwise
combined_on : (p : ℕ) (A B : Action) (w : Word) (v : Row) → A.basis ≡ B.basis → difference p (unit w) (combination_of A v) ≡ difference p (unit w) (combination_of B v)
combined_on p A B w v same =
    ap (λ basis. difference p (unit w) (combination_of (record { basis = basis; images = []; matrices = [] }) v)) same

module _ (T : ActionTable) (finished : IsFinishedTable T) (packed : IsPacked T) (closes : Closes (presented T) T.level) where
  abbrev P : Presentation
  P = presented T

  presentation : IsPresentation P
  presentation = finished.sound.valid.presentation

  -- the action's basis is the table's words
  basis_is : finished.action.basis ≡ T.words
  basis_is = finished.of_table.basis ∙ all_live T.forwards T.words packed finished.sound.one_forward_each

  -- each word times each letter is within the level
  pub all_rows : ReachesAreBounded → FinishedLevelsSettle → HasAllRows T
  all_rows bounded settle b x is_id is_letter = (finished.sound.due b x).1 (is_id, is_letter, within)
    where
      normal : All (IsNormal P T.level) T.words
      normal = subst (All (IsNormal P T.level)) basis_is (settle P T.level finished.action presentation finished.finished).normal.only

      within : reach P (word_at T b) + step P x ≤ T.level
      within =
          let bounds = bounded P presentation in
          omega (arith, closes.relators (word_at T b) (normal b (generator 0) is_id), bounds.steps x, bounds.greatest)

  module _ (settle : ClosingLevelsSettle) (A : Answer) (copy : IsCopyOf T A) where
    settled : SettlesModule P finished.action
    settled = settle P T.level finished.action presentation finished.finished closes

    words_copied : words_of A.basis.items ≡ T.words
    words_copied = words_are T.words A.basis.items copy.origins.count copy.origins.each

    rows_copied : (x : ℕ) (d : List Row) → x < length A.matrices.items → AreRowsAt T x (slice_index_or A.matrices.items x d)
    rows_copied x d is_letter = copy.matrices.each x (slice_index_or A.matrices.items x d) (slice_get-get_or A.matrices.items x d is_letter)

    size : dimension (answer_of A).action ≡ length T.words
    size = ap length words_copied

    images_placed : All (IsRow A.field (dimension (answer_of A).action)) A.images.items
    images_placed i d within =
        let at : slice_get T.images i ≡ Some (slice_index_or A.images.items i d) = ap (λ l. slice_get l i) (sym copy.images) ∙ slice_get-get_or A.images.items i d within in
        subst (λ n. IsRow A.field n (slice_index_or A.images.items i d)) (sym size)
        (subst (λ p. IsRow p (length T.words) (slice_index_or A.images.items i d)) (sym copy.prime) (finished.sound.images i (slice_index_or A.images.items i d) at).stands.row)

    words_placed : All (λ w. (start w < A.roots) × All (λ x. x < length A.names) (letters w)) (words_of A.basis.items)
    words_placed =
        subst (λ ws. All (λ w. (start w < A.roots) × All (λ x. x < length A.names) (letters w)) ws) (sym words_copied)
        (λ k d l. let is = (finished.sound.words k d l).0 in (
          omega (arith, is.0, copy.generators),
          subst (λ n. All (λ x. x < n) (letters (slice_index_or T.words k d))) (ap length (sym copy.names)) is.1,
        ))

    form : IsWellFormed (answer_of A)
    form = record {
      one_image_each = ap length copy.images ∙ finished.sound.one_image_each ∙ sym copy.generators;
      one_matrix_each = copy.matrices.count ∙ ap length (sym copy.names);
      square = λ x d is_letter. (rows_copied x d is_letter).count ∙ sym size;
      images = images_placed;
      matrices = λ x d is_letter. subst (λ n. All (IsRow A.field n) (slice_index_or A.matrices.items x d)) (sym size) (subst (λ p. All (IsRow p (length T.words)) (slice_index_or A.matrices.items x d)) (sym copy.prime) (copied_rows T x (slice_index_or A.matrices.items x d) finished.sound (rows_copied x d is_letter)));
      words = words_placed;
      grown = subst IsGrown (basis_is ∙ sym words_copied) settled.grown;
    }

    derived : LevelsGrow → HasDerivedRows P (answer_of A).action
    derived grow = record { images = images; matrices = matrices }
      where
        action : Action
        action = (answer_of A).action

        -- what stands for a word within the level does so on the answer's basis
        stands : (w : Word) (v : Row) → StandsFor T w v → Derived P (difference P.prime (unit w) (combination_of action v))
        stands w v on = subst (Derived P) (combined_on P.prime (on_words T.words) action w v (sym words_copied)) (grow.derived P T.level (difference P.prime (unit w) (combination_of (on_words T.words) v)) on.derived)

        images : (i : ℕ) → i < P.generators → Derived P (difference P.prime (unit (generator i)) (combination_of action (image_row action i)))
        images i is_root =
            let at : slice_get T.images i ≡ Some (image_row action i) =
            ap (λ l. slice_get l i) (sym copy.images) ∙ slice_get-get_or A.images.items i [] (omega (arith, ap length copy.images, finished.sound.one_image_each)) in
            stands (generator i) (image_row action i) (finished.sound.images i (image_row action i) at).stands

        matrices : (x j : ℕ) → x < letter_count P → j < dimension action → Derived P (difference P.prime (unit (times (basis_word action j) x)) (combination_of action (matrix_row action x j)))
        matrices x j is_letter is_place =
            let are : AreRowsAt T x (slice_index_or A.matrices.items x []) = rows_copied x [] (omega (arith, copy.matrices.count)) in
            let at : row_at T j x ≡ Some (matrix_row action x j) =
            are.each j (matrix_row action x j) (slice_get-get_or (slice_index_or A.matrices.items x []) j [] (omega (arith, are.count, size))) in
            let word : word_at T j ≡ basis_word action j = ap (λ words. slice_index_or words j (generator 0)) (sym words_copied) in
            stands (times (basis_word action j) x) (matrix_row action x j)
            (subst (λ w. StandsFor T (times w x) (matrix_row action x j)) word (finished.sound.rows j x (matrix_row action x j) at).stands)

    pub module_answer : LevelsGrow → IsModuleAnswer P (answer_of A)
    module_answer grow = record {
      shape = record { prime = copy.prime; names = copy.names; generators = copy.generators };
      form = form;
      basis = subst (Lists P (IsLeast P)) (basis_is ∙ sym words_copied) settled.least;
      rows = derived grow;
    }

    parents : NameEarlierPlaces A.basis.items
    parents b o found = parent_below T.words b o (word_at T b) (copy.origins.each b o found)

    pub answer_value : IsAnswerValue A
    answer_value = record {
      prime = subst IsFieldPrime (sym copy.prime) presentation.field;
      form = form;
      dimension = omega (arith, copy.origins.count, copy.few);
      origins = parents;
    }
