-- What is traced along an answer's rows is what its matrices give.
use Rattle.std.proofs.Common.{◌≡◌, ℕ, ◌<◌, ◌≤◌, ◌⊎◌, inl, inr, List, [], ◌∷◌, length, All, slice_index_or, sym, ap, ◌∙◌, subst, arith}
use Rattle.std.proofs.lemmas.Bool.{cases_lt}
use Rattle.std.proofs.lemmas.List.{get_or_past}
use Rattle.std.proofs.lemmas.List.Elements.{All-nil, All-head, All-tail, All-weaker}
use mathlib.Core.Path.{fun_ext}
use Rattle.ve_theory.specs.Combinations.{extended, IsReduced}
use Rattle.ve_theory.specs.Words.{Word, generator, start, letters, spelled_back}
use Rattle.ve_theory.specs.Answers.{Action, Row, IsRow, IsPlaced, dimension, image_row, row_times_letters, word_row}
use Rattle.ve_theory.proofs.Evaluation.{word_row-times_all}
use Rattle.ve_theory.proofs.Remainders.{All-extended}
use Rattle.ve_vec.specs.Tracing.{vector_of_word}
use Rattle.ve_matrix.specs.Matrices.{HasColumnsBelow, HasResidues, matrix_row_at}
use Rattle.ve_matrix.specs.Answers.{answer_of}
use Rattle.ve_matrix.specs.Evaluating.{IsAnswerWord, AnswersAreTraced}
use Rattle.ve_matrix.proofs.Tables.{as_table, times_letters, rows_reduced, placed_times, letters_found}

-- the row of a word, by its generator and its letters
word_by_letters : (A : Action) (w : Word) → word_row A w ≡ row_times_letters A (image_row A (start w)) (letters w)
unfolding word_row
word_by_letters A w = ap (word_row A) (sym (spelled_back w)) ∙ word_row-times_all A (generator (start w)) (letters w)

traced_word : (A : Action) (w : Word) → vector_of_word (as_table (λ x. slice_index_or A.matrices x [])) A.images w ≡ word_row A w
traced_word A w = times_letters A (image_row A (start w)) (letters w) ∙ sym (word_by_letters A w)

-- what holds of each matrix, and of the empty list, holds at each letter
at_letter : {X : Type 0} (P : List X → Type 0) (matrices : List (List X)) → P [] → All P matrices → (x : ℕ) → P (slice_index_or matrices x [])
at_letter P matrices none each x = cases (cases_lt x (length matrices))
  where
    cases : (x < length matrices) ⊎ (length matrices ≤ x) → P (slice_index_or matrices x [])
    cases (inl within) = each x [] within
    cases (inr past) = subst P (sym (get_or_past matrices x [] past)) none

placed_letters : (A : Action) (n m : ℕ) → ((x : ℕ) → x < m → HasColumnsBelow n (slice_index_or A.matrices x []))
    → (v : Row) (u : List ℕ) → All (λ t. t.0 < n) v → All (λ x. x < m) u → All (λ t. t.0 < n) (row_times_letters A v u)
unfolding row_times_letters
placed_letters A n m columns v [] placed are = placed
placed_letters A n m columns v (x ∷ u) placed are =
    let matrix : List Row = slice_index_or A.matrices x [] in
    placed_letters A n m columns (extended (matrix_row_at matrix) v) u (placed_times n matrix v (columns x (All-head (λ y. y < m) x u are))) (All-tail (λ y. y < m) x u are)

pub answers_traced : AnswersAreTraced
answers_traced A value = record {
  reduced_rows = rows_reduced A.field (λ x. slice_index_or A.matrices.items x []) (at_letter (HasResidues A.field) A.matrices.items (All-nil (IsReduced ◌<◌ A.field)) residues);
  reduced_images = All-weaker (IsRow A.field n) (IsReduced ◌<◌ A.field) (λ v row. row.0) A.images.items value.form.images;
  found = λ v u placed are. letters_found A.field n (λ x. slice_index_or A.matrices.items x []) (length A.names) sizes columns v u are placed;
  placed = placed_letters action n (length A.names) columns;
  placed_words = placed_words;
  placed_elements = λ q are. All-extended (λ j. j < n) (word_row action) q (λ k t l. placed_words (slice_index_or q k t).0 (are k t l));
  letters = times_letters action;
  elements = λ v r. ap (λ f. extended f r) (fun_ext (times_letters action v));
  words = traced_word action;
  module_elements = λ q. ap (λ f. extended f q) (fun_ext (traced_word action));
}
  where
    action : Action
    action = (answer_of A).action

    n : ℕ
    n = dimension action

    residues : All (HasResidues A.field) A.matrices.items
    residues = λ x d within. All-weaker (IsRow A.field n) (IsReduced ◌<◌ A.field) (λ v row. row.0) (slice_index_or A.matrices.items x d) (value.form.matrices x d within)

    sizes : (x : ℕ) → x < length A.names → length (slice_index_or A.matrices.items x []) ≡ n
    sizes x is_letter = value.form.square x [] (omega (arith, value.form.one_matrix_each))

    columns : (x : ℕ) → x < length A.names → HasColumnsBelow n (slice_index_or A.matrices.items x [])
    columns x is_letter =
        All-weaker (IsRow A.field n) (λ row. All (λ t. t.0 < n) row) (λ v row. row.1) (slice_index_or A.matrices.items x [])
        (value.form.matrices x [] (omega (arith, value.form.one_matrix_each)))

    placed_words : (w : Word) → IsAnswerWord A w → IsPlaced action (word_row action w)
    placed_words w is =
        subst (IsPlaced action) (sym (word_by_letters action w))
        (placed_letters action n (length A.names) columns (image_row action (start w)) (letters w)
        (value.form.images (start w) [] (omega (arith, value.form.one_image_each, is.0))).1 is.1)
