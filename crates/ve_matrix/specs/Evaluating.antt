-- Answers as tables: how elements are evaluated along their rows.
use Rattle.std.specs.Prelude.{◌≡◌, ℕ, ◌<◌, List, [], length, All, slice_get, slice_index_or}
use Rattle.ve_theory.specs.Combinations.{IsReduced}
use Rattle.ve_theory.specs.Words.{Word, start, letters}
use Rattle.ve_theory.specs.Elements.{AlgebraElement, Element}
use Rattle.ve_theory.specs.Answers.{Action, Row, IsPlaced, row_times_letters, row_times_element, word_row, evaluation}
use Rattle.ve_vec.specs.Tracing.{PartialTable, AreReduced, CanTrace, vector_times_letters, vector_times_element, vector_of_word, vector_of}
use Rattle.ve_matrix.specs.declared.answer.Answer.{Answer}
use Rattle.ve_matrix.specs.Answers.{answer_of, IsAnswerValue}

-- for each basis vector and letter the row of the product
abbrev pub answer_table : Answer → PartialTable
answer_table A b x = slice_get (slice_index_or A.matrices.items x []) b

-- words and elements with letters and generators of the answer
abbrev pub HasAnswerLetters : Answer → List ℕ → Type 0
HasAnswerLetters A u = All (λ x. x < length A.names) u

abbrev pub IsAnswerWord : Answer → Word → Type 0
IsAnswerWord A w = (start w < A.roots) × HasAnswerLetters A (letters w)

-- Its rows can be traced, and what is traced along them is what the answer's action gives.
pub record IsTraced (A : Answer) (action : Action) : Type 0 where
  pub reduced_rows : AreReduced A.field (answer_table A)
  pub reduced_images : All (IsReduced ◌<◌ A.field) A.images.items
  pub found : (v : Row) (u : List ℕ) → IsPlaced action v → HasAnswerLetters A u → CanTrace A.field (answer_table A) v u
  pub placed : (v : Row) (u : List ℕ) → IsPlaced action v → HasAnswerLetters A u → IsPlaced action (row_times_letters action v u)
  pub placed_words : (w : Word) → IsAnswerWord A w → IsPlaced action (word_row action w)
  pub placed_elements : (q : Element) → All (λ t. IsAnswerWord A t.0) q → IsPlaced action (evaluation action q)
  pub letters : (v : Row) (u : List ℕ) → vector_times_letters (answer_table A) v u ≡ row_times_letters action v u
  pub elements : (v : Row) (r : AlgebraElement) → vector_times_element (answer_table A) v r ≡ row_times_element action v r
  pub words : (w : Word) → vector_of_word (answer_table A) A.images.items w ≡ word_row action w
  pub module_elements : (q : Element) → vector_of (answer_table A) A.images.items q ≡ evaluation action q

abbrev pub AnswersAreTraced : Type 0
AnswersAreTraced = (A : Answer) → IsAnswerValue A → IsTraced A (answer_of A).action
