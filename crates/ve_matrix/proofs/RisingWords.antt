-- Basis words that rise, and rows of them.
use Rattle.std.proofs.Common.{◌≡◌, ℕ, zero, suc, ◌+◌, ◌<◌, ◌≤◌, ◌⊎◌, inl, inr, List, [], length, get_or, All, Some, slice_get, slice_index_or, ◌-◌, refl, sym, ap, ◌∙◌, subst, arith}
use Rattle.std.specs.Prelude.{AllPairs, Bool, true, false, not, IsTrue, ◌↔◌}
use Rattle.std.proofs.lemmas.Bool.{true≢false}
use Rattle.std.proofs.lemmas.Bool.{cases_lt}
use Rattle.std.proofs.lemmas.List.{get_or_default, get_or_read_under}
use Rattle.std.proofs.lemmas.List.Elements.{All-nil, All-push}
use Rattle.std.proofs.lemmas.Option.{get_or_from_slice_get}
use Rattle.ve_theory.specs.Combinations.{AllBefore}
use Rattle.ve_theory.specs.Words.{Word, generator, times, letters}
use Rattle.ve_theory.specs.Presentations.{Presentation, HasLetters, before, letter_count}
use Rattle.ve_theory.specs.Answers.{Action, Row, IsRow, IsNotAfter, IsRowUpTo, basis_word, dimension, matrix_row}
use Rattle.ve_theory.specs.Laws.{IsTotalOrder}
use Rattle.ve_theory.proofs.Reduced.{All_from_AllBefore}
use Rattle.ve_lemmas.proofs.Lists.{All-slice_get}
use Rattle.ve_matrix.specs.declared.answer.Answer.{Answer}
use Rattle.ve_matrix.proofs.BasisWords.{length-words_of}
use Rattle.ve_matrix.specs.Answers.{AnswerFits, IsAnswerValue}
use Rattle.ve_matrix.specs.Answers.{answer_of}
use Rattle.ve_matrix.specs.Disorders.{RowIsOrdered, WordsRiseBelow}

-- basis words have letters of the presentation
pub word_letters : (P : Presentation) (A : Answer) (j : ℕ) → AnswerFits P A → j < dimension (answer_of A).action → HasLetters P (letters (basis_word (answer_of A).action j))
word_letters P A j order within =
    subst (λ names. All (λ x. x < length names) (letters (basis_word (answer_of A).action j))) order.shape.names (order.answer.form.words j (generator 0) within).1

-- so have words that are known to be basis words
pub known_letters : (P : Presentation) (A : Answer) (j : ℕ) (w : Word) → AnswerFits P A → w ≡ basis_word (answer_of A).action j → j < length A.basis.items → HasLetters P (letters w)
known_letters P A j w order is within =
    subst (λ v. HasLetters P (letters v)) (sym is) (word_letters P A j order (omega (arith, length-words_of A.basis.items)))

pub generator_letters : (P : Presentation) (i : ℕ) (w : Word) → w ≡ generator i → HasLetters P (letters w)
unfolding letters
generator_letters P i w is = subst (λ v. HasLetters P (letters v)) (sym is) (All-nil (λ x. x < letter_count P))

pub child_letters : (P : Presentation) (x : ℕ) (v w : Word) → w ≡ times v x → HasLetters P (letters v) → x < letter_count P → HasLetters P (letters w)
unfolding letters
child_letters P x v w is has letter = subst (λ u. HasLetters P (letters u)) (sym is) (All-push (λ y. y < letter_count P) (letters v) x has letter)

-- an answer's matrix of a letter
pub record IsLetterMatrix (A : Answer) (x : ℕ) (matrix : List Row) : Type 0 where
  pub is : matrix ≡ slice_index_or A.matrices.items x []
  pub size : length matrix ≡ dimension (answer_of A).action
  pub rows : All (IsRow A.field (dimension (answer_of A).action)) matrix

pub letter_matrix : (A : Answer) (x n : ℕ) (matrix : List Row) → IsAnswerValue A → n ≡ x → x < length A.names → matrix ≡ get_or A.matrices.items n matrix → IsLetterMatrix A x matrix
letter_matrix A x n matrix value same letter read =
    let within : n < length A.matrices.items = omega (arith, value.form.one_matrix_each) in
    let is : matrix ≡ slice_index_or A.matrices.items x [] = get_or_read_under A.matrices.items n (length A.matrices.items) matrix [] read within refl ∙ ap (λ m. slice_index_or A.matrices.items m []) same in
    record {
      is = is;
      size = ap length read ∙ value.form.square n matrix within;
      rows = subst (All (IsRow A.field (dimension (answer_of A).action))) (sym read) (value.form.matrices n matrix within);
    }

-- what is said of a place's row and its word times a letter is said of the letter's row
pub row_judged : (P : Presentation) (A : Answer) (x j : ℕ) (b : Bool) (w word : Word) (row : Row) (matrix : List Row) → IsLetterMatrix A x matrix → slice_get matrix j ≡ Some row
    → w ≡ basis_word (answer_of A).action j → word ≡ times w x
    → (IsTrue b ↔ IsRowUpTo P (answer_of A).action word row) → (IsTrue b ↔ RowIsOrdered P (answer_of A).action x j)
row_judged P A x j b w word row matrix letter at is next says =
    let row_is : row ≡ matrix_row (answer_of A).action x j = sym (get_or_from_slice_get matrix j row [] at) ∙ ap (λ m. slice_index_or m j []) letter.is in
    subst (λ r. IsTrue b ↔ IsRowUpTo P (answer_of A).action (times (basis_word (answer_of A).action j) x) r) row_is
    (subst (λ v. IsTrue b ↔ IsRowUpTo P (answer_of A).action v row) (next ∙ ap (λ v. times v x) is) says)

-- where a test says exactly that X, its negation says exactly that not X
pub negated : {X Y : Type 0} (b : Bool) → (IsTrue b ↔ X) → (¬ X → Y) → (Y → ¬ X) → IsTrue (not b) ↔ Y
negated true says from to = (λ e. absurd (true≢false (sym e)), λ y. absurd (to y (says.0 refl)))
negated false says from to = (λ e. from (λ x. true≢false (sym (says.1 x))), λ y. refl)

pub denied : {X : Type 0} (b : Bool) → (IsTrue b ↔ X) → b ≡ false → ¬ X
denied b says is x = true≢false (sym (says.1 x) ∙ is)

module _ (P : Presentation) (A : Action) (total : IsTotalOrder P) where
  rises_by : (k i n : ℕ) → i + k + 1 < n → WordsRiseBelow P A n → before P (basis_word A i) (basis_word A (i + k + 1))
  rises_by zero i n within rise = subst (λ j. before P (basis_word A i) (basis_word A j)) (omega arith) (rise i (omega arith))
  rises_by (suc k) i n within rise =
      total.transitive (basis_word A i) (basis_word A (i + k + 1)) (basis_word A (i + suc k + 1)) (rises_by k i n (omega arith) rise)
      (subst (λ j. before P (basis_word A (i + k + 1)) (basis_word A j)) (omega arith) (rise (i + k + 1) (omega arith)))

  -- where each word is before the next, all words rise
  pub rise_all : (n : ℕ) → n ≡ dimension A → WordsRiseBelow P A n → AllPairs (before P) A.basis
  rise_all n count rise i j d less within =
      let far : i + (j - (i + 1)) + 1 ≡ j = omega arith in
      let rises : before P (basis_word A i) (basis_word A j) = subst (λ m. before P (basis_word A i) (basis_word A m)) far (rises_by (j - (i + 1)) i n (omega arith) rise) in
      let first : basis_word A i ≡ get_or A.basis i d = get_or_default A.basis i (generator 0) d (omega arith) in
      let second : basis_word A j ≡ get_or A.basis j d = get_or_default A.basis j (generator 0) d within in
      subst (λ w. before P (get_or A.basis i d) w) second (subst (λ w. before P w (basis_word A j)) first rises)

  not_after : (v w : Word) → ¬ before P w v → IsNotAfter P v w
  not_after v w not = cases (total.total v w)
    where
      cases : before P v w ⊎ (v ≡ w) ⊎ before P w v → IsNotAfter P v w
      cases (inl less) = inl less
      cases (inr (inl same)) = inr same
      cases (inr (inr greater)) = absurd (not greater)

  -- Words rise, so a row has no word after this one where its greatest place hasn't.
  pub row_up_to : (row : Row) (id : ℕ) (w : Word) → AllPairs (before P) A.basis → All (λ t. t.0 < dimension A) row → AllBefore ◌≤◌ id row → id < dimension A
      → ¬ before P w (basis_word A id) → IsRowUpTo P A w row
  row_up_to row id w rising placed below within not k t l =
      let place : ℕ = (slice_index_or row k t).0 in
      (placed k t l, cases place (placed k t l) (cases_lt place id) (All_from_AllBefore ◌≤◌ id row below k t l) (not_after (basis_word A id) w not))
    where
      cases : (place : ℕ) → place < dimension A → (place < id) ⊎ (id ≤ place) → place ≤ id → IsNotAfter P (basis_word A id) w → IsNotAfter P (basis_word A place) w
      cases place inside (inl less) le (inl rest) = inl (total.transitive (basis_word A place) (basis_word A id) w (rising place id (generator 0) less within) rest)
      cases place inside (inl less) le (inr same) = inl (subst (before P (basis_word A place)) same (rising place id (generator 0) less within))
      cases place inside (inr past) le rest = subst (λ j. IsNotAfter P (basis_word A j) w) (omega arith) rest

  -- a row that has no word after this one has none at its first place
  pub not_past : (row : Row) (t : ℕ × ℕ) (w : Word) → slice_get row 0 ≡ Some t → IsRowUpTo P A w row → ¬ before P w (basis_word A t.0)
  not_past row t w first upto greater = cases (All-slice_get (λ s. (s.0 < dimension A) × IsNotAfter P (basis_word A s.0) w) row 0 t first upto).1
    where
      cases : IsNotAfter P (basis_word A t.0) w → ⊥
      cases (inl less) = total.irreflexive w (total.transitive w (basis_word A t.0) w greater less)
      cases (inr same) = total.irreflexive w (subst (before P w) same greater)
