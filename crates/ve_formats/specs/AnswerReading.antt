-- Which texts are those of answers, and at which line the others are refused.
use Rattle.std.specs.Prelude.{◌≡◌, ◌≢◌, ℕ, zero, suc, ◌<◌, ◌≤◌, ◌^◌, List, [], ◌∷◌, ◌++◌, length, All, AllPairs, Contains, IsTrue, IsFalse, Some, codes, slice_get, replicate}
use Rattle.ve_theory.specs.Residues.{IsFieldPrime}
use Rattle.ve_theory.specs.Words.{Word, generator, times}
use Rattle.ve_theory.specs.Validity.{is_name, is_rooted, most_letters, most_generators}
use Rattle.ve_theory.specs.Answers as answers
use Rattle.ve_theory.specs.Answers.{Answer, Row, IsRow, IsWellFormed}
use Rattle.ve_formats.specs.Lines.{lines_of, each_after_space}
use Rattle.ve_formats.specs.WordText.{word_text}
use Rattle.ve_formats.specs.AnswerText.{numbered, image_line, row_line, answer_lines}

-- names that letters have
pub record AreNames (names : List (List ℕ)) : Type 0 where
  pub few : length names ≤ most_letters
  pub formed : All (λ name. IsTrue (is_name name) × IsFalse (is_rooted name)) names
  pub distinct : AllPairs ◌≢◌ names

-- an answer that a text can show: its numbers are in range, its letters have names, its basis words are different
pub record IsWritable (A : Answer) : Type 0 where
  pub prime : IsFieldPrime A.prime
  pub names : AreNames A.names
  pub generators : (0 < A.generators) × (A.generators ≤ most_generators)
  pub closed : A.closed < 2 ^ 32
  pub dimension : answers.dimension A.action < 2 ^ 32
  pub form : IsWellFormed A
  pub distinct : AllPairs ◌≢◌ A.action.basis

-- The text shows the answer: its lines are the answer's.
pub record ShowsAnswer (text : List ℕ) (A : Answer) : Type 0 where
  pub lines : lines_of text ≡ answer_lines A
  pub writable : IsWritable A

-- ---- line by line

-- what was read of an answer so far, with the dimension that was told
pub record Draft : Type 0 where
  pub prime : ℕ
  pub names : List (List ℕ)
  pub generators : ℕ
  pub closed : ℕ
  pub dimension : ℕ
  pub basis : List Word
  pub images : List Row
  pub matrices : List (List Row)

abbrev pub blank_draft : Draft
blank_draft = record {
  prime = 0;
  names = [];
  generators = 0;
  closed = 0;
  dimension = 0;
  basis = [];
  images = [];
  matrices = [];
}

-- the answer of a draft
unfoldable pub answer_in : Draft → Answer
answer_in draft = record {
  prime = draft.prime;
  names = draft.names;
  generators = draft.generators;
  closed = draft.closed;
  action = record { basis = draft.basis; images = draft.images; matrices = draft.matrices };
}

-- the places of lines; a letter's line is the one with its name
pub data Place : Type 0 where
  version : Place
  prime : Place
  names : Place
  generators : Place
  closed : Place
  dimension : Place
  word : Place
  image : Place
  letter : Place
  row : Place
  end : Place

-- a word that may stand next: a generator, or a basis word times a letter
pub data Grows (draft : Draft) : Word → Type 0 where
  a_generator : (i : ℕ) → i < draft.generators → Grows draft (generator i)
  a_child : (v : Word) (x : ℕ) → Contains draft.basis v → x < length draft.names → Grows draft (times v x)

-- one row more in the last matrix
unfoldable pub with_row : Row → List (List Row) → List (List Row)
with_row v [] = []
with_row v (matrix ∷ []) = (matrix ++ v ∷ []) ∷ []
with_row v (matrix ∷ next ∷ matrices) = matrix ∷ with_row v (next ∷ matrices)

-- The line has the form that its place asks for, and takes a draft to the next.
pub data Fills (draft : Draft) : Place → List ℕ → Draft → Type 0 where
  a_version : Fills draft version (codes "venum-answer 1") draft
  a_prime : (p : ℕ) → IsFieldPrime p → Fills draft prime (numbered (codes "prime") p) (record draft { prime = p })
  some_names : (xs : List (List ℕ)) → AreNames xs → Fills draft names (codes "letters" ++ each_after_space xs) (record draft { names = xs })
  some_generators : (s : ℕ) → 0 < s → s ≤ most_generators → Fills draft generators (numbered (codes "module") s) (record draft { generators = s })
  a_level : (k : ℕ) → k < 2 ^ 32 → Fills draft closed (numbered (codes "closed") k) (record draft { closed = k })
  a_dimension : (d : ℕ) → d < 2 ^ 32 → Fills draft dimension (numbered (codes "dimension") d) (record draft { dimension = d })
  a_word : (w : Word) → Grows draft w → ¬ Contains draft.basis w → Fills draft word (codes "basis " ++ word_text draft.names w) (record draft { basis = draft.basis ++ w ∷ [] })
  an_image : (v : Row) → IsRow draft.prime draft.dimension v → Fills draft image (image_line draft.dimension v) (record draft { images = draft.images ++ v ∷ [] })
  a_letter : (x : List ℕ) → slice_get draft.names (length draft.matrices) ≡ Some x → Fills draft letter (codes "letter " ++ x) (record draft { matrices = draft.matrices ++ [] ∷ [] })
  a_row : (v : Row) → IsRow draft.prime draft.dimension v → Fills draft row (row_line draft.dimension v) (record draft { matrices = with_row v draft.matrices })
  the_end : Fills draft end (codes "end") draft

-- the places of the first lines, and of those behind the dimension, which they say
abbrev pub head_places : List Place
head_places = version ∷ prime ∷ names ∷ generators ∷ closed ∷ dimension ∷ []

-- of the matrices of n letters, with as many rows each
unfoldable pub matrix_places : ℕ → ℕ → List Place
matrix_places rows zero = []
matrix_places rows (suc n) = letter ∷ (replicate rows row ++ matrix_places rows n)

abbrev pub body_places : Draft → List Place
body_places draft =
    replicate draft.dimension word ++ (replicate draft.generators image ++ (matrix_places draft.dimension (length draft.names) ++ end ∷ []))

-- the places that a line opens before those that are left
unfoldable pub opened : Place → Draft → List Place
opened dimension draft = body_places draft
opened _ draft = []

-- the lines fill these places and no more
pub data FillAll : Draft → List Place → List (List ℕ) → Draft → Type 0 where
  none : {draft : Draft} → FillAll draft [] [] draft
  one : {draft next last : Draft} {place : Place} {places : List Place} {line : List ℕ} {lines : List (List ℕ)} → Fills draft place line next
      → FillAll next (opened place next ++ places) lines last → FillAll draft (place ∷ places) (line ∷ lines) last

-- The number of the first line that doesn't fill its place, counted from 1: one past the last line where places are left, and
-- the first line behind the last place.
pub data FailAt : Draft → List Place → List (List ℕ) → ℕ → Type 0 where
  misfit : {draft : Draft} {place : Place} {places : List Place} {line : List ℕ} {lines : List (List ℕ)} → ((next : Draft) → ¬ Fills draft place line next)
      → FailAt draft (place ∷ places) (line ∷ lines) 1
  too_few : {draft : Draft} {place : Place} {places : List Place} → FailAt draft (place ∷ places) [] 1
  too_many : {draft : Draft} {line : List ℕ} {lines : List (List ℕ)} → FailAt draft [] (line ∷ lines) 1
  later : {draft next : Draft} {place : Place} {places : List Place} {line : List ℕ} {lines : List (List ℕ)} {n : ℕ} → Fills draft place line next
      → FailAt next (opened place next ++ places) lines n → FailAt draft (place ∷ places) (line ∷ lines) (suc n)

-- the text shows no answer, and this is its refused line, counted from 1
abbrev pub IsNoAnswerAt : List ℕ → ℕ → Type 0
IsNoAnswerAt text line = FailAt blank_draft head_places (lines_of text) line
