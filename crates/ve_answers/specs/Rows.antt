-- Rows of matrices, and of generators, as they are read.
use Rattle.std.specs.Prelude.{◌≡◌, ℕ, ◌<◌, List, [], ◌∷◌, ◌++◌, All, decimal, length, map}
use Rattle.ve_theory.specs.Answers.{Row, IsRow}
use Rattle.ve_formats.specs.Lines.{each_after_space}
use Rattle.ve_formats.specs.AnswerText.{row_entries}
use Rattle.ve_formats.specs.AnswerReading.{Draft, Place, Fills, opened}
use Rattle.ve_answers.specs.declared.head.Head.{Head}

-- the line is this word and as many residues as a row has places
pub record IsEntryLine (head : Head) (word line entries : List ℕ) : Type 0 where
  pub count : length entries ≡ head.dimension
  pub residues : All (λ entry. entry < head.field) entries
  pub text : line ≡ word ++ each_after_space (map decimal entries)

-- the line is this word and a row
pub record IsRowLine (head : Head) (word line : List ℕ) (v : Row) : Type 0 where
  pub row : IsRow head.field head.dimension v
  pub text : line ≡ word ++ row_entries head.dimension v

-- The lines of this word and a row, and no others, fill the place, and put the row behind those that a draft has.
pub record IsRowPlace (head : Head) (word : List ℕ) (place : Place) (with_rows : List Row → Draft) : Type 0 where
  pub fills : (rows : List Row) (line : List ℕ) (v : Row) → IsRowLine head word line v → Fills (with_rows rows) place line (with_rows (rows ++ v ∷ []))
  pub only : (rows : List Row) (line : List ℕ) (next : Draft) → Fills (with_rows rows) place line next → (v : Row) × IsRowLine head word line v
  pub opens : (draft : Draft) → opened place draft ≡ []
