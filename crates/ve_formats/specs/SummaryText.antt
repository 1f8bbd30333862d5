-- The summary of an answer: its dimension, and for each letter how full its matrix is, and the matrix's trace.
use Rattle.std.specs.Prelude.{ℕ, ◌%◌, List, [], ◌∷◌, ◌++◌, codes, decimal, length, map, nat_eq, not, count_by, sum_by, slice_index_or}
use Rattle.ve_theory.specs.Combinations.{coefficient}
use Rattle.ve_theory.specs.Answers.{Answer, Row, dimension}
use Rattle.ve_formats.specs.Lines.{text_of_lines, numbers_below}
use Rattle.ve_formats.specs.AnswerText.{numbered}

-- the entry of a matrix in a row and a column
abbrev pub entry : List Row → ℕ → ℕ → ℕ
entry matrix row column = coefficient nat_eq (slice_index_or matrix row []) column

-- how many entries of the first n places of a row are not 0; of a matrix of n columns
abbrev pub nonzero_in_row : ℕ → Row → ℕ
nonzero_in_row n row = count_by (λ place. not (nat_eq (coefficient nat_eq row place) 0)) (numbers_below n)

abbrev pub nonzero_entries : ℕ → List Row → ℕ
nonzero_entries n matrix = sum_by (nonzero_in_row n) matrix

-- the residue of the sum of the first n entries of the diagonal
abbrev pub trace : (p n : ℕ) → List Row → ℕ
trace p n matrix = sum_by (λ place. entry matrix place place) (numbers_below n) % p

-- the line of a letter
abbrev pub letter_summary : Answer → ℕ → List ℕ
letter_summary A x = let matrix = slice_index_or A.action.matrices x [] in
    codes "letter " ++ slice_index_or A.names x []
    ++ codes " nonzero " ++ decimal (nonzero_entries (dimension A.action) matrix)
    ++ codes " trace " ++ decimal (trace A.prime (dimension A.action) matrix)

unfoldable pub summary_lines : Answer → List (List ℕ)
summary_lines A =
    codes "venum-summary 1"
    ∷ numbered (codes "dimension") (dimension A.action)
    ∷ (map (letter_summary A) (numbers_below (length A.names)) ++ codes "end" ∷ [])

unfoldable pub summary_text : Answer → List ℕ
summary_text A = text_of_lines (summary_lines A)
