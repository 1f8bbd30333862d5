-- How an answer is written.
use Rattle.std.specs.Prelude.{◌≡◌, zero, suc, refl, ℕ, List, [], ◌∷◌, ◌++◌, map, decimal, codes, slice_index_or, nat_eq, length}
use Rattle.ve_theory.specs.Combinations.{coefficient}
use Rattle.ve_theory.specs.Answers.{Answer, Row, dimension}
use Rattle.ve_formats.specs.Lines.{text_of_lines, line_text, numbers_below, each_after_space, text_of_lines-append, text_of_lines-one}
use Rattle.ve_formats.specs.WordText.{word_text}

-- a word and a number after a space
abbrev pub numbered : List ℕ → ℕ → List ℕ
numbered word n = word ++ 32 ∷ decimal n

-- the entries of a row of n places, each after a space
abbrev pub row_entries : ℕ → Row → List ℕ
row_entries n row = each_after_space (map (λ place. decimal (coefficient nat_eq row place)) (numbers_below n))

abbrev pub image_line : ℕ → Row → List ℕ
image_line n row = codes "image" ++ row_entries n row

abbrev pub row_line : ℕ → Row → List ℕ
row_line n row = codes "row" ++ row_entries n row

-- the lines before those of the basis words
unfoldable pub head_lines : Answer → List (List ℕ)
head_lines A =
    codes "venum-answer 1"
    ∷ numbered (codes "prime") A.prime
    ∷ (codes "letters" ++ each_after_space A.names)
    ∷ numbered (codes "module") A.generators
    ∷ numbered (codes "closed") A.closed
    ∷ numbered (codes "dimension") (dimension A.action)
    ∷ []

-- a line for each basis word, and for the image of each generator
unfoldable pub basis_lines : Answer → List (List ℕ)
basis_lines A = map (λ w. codes "basis " ++ word_text A.names w) A.action.basis

unfoldable pub image_lines : Answer → List (List ℕ)
image_lines A = map (image_line (dimension A.action)) A.action.images

-- for a letter its name, then the rows of its matrix
unfoldable pub letter_lines : Answer → ℕ → List (List ℕ)
letter_lines A x =
    (codes "letter " ++ slice_index_or A.names x []) ∷ map (row_line (dimension A.action)) (slice_index_or A.action.matrices x [])

-- the same for the letters below n
unfoldable pub matrix_lines : Answer → ℕ → List (List ℕ)
matrix_lines A zero = []
matrix_lines A (suc n) = matrix_lines A n ++ letter_lines A n

-- the lines of an answer, without their line feeds
unfoldable pub answer_lines : Answer → List (List ℕ)
answer_lines A = head_lines A ++ (basis_lines A ++ (image_lines A ++ (matrix_lines A (length A.names) ++ codes "end" ∷ [])))

-- the text of an answer
unfoldable pub answer_text : Answer → List ℕ
answer_text A = text_of_lines (answer_lines A)

-- the text, part by part
pub answer_text-parts : (A : Answer) → answer_text A ≡
    text_of_lines (head_lines A)
    ++ (text_of_lines (basis_lines A)
    ++ (text_of_lines (image_lines A) ++ (text_of_lines (matrix_lines A (length A.names)) ++ line_text (codes "end"))))
unfolding answer_text answer_lines
answer_text-parts A =
    rw (
      text_of_lines-append (head_lines A) (basis_lines A ++ (image_lines A ++ (matrix_lines A (length A.names) ++ codes "end" ∷ []))),
      text_of_lines-append (basis_lines A) (image_lines A ++ (matrix_lines A (length A.names) ++ codes "end" ∷ [])),
      text_of_lines-append (image_lines A) (matrix_lines A (length A.names) ++ codes "end" ∷ []),
      text_of_lines-append (matrix_lines A (length A.names)) (codes "end" ∷ []),
      text_of_lines-one (codes "end"),
    ) refl
