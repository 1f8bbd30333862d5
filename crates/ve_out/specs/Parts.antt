-- The parts of the texts that are written.
use Rattle.std.specs.Prelude.{ℕ, List, ◌++◌, length, map, codes, decimal, replicate, nat_eq}
use Rattle.ve_theory.specs.Combinations.{coefficient}
use Rattle.ve_theory.specs.Answers.{Answer, Row, basis_word}
use Rattle.ve_formats.specs.Lines.{text_of_lines, numbers_below, each_after_space}
use Rattle.ve_formats.specs.SummaryText.{letter_summary}
use Rattle.ve_formats.specs.WordText.{word_text}

-- n entries that are 0, each after a space
unfoldable pub zero_entries : ℕ → List ℕ
zero_entries n = each_after_space (replicate n (codes "0"))

-- the entries of a row at the places below n
unfoldable pub entries_below : ℕ → Row → List ℕ
entries_below n row = each_after_space (map (λ place. decimal (coefficient nat_eq row place)) (numbers_below n))

-- the line of the basis word of a place
abbrev pub basis_line : Answer → ℕ → List ℕ
basis_line A place = codes "basis " ++ word_text A.names (basis_word A.action place)

-- the line of a letter's figures
abbrev pub figures_line : List ℕ → ℕ → ℕ → List ℕ
figures_line name nonzero trace = codes "letter " ++ name ++ codes " nonzero " ++ decimal nonzero ++ codes " trace " ++ decimal trace

-- the lines of the letters in a summary
unfoldable pub letters_text : Answer → List ℕ
letters_text A = text_of_lines (map (letter_summary A) (numbers_below (length A.names)))
