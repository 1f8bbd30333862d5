-- The parts of a canonical text, each of which is a line or a few.
use Rattle.std.specs.Prelude.{ℕ, List, ◌++◌, codes, decimal, map}
use Rattle.ve_theory.specs.Presentations.{Presentation}
use Rattle.ve_formats.specs.Lines.{line_text, text_of_lines}
use Rattle.ve_formats.specs.CanonicalText.{letter_lines, balance_line, relation_line, submodule_line}

-- a line of a word and a number
unfoldable pub numbered_line : List ℕ → ℕ → List ℕ
numbered_line word number = line_text (word ++ decimal number)

-- the lines before those of relations
unfoldable pub declarations_text : Presentation → List ℕ
declarations_text P =
    numbered_line (codes "venum ") P.version
    ++ numbered_line (codes "prime ") P.prime
    ++ text_of_lines (letter_lines P 0 P.inverses)
    ++ numbered_line (codes "module ") P.generators
    ++ text_of_lines (balance_line P)

abbrev pub relations_text : Presentation → List ℕ
relations_text P = text_of_lines (map (relation_line P) P.relations)

abbrev pub submodule_text : Presentation → List ℕ
submodule_text P = text_of_lines (map (submodule_line P) P.submodule)
