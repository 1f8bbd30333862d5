-- The lines of verdicts. Verdicts number relations and rows from 0, their lines from 1.
use Rattle.std.specs.Prelude.{ℕ, ◌+◌, List, ◌++◌, codes, decimal}
use Rattle.ve_theory.specs.Verdicts.{Verdict, is_quotient, shape_differs, relator_fails, submodule_fails, basis_word_fails}
use Rattle.ve_formats.specs.Lines.{line_text}

-- a number from 0, counted from 1
abbrev pub counted : ℕ → List ℕ
counted number = decimal (number + 1)

abbrev pub verdict_line : Verdict → List ℕ
verdict_line is_quotient = codes "yes"
verdict_line shape_differs = codes "no shape"
verdict_line (relator_fails number row) = codes "no relator " ++ counted number ++ codes " row " ++ counted row
verdict_line (submodule_fails number) = codes "no sub " ++ counted number
verdict_line (basis_word_fails row) = codes "no basis " ++ counted row

abbrev pub verdict_text : Verdict → List ℕ
verdict_text verdict = line_text (verdict_line verdict)
