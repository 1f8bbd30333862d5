-- What a verdict says. Its numbers and rows count from 1, and those of the theory's verdicts from 0.
use Rattle.std.specs.Prelude.{◌-◌, ◌<◌}
use Rattle.ve_theory.specs.Presentations.{Presentation}
use Rattle.ve_theory.specs.Answers.{Answer}
use Rattle.ve_theory.specs.Verdicts.{Verdict as TheoryVerdict, IsVerdict, is_quotient, shape_differs, relator_fails, submodule_fails, basis_word_fails}
use Rattle.ve_check.specs.declared.verdict.Verdict.{Verdict}
use Rattle.ve_check.specs.declared.verdict.Verdict.TheVariants.{Yes, No}
use Rattle.ve_check.specs.declared.verdict.WhyNot.TheVariants.{Shape, RelatorFails, SubFails, BasisWord}

-- the same verdict, with numbers and rows from 0
abbrev pub theory_verdict : Verdict → TheoryVerdict
theory_verdict Yes = is_quotient
theory_verdict (No Shape) = shape_differs
theory_verdict (No (RelatorFails number row)) = relator_fails (number - 1) (row - 1)
theory_verdict (No (SubFails number)) = submodule_fails (number - 1)
theory_verdict (No (BasisWord row)) = basis_word_fails (row - 1)

-- its number and its row are positive
abbrev pub CountsFromOne : Verdict → Type 0
CountsFromOne Yes = Unit {0}
CountsFromOne (No Shape) = Unit {0}
CountsFromOne (No (RelatorFails number row)) = (0 < number) × (0 < row)
CountsFromOne (No (SubFails number)) = 0 < number
CountsFromOne (No (BasisWord row)) = 0 < row

-- counted from 1, it is the theory's verdict on the presentation and the answer
pub record Says (P : Presentation) (A : Answer) (verdict : Verdict) : Type 0 where
  pub counts : CountsFromOne verdict
  pub is : IsVerdict P A (theory_verdict verdict)
