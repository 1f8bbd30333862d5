-- Verdicts name the first failure, counted from 1.
use Rattle.std.proofs.Common.{◌≡◌, ℕ, ◌+◌, ◌-◌, subst, arith}
use Rattle.ve_theory.specs.Presentations.{Presentation}
use Rattle.ve_theory.specs.Answers.{Answer, HasShape, MeetsRelations}
use Rattle.ve_theory.specs.Verdicts.{IsVerdict, RelatorFailsFirst, SubmoduleFailsFirst, BasisWordFailsFirst}
use Rattle.ve_check.specs.declared.verdict.Verdict.TheVariants.{Yes, No}
use Rattle.ve_check.specs.declared.verdict.WhyNot.TheVariants.{Shape, RelatorFails, SubFails, BasisWord}
use Rattle.ve_check.specs.Verdicts.{Says}

back : (n : ℕ) → n ≡ n + 1 - 1
back n = omega arith

module _ (P : Presentation) (A : Answer) where
  pub says_yes : HasShape P A → MeetsRelations P A.action → Says P A Yes
  unfolding IsVerdict
  says_yes shape meets = record { counts = tt; is = (shape, meets) }

  pub says_shape : ¬ HasShape P A → Says P A (No Shape)
  unfolding IsVerdict
  says_shape differs = record { counts = tt; is = differs }

  pub says_relator : (number row : ℕ) → RelatorFailsFirst P A number row → Says P A (No (RelatorFails (number + 1) (row + 1)))
  unfolding IsVerdict
  says_relator number row first = record {
    counts = (omega arith, omega arith);
    is = subst (λ n. RelatorFailsFirst P A n (row + 1 - 1)) (back number) (subst (RelatorFailsFirst P A number) (back row) first);
  }

  pub says_submodule : (number : ℕ) → SubmoduleFailsFirst P A number → Says P A (No (SubFails (number + 1)))
  unfolding IsVerdict
  says_submodule number first = record { counts = omega arith; is = subst (SubmoduleFailsFirst P A) (back number) first }

  pub says_basis_word : (row : ℕ) → BasisWordFailsFirst P A row → Says P A (No (BasisWord (row + 1)))
  unfolding IsVerdict
  says_basis_word row first = record { counts = omega arith; is = subst (BasisWordFailsFirst P A) (back row) first }
