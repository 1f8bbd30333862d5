-- Verdicts, told and judged.
use Rattle.std.specs.Prelude.{◌≡◌, ℕ, ◌+◌, ◌-◌, ◌<◌, List, ◌++◌, codes, decimal, Result, IfOk, refl}
use Rattle.std.proofs.Common.{ap, sym, ◌∙◌, arith, append_assoc}
use Rattle.std.proofs.lemmas.Result.{IfOk-weaker}
use Rattle.ve_theory.specs.Presentations.{Presentation}
use Rattle.ve_theory.specs.Answers.{Answer, IsQuotient}
use Rattle.ve_theory.specs.Verdicts.{relator_fails}
use Rattle.ve_formats.specs.VerdictText.{verdict_line, verdict_text}
use Rattle.ve_check.specs.declared.verdict.Verdict.{Verdict}
use Rattle.ve_check.specs.declared.verdict.Verdict.TheVariants.{Yes, No}
use Rattle.ve_check.specs.declared.verdict.WhyNot.TheVariants.{Shape, RelatorFails, SubFails, BasisWord}
use Rattle.ve_check.specs.Verdicts.{Says, theory_verdict}
use Rattle.ve_main.specs.Claims.{Judges, verdict_status}

-- the line of a relator, of which the part up to its number is written
pub relator_told : {X E : Type 0} (r : Result X E) (old mid new : List ℕ) (number row : ℕ) → 0 < number → 0 < row → mid ≡ old ++ (codes "no relator " ++ decimal number)
    → IfOk r (λ _. new ≡ mid ++ (codes " row " ++ decimal row)) → IfOk r (λ _. new ≡ old ++ verdict_line (relator_fails (number - 1) (row - 1)))
relator_told r old mid new number row numbered counted first = IfOk-weaker r _ _ (λ _ is. is ∙ whole)
  where
    n : number ≡ number - 1 + 1
    n = omega arith

    k : row ≡ row - 1 + 1
    k = omega arith

    whole : mid ++ (codes " row " ++ decimal row) ≡ old ++ verdict_line (relator_fails (number - 1) (row - 1))
    whole =
        ap (λ m. m ++ (codes " row " ++ decimal row)) first
        ∙ append_assoc old (codes "no relator " ++ decimal number) (codes " row " ++ decimal row)
        ∙ ap (λ t. old ++ t) (sym (append_assoc (codes "no relator " ++ decimal number) (codes " row ") (decimal row)))
        ∙ ap (λ i. old ++ (codes "no relator " ++ decimal i ++ codes " row " ++ decimal row)) n
        ∙ ap (λ j. old ++ (codes "no relator " ++ decimal (number - 1 + 1) ++ codes " row " ++ decimal j)) k

-- only yes has the status 0
yes_by_status : (verdict : Verdict) → verdict_status (theory_verdict verdict) ≡ 0 → verdict ≡ Yes
yes_by_status Yes is = refl
yes_by_status (No Shape) is = let e : 7 ≡ 0 = is in absurd (omega arith)
yes_by_status (No (RelatorFails number row)) is = let e : 7 ≡ 0 = is in absurd (omega arith)
yes_by_status (No (SubFails number)) is = let e : 7 ≡ 0 = is in absurd (omega arith)
yes_by_status (No (BasisWord row)) is = let e : 7 ≡ 0 = is in absurd (omega arith)

pub judged : (P : Presentation) (A : Answer) (verdict : Verdict) (text : List ℕ) → Says P A verdict → (verdict ≡ Yes → IsQuotient P A) → text ≡ verdict_text (theory_verdict verdict)
    → Judges P A (verdict_status (theory_verdict verdict)) text
judged P A verdict text says quotient is = record {
  verdict = theory_verdict verdict;
  is_verdict = says.is;
  is_status = refl;
  is_text = is;
  quotient = λ zero. quotient (yes_by_status verdict zero);
}
