-- What is checked: the text of a presentation, and behind it that of an answer which is claimed for it.
use Rattle.std.specs.Prelude.{◌≡◌, ℕ, ◌≤◌, List, length, take, drop}
use Rattle.ve_theory.specs.Presentations.{Presentation}
use Rattle.ve_theory.specs.Answers.{Answer, IsQuotient}
use Rattle.ve_theory.specs.Verdicts.{Verdict, is_quotient, shape_differs, relator_fails, submodule_fails, basis_word_fails, IsVerdict}
use Rattle.ve_formats.specs.PresentationText.{Spells}
use Rattle.ve_formats.specs.AnswerReading.{ShowsAnswer, IsNoAnswerAt}
use Rattle.ve_formats.specs.Messages.{answer_refusal_message}
use Rattle.ve_formats.specs.VerdictText.{verdict_text}
use Rattle.ve_read.specs.Cutting.{IsSplitAt}
use Rattle.ve_main.specs.Refusals.{IsRefused}

-- the text is cut here, behind its first line `end`, or at its end where it has none
pub record IsCut (text : List ℕ) (at : ℕ) : Type 0 where
  pub within : at ≤ length text
  pub split : IsSplitAt text at

-- the front spells the presentation, and the rest shows the answer
pub record IsClaim (text : List ℕ) (P : Presentation) (A : Answer) : Type 0 where
  pub at : ℕ
  pub cut : IsCut text at
  pub spells : Spells (take at text) P
  pub shows : ShowsAnswer (drop at text) A

-- the text shows no answer, and the message tells its refused line
pub record IsNoAnswer (text message : List ℕ) : Type 0 where
  pub line : ℕ
  pub refused : IsNoAnswerAt text line
  pub told : message ≡ answer_refusal_message line

-- The front is refused; or it spells a presentation, and the rest shows no answer. Its lines count from where the text is cut.
pub data IsNoClaim (text message : List ℕ) : Type 0 where
  no_presentation : {at : ℕ} → IsCut text at → IsRefused (take at text) message → IsNoClaim text message
  no_answer : {at : ℕ} {P : Presentation} → IsCut text at → Spells (take at text) P → IsNoAnswer (drop at text) message → IsNoClaim text message

-- the status of a verdict
abbrev pub verdict_status : Verdict → ℕ
verdict_status is_quotient = 0
verdict_status shape_differs = 7
verdict_status (relator_fails number row) = 7
verdict_status (submodule_fails number) = 7
verdict_status (basis_word_fails row) = 7

-- The status and the text are those of the verdict on the answer. Where the status is 0, the answer is a quotient.
pub record Judges (P : Presentation) (A : Answer) (status : ℕ) (text : List ℕ) : Type 0 where
  pub verdict : Verdict
  pub is_verdict : IsVerdict P A verdict
  pub is_status : status ≡ verdict_status verdict
  pub is_text : text ≡ verdict_text verdict
  pub quotient : status ≡ 0 → IsQuotient P A
