use Rattle.std.proofs.Common.{◌≡◌, inl, inr, List, ℕ, sym, ap, subst, ◌∙◌}
use Rattle.ve_theory.specs.Answers.{Answer}
use Rattle.ve_formats.specs.AnswerReading.{ShowsAnswer, blank_draft, head_places, FillAll, answer_in}
use Rattle.ve_formats.specs.Lines.{lines_of}
use Rattle.ve_formats.proofs.AnswerChoices.{filled_or_not}
use Rattle.ve_formats.proofs.AnswerTaking.{answer_shown}
use Rattle.ve_formats.proofs.AnswerOutcomes.{at_first, fails_once, filled_once, never_both}
use Rattle.ve_formats.proofs.AnswerFilling.{draft_of, answer_of_draft, fill_answer}
use Rattle.ve_formats.proofs.answers.answers_are_read_once.Goals as goal

filled : (text : List ℕ) (A : Answer) → ShowsAnswer text A → FillAll blank_draft head_places (lines_of text) (draft_of A)
filled text A shows = subst (λ lines. FillAll blank_draft head_places lines (draft_of A)) (sym shows.lines) (fill_answer A shows.writable)

pub returns-clause-same_answer : goal.returns-clause-same_answer
returns-clause-same_answer c text A B first second =
    let same : draft_of A ≡ draft_of B = filled_once c.reduced_lists_are_unique.ensures at_first (filled text A first) (filled text B second) in
    sym (answer_of_draft A) ∙ ap answer_in same ∙ answer_of_draft B

pub returns-clause-same_line : goal.returns-clause-same_line
returns-clause-same_line c text line other first second = fails_once c.reduced_lists_are_unique.ensures at_first first second

pub returns-clause-never_both : goal.returns-clause-never_both
returns-clause-never_both c text A line shows fails = never_both c.reduced_lists_are_unique.ensures at_first (filled text A shows) fails

pub returns-clause-read : goal.returns-clause-read
returns-clause-read c text = elim (filled_or_not (lines_of text) blank_draft head_places at_first) [
  | inl all ↦ let shown = answer_shown all.1 in inl (answer_in all.0, record { lines = shown.lines_are; writable = shown.writable })
  | inr failed ↦ inr failed
]

pub returns-clause-filled : goal.returns-clause-filled
returns-clause-filled c text last all = let shown = answer_shown all in record { lines = shown.lines_are; writable = shown.writable }
