use Rattle.std.proofs.Common.{◌≡◌, ◌≢◌, [], map, ap, subst, length, sym, ◌∙◌, true}
use Rattle.std.proofs.lemmas.Bool.{eqb-true, eqb-false}
use Rattle.std.proofs.lemmas.List.{nil_from_length}
use Rattle.ve_formats.specs.PresentationText.{blank, behind_end}
use Rattle.ve_formats.specs.Tokens.{Lexes}
use Rattle.ve_lex.specs.Lexed.{placed_of}
use Rattle.ve_read.proofs.LineSteps.{deep_line, formless_line, line_taken, some_placed}
use Rattle.ve_read.proofs.lines.line_form.Goals as goal

pub returns-then-is_empty-clause-judged : goal.returns-then-is_empty-clause-judged
returns-then-is_empty-clause-judged c = λ draft line ended lexes.
    let none : c.args.tokens.now ≡ [] = nil_from_length c.args.tokens.now (eqb-true _ _ (sym c.is_empty.ensures ∙ c.if-is_empty.true)) in
    blank (subst (λ ts. Lexes 0 line (map placed_of ts)) none lexes)

pub returns-then-ended-clause-judged : goal.returns-then-ended-clause-judged
returns-then-ended-clause-judged c = λ draft line ended lexes.
    let some : c.args.tokens.now ≢ [] = λ none. eqb-false _ _ (sym c.is_empty.ensures ∙ c.if-is_empty.false) (ap length none) in
    behind_end (ended.0 c.if-ended.true) lexes (some_placed _ some)

pub returns-then-is_too_deep-clause-judged : goal.returns-then-is_too_deep-clause-judged
returns-then-is_too_deep-clause-judged c = λ draft line ended lexes.
    let going = c.if-ended.false in
    deep_line draft line c.args.tokens.now (λ at_end. let is : c.args.ended ≡ true = ended.1 at_end in cc) lexes (c.is_too_deep.ensures.0 c.if-is_too_deep.true)

pub returns-in_default-clause-judged : goal.returns-in_default-clause-judged
returns-in_default-clause-judged c = λ draft line ended lexes.
    let some : c.args.tokens.now ≢ [] = λ none. eqb-false _ _ (sym c.is_empty.ensures ∙ c.if-is_empty.false) (ap length none) in
    let going = c.if-ended.false in
    let shallow = c.if-is_too_deep.false in
    formless_line draft line c.args.tokens.now (λ at_end. let is : c.args.ended ≡ true = ended.1 at_end in cc) lexes
    (λ h. let is : c.is_too_deep.result ≡ true = c.is_too_deep.ensures.1 h in cc) c.readers_read_what_is_spelled.ensures.lines some c.in_default.ensures

pub returns-clause-formed : goal.returns-clause-formed
returns-clause-formed c =
    let found = c.in-Some.ensures in
    (found.line, found.form_of_line)

pub returns-clause-judged : goal.returns-clause-judged
returns-clause-judged c = λ draft line ended lexes.
    let some : c.args.tokens.now ≢ [] = λ none. eqb-false _ _ (sym c.is_empty.ensures ∙ c.if-is_empty.false) (ap length none) in
    let going = c.if-ended.false in
    let shallow = c.if-is_too_deep.false in
    let found = c.in-Some.ensures in (
      found.line,
      found.form_of_line,
      λ next takes. line_taken draft line c.args.tokens.now (λ at_end. let is : c.args.ended ≡ true = ended.1 at_end in cc) lexes
          (λ h. let is : c.is_too_deep.result ≡ true = c.is_too_deep.ensures.1 h in cc) c.readers_read_what_is_spelled.ensures.lines found.line found.is some next takes,
    )
