use Rattle.std.proofs.Common.{◌≡◌, not, codes, ap, ◌∙◌, sym}
use Rattle.std.proofs.lemmas.Bool.{not-true, not-false}
use Rattle.ve_formats.specs.Tokens.{name}
use Rattle.ve_lex.specs.Lexed.{token_of}
use Rattle.ve_read.proofs.EndLines.{is_name_token, end_token, behind_end, is_end_line, lexes_to_none}
use Rattle.ve_read.proofs.cut.is_end.Goals as goal
use lib.Pointwise.{bytes_decides}

pub returns-in_default-token : goal.returns-in_default-token
returns-in_default-token c =
    let law = c.line_lexes_once.ensures in
    let next = rw c.in-Ok-Some.field-0-is at c.in-Ok-Some.ensures.next in
    (λ h. absurd (cc), λ h. absurd (is_name_token c.in-Ok-Some.first.token _ (end_token law.lexed law.same_tokens law.never_both _ _ _ next.1 h).0 c.in_default-token.not-Name))

pub returns-then-ne : goal.returns-then-ne
returns-then-ne c =
    let law = c.line_lexes_once.ensures in
    let next = rw c.in-Ok-Some.field-0-is at c.in-Ok-Some.ensures.next in (
      λ h. absurd (cc),
      λ h.
          let word = (end_token law.lexed law.same_tokens law.never_both _ _ _ next.1 h).0 in
          let named : name c.in-Name.name.now ≡ name (codes "end") = sym (ap token_of c.in-Name.is) ∙ word in
          let bytes : c.in-Name.name.now ≡ c.as_slice.result.now = let e = c.as_slice.ensures in (cc) in
          let same = (bytes_decides _ _).1 bytes in
          let other = not-true _ (sym c.ne.ensures ∙ c.if-ne.true) in
          absurd (cc),
    )

pub returns : goal.returns
returns c =
    let law = c.line_lexes_once.ensures in
    let next = rw c.in-Ok-Some.field-0-is at c.in-Ok-Some.ensures.next in (
      λ h.
          let same = not-false _ (sym c.ne.ensures ∙ c.if-ne.false) in
          let word : token_of c.in-Ok-Some.first.token ≡ name (codes "end") = ap token_of c.in-Name.is ∙ ap name ((bytes_decides _ _).0 same ∙ c.as_slice.ensures) in
          is_end_line _ _ _ next.1 word (lexes_to_none _ _ _ (c.is_none.ensures ∙ ap not h) c.in-Ok.ensures.next),
      λ h.
          let none = behind_end law.lexed law.same_tokens law.never_both _ _ _ (end_token law.lexed law.same_tokens law.never_both _ _ _ next.1 h).1 c.in-Ok.ensures.next in
          not-false _ (sym c.is_none.ensures ∙ none),
    )
