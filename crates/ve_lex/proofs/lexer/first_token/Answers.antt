use Rattle.std.proofs.Common.{◌≡◌, ℕ, List, [], ◌∷◌, length, sym, ap, ◌∙◌, subst, arith}
use Rattle.std.proofs.lemmas.Result.{err_from_is_err_and}
use Rattle.std.proofs.lemmas.Bool.{or_from, ne_eqb}
use Rattle.ve_formats.specs.Tokens.{Begins, with_number, with_symbol, Lexes, at_end, at_comment, at_bad_byte, at_long_number}
use Rattle.ve_lex.proofs.Runs.{begins_name, is_number_run, first_is_no_separator}
use Rattle.ve_lex.proofs.lexer.first_token.Goals as goal

empty : (text : List ℕ) (at : ℕ) → length text ≡ 0 → Lexes at text []
empty [] at none = at_end
empty (b ∷ text) at none = absurd (omega arith)

pub returns-in_default-clause-front : goal.returns-in_default-clause-front
returns-in_default-clause-front c = empty _ _ c.in_default.ensures.cases

pub number-requires : goal.number-requires
number-requires c = c.split_digits.ensures.all

pub returns-in_err-number-clause-fault : goal.returns-in_err-number-clause-fault
returns-in_err-number-clause-fault c =
    let failed = err_from_is_err_and c.from_residual.result c.from_residual.ensures.1 in
    let long = c.in_err-number.ensures.long in
    let cut = c.split_digits.ensures in
    let digit = sym c.is_digit.ensures ∙ c.if-is_digit.true in
    rw (failed.1, failed.2, long.0) (at_long_number _ _ cut.split (is_number_run _ _ _ _ _ cut c.in-Some.ensures.cases.0 digit) long.1)

pub returns-then-first-eq35-clause-front : goal.returns-then-first-eq35-clause-front
returns-then-first-eq35-clause-front c = at_comment (c.in-Some.ensures.cases.0 ∙ ap (λ b. b ∷ c.in-Some.rest.now) c.if-first-eq35.true)

pub returns-then-is_symbol-clause-front : goal.returns-then-is_symbol-clause-front
returns-then-is_symbol-clause-front c = (with_symbol c.in-Some.ensures.cases.0 (sym c.is_symbol.ensures ∙ c.if-is_symbol.true), tt)

pub returns-then-is_name_letter-clause-front : goal.returns-then-is_name_letter-clause-front
returns-then-is_name_letter-clause-front c =
    (begins_name _ _ _ _ _ c.split_name.ensures c.in-Some.ensures.cases.0 (sym c.is_name_letter.ensures ∙ c.if-is_name_letter.true), tt)

pub returns-in_ok-number-clause-front : goal.returns-in_ok-number-clause-front
returns-in_ok-number-clause-front c =
    let cut = c.split_digits.ensures in
    let made = c.in_ok-number.ensures in
    let digit = sym c.is_digit.ensures ∙ c.if-is_digit.true in (
      subst (λ token. Begins c.args.text.now token c.split_digits.result.1.now) (sym made.ok.0)
          (with_number cut.split (is_number_run _ _ _ _ _ cut c.in-Some.ensures.cases.0 digit) made.short cut.end),
      made.ok.1,
    )

-- the byte begins neither a token nor a separator nor a comment
pub returns-else-is_digit-clause-fault : goal.returns-else-is_digit-clause-fault
returns-else-is_digit-clause-fault c =
    let letter = sym c.is_name_letter.ensures ∙ c.if-is_name_letter.false in
    let digit = sym c.is_digit.ensures ∙ c.if-is_digit.false in
    let separator = first_is_no_separator _ _ _ c.in-Some.ensures.cases.0 c.requires in
    let symbols = sym c.is_symbol.ensures ∙ c.if-is_symbol.false in
    let sign = ne_eqb _ _ c.if-first-eq35.false in
    at_bad_byte c.in-Some.ensures.cases.0 (or_from _ _ (or_from _ _ (or_from _ _ (or_from _ _ letter digit) separator) symbols) sign)
