-- One step along a line: separators, then a token.
use Rattle.std.proofs.Common.{◌≡◌, ℕ, ◌+◌, ◌-◌, ◌<◌, List, [], ◌∷◌, ◌++◌, length, refl, sym, ap, ◌∙◌, subst, arith, length-append}
use Rattle.std.specs.Prelude.{IsTrue}
use Rattle.std.specs.List.{list_all}
use Rattle.std.proofs.lemmas.Bool.{and_parts}
use Rattle.ve_theory.specs.Validity.{is_name}
use Rattle.ve_formats.specs.Tokens as defined
use Rattle.ve_formats.specs.Tokens.{spelling, placed_at, is_number, is_separator, Begins, with_name, with_number, with_symbol, Lexes, past_separator, past_token, FailsToLex, behind_separator, behind_token}
use Rattle.ve_lex.specs.declared.token.Token.{Token}
use Rattle.ve_lex.specs.declared.token.LexFault.{LexFault}
use Rattle.ve_lex.specs.declared.token.LexFault.TheVariants.{BadByte, LongNumber, Memory}
use Rattle.ve_lex.specs.Lexed.{token_of, HasItsValue, IsFaultOf, StandsFirst, GoesOn}
use Rattle.ve_lex.specs.Runs.{IsRun}

-- a token's bytes stand in front of the rest, and there is one at least
begins-spelling : {text rest : List ℕ} {token : defined.Token} → Begins text token rest → (text ≡ spelling token ++ rest) × (0 < length (spelling token))
unfolding is_name
begins-spelling (with_name {run = []} split is stops) = absurd (cc)
begins-spelling (with_name {run = b ∷ run} split is stops) = (split, omega arith)
begins-spelling (with_number {run = []} split is short stops) = absurd (cc)
begins-spelling (with_number {run = b ∷ run} split is short stops) = (split, omega arith)
begins-spelling (with_symbol split is) = (split, omega arith)

pub length-begins : {text rest : List ℕ} {token : defined.Token} → Begins text token rest → (length text ≡ length (spelling token) + length rest) × (length rest < length text)
length-begins {rest} {token} begins =
    let front = begins-spelling begins in
    let sizes : length _ ≡ length (spelling token) + length rest = ap length front.0 ∙ length-append (spelling token) rest in
    (sizes, omega (arith, sizes, front.1))

-- what lies behind separators is what the text has
lexes_behind : (run rest : List ℕ) (at : ℕ) (tokens : List defined.Placed) → IsTrue (list_all is_separator run) → Lexes (at + length run) rest tokens → Lexes at (run ++ rest) tokens
lexes_behind [] rest at tokens all lexes = subst (λ n. Lexes n rest tokens) (omega arith) lexes
lexes_behind (b ∷ run) rest at tokens all lexes =
    let parts = and_parts _ _ all in
    past_separator refl parts.0 (lexes_behind run rest (at + 1) tokens parts.1 (subst (λ n. Lexes n rest tokens) (omega arith) lexes))

fails_behind : (run rest : List ℕ) (at : ℕ) (fault : defined.Fault) → IsTrue (list_all is_separator run) → FailsToLex (at + length run) rest fault → FailsToLex at (run ++ rest) fault
fails_behind [] rest at fault all fails = subst (λ n. FailsToLex n rest fault) (omega arith) fails
fails_behind (b ∷ run) rest at fault all fails =
    let parts = and_parts _ _ all in
    behind_separator refl parts.0 (fails_behind run rest (at + 1) fault parts.1 (subst (λ n. FailsToLex n rest fault) (omega arith) fails))

module _ (at : ℕ) (text run rest : List ℕ) (cut : IsRun is_separator text run rest) where
  pub lexes_through : (tokens : List defined.Placed) → Lexes (at + length run) rest tokens → Lexes at text tokens
  lexes_through tokens lexes = subst (λ t. Lexes at t tokens) (sym cut.split) (lexes_behind run rest at tokens cut.all lexes)

  fails_through : (fault : defined.Fault) → FailsToLex (at + length run) rest fault → FailsToLex at text fault
  fails_through fault fails = subst (λ t. FailsToLex at t fault) (sym cut.split) (fails_behind run rest at fault cut.all fails)

  pub fault_through : (fault : LexFault) → IsFaultOf (at + length run) rest fault → IsFaultOf at text fault
  fault_through (BadByte place) fails = fails_through _ fails
  fault_through (LongNumber place) fails = fails_through _ fails
  fault_through Memory fails = fails

  -- the token behind the separators stands first
  module _ (token : Token) (behind : List ℕ) (begins : Begins rest (token_of token) behind) (value : HasItsValue token) where
    size : length rest - length behind ≡ length (spelling (token_of token))
    size = omega (arith, (length-begins begins).0)

    pub stands_first : StandsFirst at text (record { token = token; start = at + length run; end = at + length run + (length rest - length behind) }) behind
    stands_first = record {
      separators = run;
      body = rest;
      split = cut.split;
      separate = cut.all;
      begins = begins;
      value = value;
      place = λ i. record { token = token_of token; start = at + length run; end = at + length run + size i };
    }

    pub goes_on : GoesOn at text (record { token = token; start = at + length run; end = at + length run + (length rest - length behind) }) behind
    goes_on =
        let start = at + length run in
        let sizes = length-begins begins in
        let whole : length text ≡ length run + length rest = ap length cut.split ∙ length-append run rest in
        record {
          tokens = λ tokens lexes. lexes_through _ (subst (λ n. Lexes start rest (record { token = token_of token; start = start; end = start + n } ∷ tokens)) (sym size) (past_token begins (subst (λ n. Lexes (start + n) behind tokens) size lexes)));
          fault = λ fault fails. fails_through fault (behind_token begins (subst (λ n. FailsToLex (start + n) behind fault) size fails));
          shorter = omega (arith, sizes.1, whole);
          room = omega (arith, sizes.1, whole);
        }
