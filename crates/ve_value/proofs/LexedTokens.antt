-- The tokens of a line are written as they should be.
use Rattle.std.proofs.Common.{◌≡◌, ℕ, zero, suc, ◌<◌, List, [], ◌∷◌, map, length, get_or, arith, refl, ap, subst, Vec, Global}
use Rattle.std.specs.Prelude.{IsTrue, All, IfOk, Result, Ok, Err}
use Rattle.ve_theory.specs.Validity.{is_name}
use Rattle.ve_formats.specs.Tokens as defined
use Rattle.ve_formats.specs.Tokens.{name, number, symbol, Begins, with_name, with_number, with_symbol, Lexes, at_end, at_comment, past_separator, past_token}
use Rattle.ve_lex.specs.declared.token.Placed.{Placed}
use Rattle.ve_lex.specs.declared.token.LexFault.{LexFault}
use Rattle.ve_lex.specs.declared.token.Token as lexed
use Rattle.ve_lex.specs.declared.token.Token.TheVariants.{Name, Number, Symbol}
use Rattle.ve_lex.specs.Lexed.{token_of, placed_of, HasItsValue}
use Rattle.ve_value.specs.Shapes.{IsWritten, AreWritten}

-- a name is one
abbrev pub IsNamed : defined.Token → Type 0
IsNamed (name x) = IsTrue (is_name x)
IsNamed (number digits) = Unit {0}
IsNamed (symbol b) = Unit {0}

pub begins_named : {text rest : List ℕ} {t : defined.Token} → Begins text t rest → IsNamed t
begins_named (with_name are named ends) = named
begins_named (with_number are digits short ends) = tt
begins_named (with_symbol are sign) = tt

lexed_named : {at : ℕ} {text : List ℕ} {placed : List defined.Placed} → Lexes at text placed → (k : ℕ) (d : defined.Placed) → k < length placed → IsNamed (get_or placed k d).token
lexed_named at_end k d within = absurd (omega arith)
lexed_named (at_comment are) k d within = absurd (omega arith)
lexed_named (past_separator are separates h) k d within = lexed_named h k d within
lexed_named (past_token begins h) zero d within = begins_named begins
lexed_named (past_token begins h) (suc k) d within = lexed_named h k d (omega arith)

pub written : (t : lexed.Token) → IsNamed (token_of t) → HasItsValue t → IsWritten t
written (Name x) named value = named
written (Number n digits) named value = value
written (Symbol b) named value = tt

placed_at : (tokens : List Placed) (k : ℕ) (d : Placed) → k < length tokens → get_or (map placed_of tokens) k (placed_of d) ≡ placed_of (get_or tokens k d)
placed_at [] k d within = absurd (omega arith)
placed_at (p ∷ tokens) zero d within = refl
placed_at (p ∷ tokens) (suc k) d within = placed_at tokens k d (omega arith)

as_many : (tokens : List Placed) → length (map placed_of tokens) ≡ length tokens
as_many [] = refl
as_many (p ∷ tokens) = ap suc (as_many tokens)

are_written : (at : ℕ) (text : List ℕ) (tokens : List Placed) → Lexes at text (map placed_of tokens) → All (λ placed. HasItsValue placed.token) tokens → AreWritten tokens
are_written at text tokens h values k d within =
    let many = as_many tokens in
    let named = subst (λ (p : defined.Placed). IsNamed p.token) (placed_at tokens k d within) (lexed_named h k (placed_of d) (omega (arith, many))) in
    written (get_or tokens k d).token named (values k d within)

pub lexed_written : (text : List ℕ) (r : Result (Vec Placed Global) LexFault) → IfOk r (λ tokens. Lexes 0 text (map placed_of tokens.items)) → IfOk r (λ tokens. All (λ placed. HasItsValue placed.token) tokens.items)
    → IfOk r (λ tokens. AreWritten tokens.items)
lexed_written text (Ok tokens) h values = are_written 0 text tokens.items h values
lexed_written text (Err fault) h values = h
