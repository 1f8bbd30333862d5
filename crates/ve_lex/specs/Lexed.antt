-- What the values of the lexer say of a line.
use Rattle.std.specs.Prelude.{◌≡◌, ℕ, ◌+◌, ◌<◌, List, [], ◌∷◌, ◌++◌, length, Option, Some, None, IsTrue}
use Rattle.std.specs.List.{list_all}
use Rattle.std.specs.Borrow.{Bor}
use Rattle.ve_formats.specs.Tokens as defined
use Rattle.ve_formats.specs.Tokens.{name, number, symbol, number_value, bad_byte, long_number, is_separator, placed_at, Begins, Lexes, FailsToLex}
use Rattle.ve_lex.specs.declared.token.Token.{Token}
use Rattle.ve_lex.specs.declared.token.Token.TheVariants.{Name, Number, Symbol}
use Rattle.ve_lex.specs.declared.token.Placed.{Placed}
use Rattle.ve_lex.specs.declared.token.LexFault.{LexFault}
use Rattle.ve_lex.specs.declared.token.LexFault.TheVariants.{BadByte, LongNumber, Memory}

abbrev pub token_of : Token → defined.Token
token_of (Name bytes) = name bytes.now
token_of (Number value digits) = number digits.now
token_of (Symbol b) = symbol b

abbrev pub placed_of : Placed → defined.Placed
placed_of placed = record { token = token_of placed.token; start = placed.start; end = placed.end }

-- a number has the value of its digits
abbrev pub HasItsValue : Token → Type 0
HasItsValue (Name bytes) = Unit {0}
HasItsValue (Number value digits) = value ≡ number_value digits.now
HasItsValue (Symbol b) = Unit {0}

-- the first fault of a text
abbrev pub IsFaultOf : ℕ → List ℕ → LexFault → Type 0
IsFaultOf at text (BadByte place) = FailsToLex at text (bad_byte place)
IsFaultOf at text (LongNumber place) = FailsToLex at text (long_number place)
IsFaultOf at text Memory = ⊥

-- the token that a text begins with and what is behind it, or nothing where no token is left
abbrev pub IsFrontOf : ℕ → List ℕ → Option (Token × Bor (List ℕ)) → Type 0
IsFrontOf at text None = Lexes at text []
IsFrontOf at text (Some (token, rest)) = Begins text (token_of token) rest.now × HasItsValue token

-- a text is separators, then this token, whole and at its place, then the rest
pub record StandsFirst (at : ℕ) (text : List ℕ) (placed : Placed) (rest : List ℕ) : Type 0 where
  pub separators : List ℕ
  pub body : List ℕ
  pub split : text ≡ separators ++ body
  pub separate : IsTrue (list_all is_separator separators)
  pub begins : Begins body (token_of placed.token) rest
  pub value : HasItsValue placed.token
  pub place : placed_of placed ≡ placed_at (at + length separators) (token_of placed.token)

-- the tokens of a text go on with those of the rest behind its first token, and so does its fault
pub record GoesOn (at : ℕ) (text : List ℕ) (placed : Placed) (rest : List ℕ) : Type 0 where
  pub tokens : (tokens : List defined.Placed) → Lexes placed.end rest tokens → Lexes at text (placed_of placed ∷ tokens)
  pub fault : (fault : defined.Fault) → FailsToLex placed.end rest fault → FailsToLex at text fault
  pub shorter : length rest < length text
  pub room : placed.end + length rest ≡ at + length text

-- the first token of a text and what is behind it, or nothing where there is none
abbrev pub IsNextOf : ℕ → List ℕ → Option (Placed × Bor (List ℕ)) → Type 0
IsNextOf at text None = Lexes at text []
IsNextOf at text (Some (placed, rest)) = StandsFirst at text placed rest.now × GoesOn at text placed rest.now
