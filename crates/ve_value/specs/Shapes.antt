-- What matters of the front of an expression for whether it can go on.
use Rattle.std.specs.Prelude.{◌≡◌, List, length, map, Option, Some, None, All, IsTrue}
use Rattle.ve_theory.specs.Validity.{is_name}
use Rattle.ve_formats.specs.Tokens.{Token, number_value}
use Rattle.ve_formats.specs.Reading.{Reading, wanted, stands, raising, inverting, Reader, stuck, reading}
use Rattle.ve_lex.specs.declared.token.Placed.{Placed}
use Rattle.ve_lex.specs.Lexed.{token_of}
use Rattle.ve_lex.specs.declared.token.Token as lexed
use Rattle.ve_lex.specs.declared.token.Token.TheVariants.{Name, Number, Symbol}
use Rattle.ve_value.specs.declared.shape.Place.{Place}
use Rattle.ve_value.specs.declared.shape.Place.TheVariants.{Wanted, Standing, Raising, Inverting}
use Rattle.ve_value.specs.declared.shape.Shape.{Shape}

-- the tokens that values of the lexer stand for
abbrev pub tokens_in : List Placed → List Token
tokens_in tokens = map (λ placed. token_of placed.token) tokens

-- a token as the lexer gives it: a name is one, and a number has the value of its digits
abbrev pub IsWritten : lexed.Token → Type 0
IsWritten (Name bytes) = IsTrue (is_name bytes.now)
IsWritten (Number value digits) = value ≡ number_value digits.now
IsWritten (Symbol b) = Unit {0}

abbrev pub AreWritten : List Placed → Type 0
AreWritten tokens = All (λ placed. IsWritten placed.token) tokens

abbrev pub place_of : Reading → Place
place_of (wanted signed) = Wanted signed
place_of (stands raisable e) = Standing raisable
place_of (raising e) = Raising
place_of (inverting e) = Inverting

-- the reader has this shape; none where it is stuck
abbrev pub shape_of : Reader → Option Shape
shape_of stuck = None
shape_of (reading stack frame state) = Some (record { depth = length stack; place = place_of state })
