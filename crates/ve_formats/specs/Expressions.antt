-- Expressions: how tokens make them. Numbers stand for their values, names for themselves.
use Rattle.std.specs.Prelude.{◌≡◌, ℕ, List, [], ◌∷◌, ◌++◌}
use Rattle.ve_formats.specs.Tokens.{Token, name, number, symbol, number_value}

abbrev pub plus_sign : Token
plus_sign = symbol 43

abbrev pub minus_sign : Token
minus_sign = symbol 45

abbrev pub times_sign : Token
times_sign = symbol 42

abbrev pub power_sign : Token
power_sign = symbol 94

abbrev pub open_sign : Token
open_sign = symbol 40

abbrev pub close_sign : Token
close_sign = symbol 41

abbrev pub equals_sign : Token
equals_sign = symbol 61

-- expressions of the algebra
pub data Expression : Type 0 where
  constant : ℕ → Expression
  letter : List ℕ → Expression
  -- in parentheses
  grouped : Expression → Expression
  power : Expression → ℕ → Expression
  inverse_power : Expression → ℕ → Expression
  product : Expression → Expression → Expression
  opposite : Expression → Expression
  sum : Expression → Expression → Expression
  difference : Expression → Expression → Expression

-- an atom, a factor, a term, or a whole expression
pub data Rank : Type 0 where
  atom : Rank
  factor : Rank
  term : Rank
  whole : Rank

-- The tokens are an expression of a rank. Products, sums and differences group to the left.
pub data Spell : Rank → List Token → Expression → Type 0 where
  a_number : (digits : List ℕ) → Spell atom (number digits ∷ []) (constant (number_value digits))
  a_name : (x : List ℕ) → Spell atom (name x ∷ []) (letter x)
  in_parentheses : {tokens all : List Token} {e : Expression} → Spell whole tokens e → all ≡ (open_sign ∷ tokens) ++ close_sign ∷ [] → Spell atom all (grouped e)
  a_factor : {tokens : List Token} {e : Expression} → Spell atom tokens e → Spell factor tokens e
  raised : {tokens all : List Token} {e : Expression} (digits : List ℕ) → Spell atom tokens e → all ≡ tokens ++ power_sign ∷ number digits ∷ []
      → Spell factor all (power e (number_value digits))
  raised_inverse : {tokens all : List Token} {e : Expression} (digits : List ℕ) → Spell atom tokens e → all ≡ tokens ++ power_sign ∷ minus_sign ∷ number digits ∷ []
      → Spell factor all (inverse_power e (number_value digits))
  a_term : {tokens : List Token} {e : Expression} → Spell factor tokens e → Spell term tokens e
  multiplied : {front back all : List Token} {d e : Expression} → Spell term front d → Spell factor back e → all ≡ front ++ times_sign ∷ back → Spell term all (product d e)
  first_term : {tokens : List Token} {e : Expression} → Spell term tokens e → Spell whole tokens e
  with_plus : {tokens : List Token} {e : Expression} → Spell term tokens e → Spell whole (plus_sign ∷ tokens) e
  with_minus : {tokens : List Token} {e : Expression} → Spell term tokens e → Spell whole (minus_sign ∷ tokens) (opposite e)
  added : {front back all : List Token} {d e : Expression} → Spell whole front d → Spell term back e → all ≡ front ++ plus_sign ∷ back → Spell whole all (sum d e)
  subtracted : {front back all : List Token} {d e : Expression} → Spell whole front d → Spell term back e → all ≡ front ++ minus_sign ∷ back
      → Spell whole all (difference d e)
