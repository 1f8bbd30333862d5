-- Expressions of the module: how tokens make them.
use Rattle.std.specs.Prelude.{◌≡◌, ℕ, List, [], ◌∷◌, ◌++◌, Option, Some, None}
use Rattle.ve_formats.specs.Tokens.{Token, name, number, number_value}
use Rattle.ve_formats.specs.Expressions.{Expression, Spell, factor, plus_sign, minus_sign, times_sign}

pub data ModuleExpression : Type 0 where
  nothing : ModuleExpression
  -- a number, where one stands before it, times a generator's name
  generator : Option ℕ → List ℕ → ModuleExpression
  product : ModuleExpression → Expression → ModuleExpression
  opposite : ModuleExpression → ModuleExpression
  sum : ModuleExpression → ModuleExpression → ModuleExpression
  difference : ModuleExpression → ModuleExpression → ModuleExpression

-- a generator times factors, a term, or a whole expression
pub data ModuleRank : Type 0 where
  generated : ModuleRank
  term : ModuleRank
  whole : ModuleRank

-- The tokens are an expression of the module. The number 0 stands alone.
pub data ModuleSpell : ModuleRank → List Token → ModuleExpression → Type 0 where
  a_generator : (e : List ℕ) → ModuleSpell generated (name e ∷ []) (generator None e)
  scaled : (digits e : List ℕ) → ModuleSpell generated (number digits ∷ times_sign ∷ name e ∷ []) (generator (Some (number_value digits)) e)
  multiplied : {front back all : List Token} {d : ModuleExpression} {e : Expression} → ModuleSpell generated front d → Spell factor back e
      → all ≡ front ++ times_sign ∷ back → ModuleSpell generated all (product d e)
  a_zero : (digits : List ℕ) → number_value digits ≡ 0 → ModuleSpell term (number digits ∷ []) nothing
  a_term : {tokens : List Token} {e : ModuleExpression} → ModuleSpell generated tokens e → ModuleSpell term tokens e
  first_term : {tokens : List Token} {e : ModuleExpression} → ModuleSpell term tokens e → ModuleSpell whole tokens e
  with_plus : {tokens : List Token} {e : ModuleExpression} → ModuleSpell term tokens e → ModuleSpell whole (plus_sign ∷ tokens) e
  with_minus : {tokens : List Token} {e : ModuleExpression} → ModuleSpell term tokens e → ModuleSpell whole (minus_sign ∷ tokens) (opposite e)
  added : {front back all : List Token} {d e : ModuleExpression} → ModuleSpell whole front d → ModuleSpell term back e → all ≡ front ++ plus_sign ∷ back
      → ModuleSpell whole all (sum d e)
  subtracted : {front back all : List Token} {d e : ModuleExpression} → ModuleSpell whole front d → ModuleSpell term back e → all ≡ front ++ minus_sign ∷ back
      → ModuleSpell whole all (difference d e)
