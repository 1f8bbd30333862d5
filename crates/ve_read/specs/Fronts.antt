-- What stands at the front of the tokens of a line.
use Rattle.std.specs.Prelude.{◌≡◌, ℕ, List, ◌∷◌, Some}
use Rattle.ve_formats.specs.Tokens.{Token, name, number, number_value}
use Rattle.ve_formats.specs.LineReading.{Taken}
use Rattle.ve_lex.specs.declared.token.Placed.{Placed}
use Rattle.ve_value.specs.Shapes.{AreWritten, tokens_in}

-- a number, and the tokens behind it
pub record IsNumberIn (tokens : List Token) (value : ℕ) (behind : List Placed) : Type 0 where
  pub digits : List ℕ
  pub front : tokens ≡ number digits ∷ tokens_in behind
  pub value_of_digits : value ≡ number_value digits
  pub written : AreWritten behind

abbrev pub HasNoNumber : List Token → Type 0
HasNoNumber tokens = (digits : List ℕ) (behind : List Token) → ¬ (tokens ≡ number digits ∷ behind)

-- a word, and the tokens behind it
pub record IsWordIn (word : List ℕ) (tokens : List Token) (behind : List Placed) : Type 0 where
  pub front : tokens ≡ name word ∷ tokens_in behind
  pub written : AreWritten behind

abbrev pub HasNoWord : List ℕ → List Token → Type 0
HasNoWord word tokens = (behind : List Token) → ¬ (tokens ≡ name word ∷ behind)

-- the letter x is declared with this weight, before these tokens
pub record IsWeightIn (x : List ℕ) (taken : Taken) (weight : ℕ) (behind : List Placed) : Type 0 where
  pub is : taken ≡ record { declared = record { called = x; weight = Some weight }; behind = tokens_in behind }
  pub written : AreWritten behind
