-- The tokens of a line: names, numbers and symbols. Places are counted in bytes from 0.
use Rattle.std.specs.Prelude.{◌≡◌, ℕ, ◌+◌, ◌-◌, ◌*◌, ◌^◌, ◌<◌, ◌≤◌, Bool, false, ◌&&◌, ◌||◌, nat_eq, codes, List, [], ◌∷◌, ◌++◌, length, slice_range, IsTrue, IsFalse}
use Rattle.std.specs.List.{list_all, list_any}
use Rattle.ve_theory.specs.Validity.{is_name_letter, is_digit, is_name}

-- a name with its bytes, a number with its digits, a symbol with its byte
pub data Token : Type 0 where
  name : List ℕ → Token
  number : List ℕ → Token
  symbol : ℕ → Token

-- the bytes that a token is written with
abbrev pub spelling : Token → List ℕ
spelling (name bytes) = bytes
spelling (number digits) = digits
spelling (symbol b) = b ∷ []

-- a token, the place of its first byte, and the place behind its last
pub record Placed : Type 0 where
  pub token : Token
  pub start : ℕ
  pub end : ℕ

-- a token that starts at a place
abbrev pub placed_at : ℕ → Token → Placed
placed_at at token = record { token = token; start = at; end = at + length (spelling token) }

-- a byte that begins nothing, and the first digit of a number that is too long, by their places
pub data Fault : Type 0 where
  bad_byte : ℕ → Fault
  long_number : ℕ → Fault

-- the number that digits stand for
abbrev pub number_value : List ℕ → ℕ
number_value [] = 0
number_value (d ∷ ds) = (d - 48) * 10 ^ length ds + number_value ds

abbrev pub most_digits : ℕ
most_digits = 18

-- the byte that opens a comment
abbrev pub comment_sign : ℕ
comment_sign = 35

-- a space, a tab or a carriage return
abbrev pub is_separator : ℕ → Bool
is_separator b = nat_eq b 32 || nat_eq b 9 || nat_eq b 13

abbrev pub is_symbol : ℕ → Bool
is_symbol b = list_any (nat_eq b) (codes "+-*^()=")

-- a number: one digit or more
abbrev pub is_number : List ℕ → Bool
is_number [] = false
is_number (d ∷ ds) = is_digit d && list_all is_digit ds

-- what a name has behind its first letter
abbrev pub is_name_part : ℕ → Bool
is_name_part b = is_name_letter b || is_digit b

-- a byte that a token, a separator or a comment begins with
abbrev pub is_beginning : ℕ → Bool
is_beginning b = is_name_part b || is_separator b || is_symbol b || nat_eq b comment_sign

-- the text is empty, or its first byte is of another kind
abbrev pub StartsWithout : (ℕ → Bool) → List ℕ → Type 0
StartsWithout belongs [] = Unit {0}
StartsWithout belongs (b ∷ text) = IsFalse (belongs b)

-- the text is this token, whole, and then the rest
pub data Begins : List ℕ → Token → List ℕ → Type 0 where
  with_name : {text run rest : List ℕ} → text ≡ run ++ rest → IsTrue (is_name run) → StartsWithout is_name_part rest → Begins text (name run) rest
  with_number : {text run rest : List ℕ} → text ≡ run ++ rest → IsTrue (is_number run) → length run ≤ most_digits → StartsWithout is_digit rest → Begins text (number run) rest
  with_symbol : {text rest : List ℕ} {b : ℕ} → text ≡ b ∷ rest → IsTrue (is_symbol b) → Begins text (symbol b) rest

-- the tokens of a text whose first byte stands at a place
pub data Lexes : ℕ → List ℕ → List Placed → Type 0 where
  at_end : {at : ℕ} → Lexes at [] []
  at_comment : {at : ℕ} {text rest : List ℕ} → text ≡ comment_sign ∷ rest → Lexes at text []
  past_separator : {at b : ℕ} {text rest : List ℕ} {tokens : List Placed} → text ≡ b ∷ rest → IsTrue (is_separator b) → Lexes (at + 1) rest tokens → Lexes at text tokens
  past_token : {at : ℕ} {text rest : List ℕ} {token : Token} {tokens : List Placed} → Begins text token rest → Lexes (at + length (spelling token)) rest tokens → Lexes at text (placed_at at token ∷ tokens)

-- the first fault of a text whose first byte stands at a place
pub data FailsToLex : ℕ → List ℕ → Fault → Type 0 where
  at_bad_byte : {at b : ℕ} {text rest : List ℕ} → text ≡ b ∷ rest → IsFalse (is_beginning b) → FailsToLex at text (bad_byte at)
  at_long_number : {at : ℕ} {text : List ℕ} (run rest : List ℕ) → text ≡ run ++ rest → IsTrue (is_number run) → most_digits < length run → FailsToLex at text (long_number at)
  behind_separator : {at b : ℕ} {text rest : List ℕ} {fault : Fault} → text ≡ b ∷ rest → IsTrue (is_separator b) → FailsToLex (at + 1) rest fault → FailsToLex at text fault
  behind_token : {at : ℕ} {text rest : List ℕ} {token : Token} {fault : Fault} → Begins text token rest → FailsToLex (at + length (spelling token)) rest fault → FailsToLex at text fault

-- a token stands in a line where its place says
pub record StandsIn (line : List ℕ) (placed : Placed) : Type 0 where
  pub some : placed.start < placed.end
  pub within : placed.end ≤ length line
  pub bytes : slice_range line placed.start placed.end ≡ spelling placed.token

-- tokens stand in a line in this order, from a place on
abbrev pub AreInOrder : List ℕ → ℕ → List Placed → Type 0
AreInOrder line from [] = Unit {0}
AreInOrder line from (placed ∷ later) = (from ≤ placed.start) × StandsIn line placed × AreInOrder line placed.end later
