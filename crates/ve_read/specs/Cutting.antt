-- Where a text is cut behind its line `end`.
use Rattle.std.specs.Prelude.{◌≡◌, ℕ, ◌⊎◌, List, [], ◌∷◌, ◌++◌, length, take, drop, codes, All}
use Rattle.ve_formats.specs.Lines.{lines_of}
use Rattle.ve_formats.specs.Tokens.{Placed, name, Lexes}

-- the line has no fault of tokens, and its only token is the name `end`
pub record IsEndLine (line : List ℕ) : Type 0 where
  pub placed : Placed
  pub lexes : Lexes 0 line (placed ∷ [])
  pub word : placed.token ≡ name (codes "end")

-- the text is some lines that are no such line, then one that is, and from the place on the others
pub record IsBehindEnd (text : List ℕ) (at : ℕ) : Type 0 where
  pub front : List (List ℕ)
  pub last : List ℕ
  pub before : lines_of (take at text) ≡ front ++ last ∷ []
  pub whole : lines_of text ≡ (front ++ last ∷ []) ++ lines_of (drop at text)
  pub first : All (λ line. ¬ IsEndLine line) front
  pub is_end : IsEndLine last

-- the place behind the first line `end`, or the end of a text that has none
abbrev pub IsSplitAt : List ℕ → ℕ → Type 0
IsSplitAt text at = IsBehindEnd text at ⊎ ((at ≡ length text) × All (λ line. ¬ IsEndLine line) (lines_of text))
