-- Where a text is cut behind its first line.
use Rattle.std.specs.Prelude.{◌≡◌, ◌⊎◌, List, ℕ, [], ◌∷◌, ◌++◌}
use Rattle.ve_formats.specs.Lines.{line_feed}

-- the text is the line and the rest, with a line feed between them unless the rest is empty
abbrev pub IsCutAt : List ℕ → List ℕ → List ℕ → Type 0
IsCutAt text line rest = (text ≡ line ++ line_feed ∷ rest) ⊎ ((text ≡ line) × (rest ≡ []))
