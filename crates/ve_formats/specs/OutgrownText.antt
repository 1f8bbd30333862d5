-- How it is told that a level is outgrown.
use Rattle.std.specs.Prelude.{ℕ, List, [], ◌∷◌, codes}
use Rattle.ve_formats.specs.Lines.{text_of_lines}
use Rattle.ve_formats.specs.AnswerText.{numbered}

-- the level, its size, and the limit that it is above
unfoldable pub outgrown_lines : (level size limit : ℕ) → List (List ℕ)
outgrown_lines level size limit =
    codes "venum-over 1"
    ∷ numbered (codes "level") level
    ∷ numbered (codes "size") size
    ∷ numbered (codes "limit") limit
    ∷ codes "end"
    ∷ []

unfoldable pub outgrown_text : (level size limit : ℕ) → List ℕ
outgrown_text level size limit = text_of_lines (outgrown_lines level size limit)
