-- The lines of a text that was put together from lines.
use Rattle.std.proofs.Common.{◌≡◌, ℕ, not, List, [], ◌∷◌, ◌++◌, refl, ap, ◌∙◌, All}
use Rattle.std.specs.Prelude.{nat_eq, IsTrue}
use Rattle.std.specs.List.{list_all}
use Rattle.std.proofs.lemmas.Bool.{and_parts, cond-false, not-true}
use Rattle.std.proofs.lemmas.List.Elements.{All-head, All-tail}
use Rattle.ve_formats.specs.Lines.{lines_of, onto_first_line, text_of_lines, line_feed}

-- no line feed stands in it
abbrev IsOneLine : List ℕ → Type 0
IsOneLine line = IsTrue (list_all (λ b. not (nat_eq b line_feed)) line)

-- a line and its line feed come first
lines_of-append : (line text : List ℕ) → IsOneLine line → lines_of (line ++ line_feed ∷ text) ≡ line ∷ lines_of text
unfolding lines_of onto_first_line
lines_of-append [] text one = refl
lines_of-append (b ∷ line) text one =
    let parts = and_parts _ _ one in
    cond-false _ _ _ (not-true _ parts.0) ∙ ap (onto_first_line b) (lines_of-append line text parts.1)

pub lines_of-text_of_lines : (lines : List (List ℕ)) → All IsOneLine lines → lines_of (text_of_lines lines) ≡ lines
unfolding lines_of text_of_lines
lines_of-text_of_lines [] each = refl
lines_of-text_of_lines (line ∷ lines) each =
    lines_of-append line (text_of_lines lines) (All-head IsOneLine line lines each)
    ∙ ap (λ more. line ∷ more) (lines_of-text_of_lines lines (All-tail IsOneLine line lines each))
