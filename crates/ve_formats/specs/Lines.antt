-- Texts and their lines, in bytes.
use Rattle.std.specs.Prelude.{◌≡◌, ℕ, zero, suc, ◌+◌, List, [], ◌∷◌, ◌++◌, nat_eq, cond, refl}
use Rattle.std.proofs.Common.{sym, ap, append_assoc, append-nil, add-one}

-- the byte that ends a line
abbrev pub line_feed : ℕ
line_feed = 10

-- b before the first line
unfoldable pub onto_first_line : ℕ → List (List ℕ) → List (List ℕ)
onto_first_line b [] = (b ∷ []) ∷ []
onto_first_line b (line ∷ lines) = (b ∷ line) ∷ lines

-- The lines of a text, without their line feeds. What follows the last line feed is a line where it isn't empty.
unfoldable pub lines_of : List ℕ → List (List ℕ)
lines_of [] = []
lines_of (b ∷ text) = cond (nat_eq b line_feed) ([] ∷ lines_of text) (onto_first_line b (lines_of text))

-- the text of these lines, each with its line feed
unfoldable pub text_of_lines : List (List ℕ) → List ℕ
text_of_lines [] = []
text_of_lines (line ∷ lines) = line ++ line_feed ∷ text_of_lines lines

-- one line with its line feed
abbrev pub line_text : List ℕ → List ℕ
line_text line = line ++ line_feed ∷ []

-- the numbers below n, in rising order
unfoldable pub numbers_below : ℕ → List ℕ
numbers_below zero = []
numbers_below (suc n) = numbers_below n ++ n ∷ []

-- the pieces one after another, each after a space
unfoldable pub each_after_space : List (List ℕ) → List ℕ
each_after_space [] = []
each_after_space (piece ∷ pieces) = 32 ∷ piece ++ each_after_space pieces

-- the text of lines, one list after another
pub text_of_lines-append : (xs ys : List (List ℕ)) → text_of_lines (xs ++ ys) ≡ text_of_lines xs ++ text_of_lines ys
unfolding text_of_lines
text_of_lines-append [] ys = refl
text_of_lines-append (line ∷ xs) ys =
    rw (text_of_lines-append xs ys) (sym (append_assoc line (line_feed ∷ text_of_lines xs) (text_of_lines ys)))

pub text_of_lines-one : (line : List ℕ) → text_of_lines (line ∷ []) ≡ line_text line
unfolding text_of_lines
text_of_lines-one line = refl

-- one more number below, and one more piece
pub numbers_below-next : (n : ℕ) → numbers_below (n + 1) ≡ numbers_below n ++ n ∷ []
unfolding numbers_below
numbers_below-next n = rw (add-one n) refl

pub each_after_space-append : (xs ys : List (List ℕ)) → each_after_space (xs ++ ys) ≡ each_after_space xs ++ each_after_space ys
unfolding each_after_space
each_after_space-append [] ys = refl
each_after_space-append (piece ∷ xs) ys =
    rw (each_after_space-append xs ys) (ap (λ t. 32 ∷ t) (sym (append_assoc piece (each_after_space xs) (each_after_space ys))))

pub each_after_space-one : (piece : List ℕ) → each_after_space (piece ∷ []) ≡ 32 ∷ piece
unfolding each_after_space
each_after_space-one piece = ap (λ t. 32 ∷ t) (append-nil piece)
