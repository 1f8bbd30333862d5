use Rattle.std.proofs.Common.{◌≡◌, ℕ, ◌++◌, List, length, map, All}
use Rattle.ve_formats.specs.Lines.{each_after_space}
use Rattle.ve_formats.specs.Pieces.{IsCutBy, Lacks}
use Rattle.ve_answers.proofs.words.pieces.Given as goal

-- the pieces so far and what is left are the text, and what is left begins with a space where the text is one of pieces
abbrev pub invariant-loop-piece : goal.invariant-loop-piece
invariant-loop-piece l = record {
  text : l.text ≡ each_after_space (map (λ piece. piece.now) l.pieces.items) ++ l.rest;
  lack : All (Lacks 32) (map (λ piece. piece.now) l.pieces.items);
  begins : (xs : List (List ℕ)) → l.text ≡ each_after_space xs → IsCutBy 32 l.rest;
}

abbrev pub decreases-loop-piece : goal.decreases-loop-piece
decreases-loop-piece l = length l.rest
