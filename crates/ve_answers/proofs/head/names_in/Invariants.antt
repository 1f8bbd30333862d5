use Rattle.std.proofs.Common.{◌≡◌, map, take}
use Rattle.ve_formats.specs.AnswerReading.{AreNames}
use Rattle.ve_answers.proofs.head.names_in.Given as goal

abbrev pub invariant-loop-piece : goal.invariant-loop-piece
invariant-loop-piece l = record {
  names : l.names ≡ map (λ piece. piece.now) (take l.piece-index l.pieces);
  are : AreNames l.names;
}
