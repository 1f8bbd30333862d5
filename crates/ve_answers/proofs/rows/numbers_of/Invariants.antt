use Rattle.std.proofs.Common.{◌≡◌, ◌<◌, map, take, All}
use Rattle.std.specs.Prelude.{decimal}
use Rattle.ve_answers.proofs.rows.numbers_of.Given as goal

abbrev pub invariant-loop-piece : goal.invariant-loop-piece
invariant-loop-piece l = record {
  below : All (λ n. n < l.limit) l.numbers.items;
  text : map (λ piece. piece.now) (take l.piece-index l.pieces) ≡ map decimal l.numbers.items;
}
