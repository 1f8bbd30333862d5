use Rattle.std.proofs.Common.{arith}
use Rattle.std.proofs.lemmas.List.Sums.{prefix_len-le-length}
use Rattle.ve_answers.proofs.Pieces.{is_within, is_cut_off}
use Rattle.ve_answers.proofs.words.next_piece.Goals as goal

pub split_at-requires : goal.split_at-requires
split_at-requires c = omega (arith, prefix_len-le-length is_within c.in_ok-behind.behind.now, c.length_to_space.ensures)

pub returns : goal.returns
returns c = is_cut_off _ _ _ _ _ c.in_ok-behind.ensures c.length_to_space.ensures c.split_at.ensures.front c.split_at.ensures.back
