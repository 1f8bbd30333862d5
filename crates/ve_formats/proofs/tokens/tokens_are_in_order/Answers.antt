use Rattle.std.proofs.Common.{[], refl, arith}
use Rattle.ve_formats.proofs.Places.{in_order}
use Rattle.ve_formats.proofs.tokens.tokens_are_in_order.Goals as goal

pub returns : goal.returns
returns c = λ line tokens lexes. in_order lexes [] line 0 refl refl (omega arith)
