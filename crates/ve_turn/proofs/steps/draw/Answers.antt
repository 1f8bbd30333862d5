use Rattle.std.proofs.Common.{arith}
use Rattle.ve_turn.proofs.Turns.{draws}
use Rattle.ve_turn.proofs.steps.draw.Goals as goal

pub fetch_add-requires : goal.fetch_add-requires
fetch_add-requires g c = let at = c.requires.table in let words = at.1 in
    (at.0, omega arith, draws g.T.Journaled c.args.shared.now.key.seats c.args.shared.now.table_id.slots c.args.token.now.id c.args.token.now.me c.requires.outside.0 c.requires.outside.1)
