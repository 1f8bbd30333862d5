use Rattle.std.proofs.Common.{arith}
use Rattle.ve_turn.proofs.Passes.{settles}
use Rattle.ve_turn.proofs.steps.settle.Goals as goal

pub load-requires : goal.load-requires
load-requires g c = let at = c.requires.table in let words = at.1 in let m = c.requires.meeting in
    (at.0, omega arith, settles g.T.Journaled c.args.shared.now.key.seats c.args.shared.now.table_id.slots c.args.token.now.id m.0 c.args.token.now.me m.1 m.2)
