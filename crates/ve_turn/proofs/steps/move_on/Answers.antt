use Rattle.std.proofs.Common.{arith}
use Rattle.ve_turn.proofs.Turns.{moves_on}
use Rattle.ve_turn.proofs.steps.move_on.Goals as goal

pub fetch_add-served-requires : goal.fetch_add-served-requires
fetch_add-served-requires g c = let at = c.requires.table in let words = at.1 in let k = c.requires.moves.0 in let met = c.requires.moves.1 in let x = c.requires.moves.2 in
    (at.0, omega arith, moves_on g.T.Journaled c.args.shared.now.key.seats c.args.shared.now.table_id.slots c.args.token.now.id met x c.args.token.now.me k (g.met.T.Journaled.goes_on k.seat met x c.requires.moves.4) c.requires.moves.3)
