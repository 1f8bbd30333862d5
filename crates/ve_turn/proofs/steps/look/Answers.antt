use Rattle.std.proofs.Common.{arith}
use Rattle.ve_turn.proofs.Turns.{looks, by_test}
use Rattle.ve_turn.proofs.steps.look.Goals as goal

pub load-requires : goal.load-requires
load-requires g c = let at = c.requires.table in let words = at.1 in
    (at.0, omega arith, looks g.T.Journaled c.args.shared.now.key.seats c.args.shared.now.table_id.slots c.args.token.now.id c.args.ticket c.args.token.now.me c.requires.waits.0 c.requires.waits.1)

pub returns-clause-outcome : goal.returns-clause-outcome
returns-clause-outcome g c = λ k e. let told = c.load.ensures.2 c.args.ticket k e in by_test c.load.result c.args.ticket told.0 told.1
