use Rattle.std.proofs.Common.{arith}
use Rattle.ve_trace.proofs.Spreading.{between_ends}
use Rattle.ve_trace.proofs.spread.Spread.take_in.Goals as goal

pub returns-clause-between : goal.returns-clause-between
returns-clause-between c = λ p reduced.
    between_ends p c.min-self.result c.max-self.result c.term-last.result.id c.in-Some.first.id c.term-last.result.coef c.len.result c.args.row.now reduced
    c.len.ensures c.term-last.ensures c.in-Some.ensures.greatest (omega (arith, c.min-self.ensures)) (omega (arith, c.max-self.ensures))
