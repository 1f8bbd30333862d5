use Rattle.std.proofs.Common.{arith}
use Rattle.ve_trace.proofs.Spreading.{one_more_between}
use Rattle.ve_trace.proofs.spread.spread_of_rows.Goals as goal

pub loop-at-preserved : goal.loop-at-preserved
loop-at-preserved g c = λ p reduced.
    one_more_between (g.R.Rows.rows c.args.rows.now) c.args.vector.now c.row_at.result.now c.args.letter c.args.from c.loop-at.at c.term.result.id c.term.result.coef
    c.loop-at.spread.low c.loop-at.spread.high c.take_in.new.self.low c.take_in.new.self.high c.term.ensures c.row_at.ensures c.take_in.ensures.low c.take_in.ensures.high
    (c.take_in.ensures.between p (reduced c.term.result.id c.args.letter c.row_at.result.now c.row_at.ensures)) (c.loop-at.invariant p reduced)

pub returns : goal.returns
returns g c = λ p reduced at b coef row above below is known.
    c.loop-at.invariant p reduced at b coef row above (omega (arith, below, c.loop-at-test.false)) is known
