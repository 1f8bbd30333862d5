use Rattle.std.proofs.Common.{◌∙◌, arith}
use Rattle.ve_trace.proofs.Rows.{has_row}
use Rattle.ve_trace.proofs.Spreading.{dense_none, dense_more}
use Rattle.ve_trace.proofs.sums.sum_over_span.Goals as goal

pub loop-at-init : goal.loop-at-init
loop-at-init g c = (
  c.in_ok-sum.ensures.low,
  c.in_ok-sum.ensures.high,
  dense_none c.args.field.now (g.R.Rows.rows c.args.rows.now) c.args.vector.now _ c.args.letter c.args.from (c.in_ok-sum.ensures.zero c.args.field.now),
)

pub row_at-requires : goal.row_at-requires
row_at-requires g c =
    has_row (g.R.Rows.rows c.args.rows.now) c.args.vector.now c.args.letter _ _ _ c.requires.found c.term-term.ensures

pub loop-at-preserved : goal.loop-at-preserved
loop-at-preserved g c = (
  c.add_scaled.ensures.low ∙ c.loop-at.invariant.0,
  c.add_scaled.ensures.high ∙ c.loop-at.invariant.1,
  dense_more c.args.field.now (g.R.Rows.rows c.args.rows.now) c.args.vector.now c.loop-at.sum.total c.row_at.result.now c.add_scaled.new.self.total c.args.letter c.args.from c.loop-at.at
      c.term-term.result.id c.term-term.result.coef (omega arith) c.term-term.ensures c.row_at.ensures c.loop-at.invariant.2 c.add_scaled.ensures.sum,
)
