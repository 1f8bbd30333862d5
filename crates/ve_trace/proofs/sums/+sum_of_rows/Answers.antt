use Rattle.std.proofs.Common.{◌+◌, ◌-◌, ◌/◌, arith}
use Rattle.ve_trace.proofs.Rows.{one_is_residue, sum_joined}
use Rattle.ve_trace.proofs.sums.+sum_of_rows.Goals as goal

pub sum_over_span-requires-clause-between : goal.sum_over_span-requires-clause-between
sum_over_span-requires-clause-between g t c = c.spread_of_rows-spread.ensures c.args.field.now c.requires.rows

pub add_scaled-requires-clause-residue : goal.add_scaled-requires-clause-residue
add_scaled-requires-clause-residue g t c = one_is_residue _ _ c.requires.vector (omega arith)

pub returns : goal.returns
returns g t c =
    sum_joined _ (g.R.Rows.rows c.args.rows.now) c.args.vector.now _ _ _ c.args.letter c.args.from (c.args.from + (c.args.to - c.args.from) / 2) c.args.to
    (omega arith) (omega arith) c.in_ok-sum.ensures c.in_ok-rest.ensures c.in_ok-add_scaled.ensures.ok
