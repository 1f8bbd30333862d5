use Rattle.std.proofs.Common.{arith}
use Rattle.ve_vec.proofs.Searching.{above_from, none_above, none_here, one_lower}
use Rattle.ve_vec.proofs.search.count_from_end.Goals as goal

pub loop-at-init : goal.loop-at-init
loop-at-init c = (omega arith, none_here c.args.id c.args.terms.now)

pub loop-at-preserved : goal.loop-at-preserved
loop-at-preserved c = (
  omega (arith, c.loop-at.invariant.0),
  one_lower c.args.id c.args.terms.now c.loop-at.at _ c.loop-at-test.true c.loop-at.invariant.0 c.if-terms-at.true c.loop-at.invariant.1,
)

pub returns-else-terms-at-clause-above : goal.returns-else-terms-at-clause-above
returns-else-terms-at-clause-above c =
    above_from c.requires.0 c.args.id c.args.terms.now c.loop-at.at _ c.requires.1 c.loop-at-test.true c.loop-at.invariant.0 c.if-terms-at.false

pub returns-after-loop-at-clause-above : goal.returns-after-loop-at-clause-above
returns-after-loop-at-clause-above c = none_above c.args.id c.args.terms.now c.loop-at.at (omega (arith, c.loop-at-test.false))
