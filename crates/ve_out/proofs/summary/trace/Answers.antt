use Rattle.std.proofs.Common.{◌≡◌, ◌+◌, ◌<◌, arith, sym, subst, ◌∙◌}
use Rattle.ve_out.proofs.Figures.{IsSummed, summed_nothing, summed_next}
use Rattle.ve_out.proofs.summary.trace.Goals as goal

pub loop-at-init : goal.loop-at-init
loop-at-init c = summed_nothing c.args.matrix.now

pub loop-at-preserved : goal.loop-at-preserved
loop-at-preserved c =
    let small : c.from-sum.result < 256 = omega (arith, c.from-sum.ensures, c.coef_of.type_inv) in
    summed_next c.args.matrix.now c.loop-at.at c.loop-at.sum c.row.result.now c.from-sum.result c.row.ensures (c.from-sum.ensures ∙ c.coef_of.ensures) small c.loop-at.invariant
