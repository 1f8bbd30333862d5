use Rattle.std.proofs.Common.{◌-◌, ◌∙◌, sym, arith}
use Rattle.ve_vec.proofs.Spanning.{none_collected, pass_collected, push_collected}
use Rattle.ve_vec.proofs.dense.collect_terms.Goals as goal

pub loop-at-init : goal.loop-at-init
loop-at-init c = rw (c.reserve.ensures.items, c.new-terms.ensures.items) (none_collected _ _ c.args.numbers.now _ (omega arith))

pub loop-at-preserved : goal.loop-at-preserved
loop-at-preserved c =
    push_collected c.args.field.now c.from-prime.result c.args.low c.args.numbers.now (c.loop-at.at - 1) c.loop-at.at c.prime.ensures.above_one (c.from-prime.ensures ∙ c.prime.ensures.prime)
    (omega (arith, c.loop-at-test.true)) (omega (arith, c.loop-at-test.true, c.loop-at.auto.at)) _ _ (omega (arith, c.if-coef-eq0.false, c.residue-coef.ensures)) (rw c.residue-coef.ensures at c.in_ok-push.ensures.ok) c.loop-at.invariant

pub loop-at-preserved-then-coef-eq0 : goal.loop-at-preserved-then-coef-eq0
loop-at-preserved-then-coef-eq0 c =
    pass_collected c.args.field.now c.from-prime.result c.args.low c.args.numbers.now (c.loop-at.at - 1) c.loop-at.at c.prime.ensures.above_one (c.from-prime.ensures ∙ c.prime.ensures.prime)
    (omega (arith, c.loop-at-test.true)) (omega (arith, c.loop-at-test.true, c.loop-at.auto.at)) _ (sym c.residue-coef.ensures ∙ c.if-coef-eq0.true) c.loop-at.invariant
