use Rattle.std.proofs.Common.{refl, arith}
use Rattle.ve_pres.proofs.Negatives.{negated_next, negated_whole, residue_here}
use Rattle.ve_pres.proofs.term.negate.Goals as goal

pub loop-term-init : goal.loop-term-init
loop-term-init c = refl

pub neg-term-requires : goal.neg-term-requires
neg-term-requires c = residue_here _ _ _ _ _ (omega (arith, c.loop-term-test.true)) c.loop-term.invariant c.requires

pub loop-term-preserved : goal.loop-term-preserved
loop-term-preserved c =
    negated_next _ _ _ _ _ _ (omega (arith, c.loop-term-test.true)) (omega (arith, c.loop-term-test.true, c.loop-term.auto.term-items)) c.loop-term.invariant c.neg-term.ensures.negative

pub returns : goal.returns
returns c = negated_whole _ _ _ _ (omega (arith, c.loop-term-test.false)) c.loop-term.invariant
