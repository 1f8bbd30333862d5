use Rattle.ve_pres.proofs.PowerSteps.{power_first, power_next, power_zero}
use Rattle.ve_pres.proofs.free_alg.FreeAlg.pow.Goals as goal

pub returns-then-exponent-eq0-clause-power : goal.returns-then-exponent-eq0-clause-power
returns-then-exponent-eq0-clause-power c = power_zero _ _ _ _ _ c.if-exponent-eq0.true c.reduce-one.ensures.residue_of c.in_ok-constant.ensures.constant

pub powers-init : goal.powers-init
powers-init c = power_first _ _ _ c.requires.residues c.in_ok-reached.ensures

pub powers-preserved : goal.powers-preserved
powers-preserved c = power_next _ _ _ _ _ c.products_are_bilinear.ensures c.powers.invariant c.in_ok-reached-2.ensures.limit c.in_ok-reached-2.ensures.product c.in_ok-reached-2.ensures.letters
