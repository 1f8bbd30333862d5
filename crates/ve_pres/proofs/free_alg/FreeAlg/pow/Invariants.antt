use Rattle.ve_pres.proofs.PowerSteps.{IsPower}
use Rattle.ve_pres.proofs.free_alg.FreeAlg.pow.Given as goal

abbrev pub invariant-powers : goal.invariant-powers
invariant-powers l = IsPower l.field l.self l.counter l.reached
