use Rattle.std.proofs.Common.{arith}
use Rattle.ve_theory.specs.Combinations.{AllBefore, IsReduced}
use Rattle.ve_vec.proofs.sparse.Sparse.unit.Goals as goal

pub invariant_of-result : goal.invariant_of-result
unfolding AllBefore IsReduced
invariant_of-result c = rw c.one.ensures (2, (omega arith, omega arith, tt, tt))

pub returns-clause-fits : goal.returns-clause-fits
unfolding AllBefore IsReduced
returns-clause-fits c = rw c.one.ensures (λ p large. (omega arith, large, tt, tt))
