use Rattle.ve_theory.specs.Combinations.{IsReduced}
use Rattle.ve_vec.proofs.sparse.Sparse.zero.Goals as goal

pub invariant_of-result : goal.invariant_of-result
unfolding IsReduced
invariant_of-result c = rw c.new.ensures (0, tt)

pub returns-clause-fits : goal.returns-clause-fits
unfolding IsReduced
returns-clause-fits c = rw c.new.ensures (λ p. tt)
