use Rattle.ve_theory.specs.Combinations.{IsReduced}
use Rattle.ve_vec.proofs.sparse.Sparse.clear.Goals as goal

pub invariant_of-self : goal.invariant_of-self
unfolding IsReduced
invariant_of-self c = rw c.clear.ensures (0, tt)

pub returns-clause-fits : goal.returns-clause-fits
unfolding IsReduced
returns-clause-fits c = rw c.clear.ensures (λ p. tt)
