use Rattle.ve_trace.proofs.Walking.{begins}
use Rattle.ve_trace.proofs.walk.start_walk.Goals as goal

pub returns-clause-products : goal.returns-clause-products
returns-clause-products c = λ rows. begins c.args.field.now rows _ _ c.unit.result (rw c.new-products.ensures.items at c.in_ok-push.ensures.items) c.unit.ensures.value (c.unit.ensures.fits _ c.has_prime.ensures.above_one)
