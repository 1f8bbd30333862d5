use Rattle.ve_theory.specs.Combinations.{unit}
use Rattle.ve_trace.proofs.Walking.{finds_next, goes_on}
use Rattle.ve_trace.proofs.walk.Walk.go_on.Goals as goal

pub times_letter-requires-clause-found : goal.times_letter-requires-clause-found
times_letter-requires-clause-found g c =
    rw c.index.ensures
    (finds_next c.args.field.now (g.R.Rows.rows c.args.rows.now) (unit c.args.self.now.id) c.args.letters.now c.loop-at.self.products.items c.loop-at.at _ c.loop-at.invariant.0 c.loop-at.invariant.2
    c.loop-at-test.true c.requires.found)

pub loop-at-preserved : goal.loop-at-preserved
loop-at-preserved g c =
    let next =
    goes_on c.args.field.now (g.R.Rows.rows c.args.rows.now) (unit c.args.self.now.id) c.args.letters.now c.loop-at.self.products.items c.loop-at.at _ c.loop-at.invariant.0 c.loop-at.invariant.2
    c.loop-at-test.true c.in_ok-product.product _ c.in_ok-push.ensures.items (rw c.index.ensures at c.in_ok-product.ensures) in
    (next.0, c.loop-at.invariant.1, next.1)
