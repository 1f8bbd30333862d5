use Rattle.std.proofs.Common.{◌<◌, ◌∙◌, arith, length}
use Rattle.ve_theory.specs.Combinations.{unit}
use Rattle.ve_vec.specs.Tracing.{vector_times_letters}
use Rattle.ve_trace.proofs.Terms.{no_terms, one_more_term}
use Rattle.ve_trace.proofs.Walking.{keeps, whole}
use Rattle.ve_trace.proofs.walk.walk_relator.Goals as goal

pub loop-at-init : goal.loop-at-init
loop-at-init g c = (
  no_terms _ (vector_times_letters (g.R.Rows.rows c.args.rows.now) (unit c.args.id)) c.args.relator.now _ c.zero-sum.ensures.value (c.zero-sum.ensures.fits _),
  c.in_ok-walk.ensures.id,
  c.in_ok-walk.ensures.products (g.R.Rows.rows c.args.rows.now),
)

pub go_on-requires-clause-products : goal.go_on-requires-clause-products
go_on-requires-clause-products g c =
    rw c.loop-at.invariant.1
    (keeps c.args.field.now (g.R.Rows.rows c.args.rows.now) (unit c.args.id) c.loop-at.before.now c.as_slice-letters.result.now c.shared.result c.loop-at.walk.products.items _ c.truncate.ensures.items
    c.shared.ensures.before c.shared.ensures.letters c.shared.ensures.same c.loop-at.invariant.2)

pub loop-at-preserved : goal.loop-at-preserved
loop-at-preserved g c =
    let within : c.loop-at.at < length c.args.relator.now = omega (arith, c.loop-at-test.true, c.term_count-at-end.ensures.count) in
    let all = rw c.loop-at.invariant.1 at c.in_ok-go_on.ensures.products in (
      one_more_term _ (vector_times_letters (g.R.Rows.rows c.args.rows.now) (unit c.args.id)) c.args.relator.now _ _ _ c.as_slice-letters.result.now _ c.index.result.now _ within
          (c.as_slice-letters.ensures.value ∙ c.word_at.ensures.word) c.coef_at.ensures c.loop-at.invariant.0
          (rw c.index.ensures (whole c.args.field.now (g.R.Rows.rows c.args.rows.now) (unit c.args.id) c.as_slice-letters.result.now c.go_on.new.self.products.items _ all))
          c.in_ok-add_scaled.ensures.ok,
      c.in_ok-go_on.ensures.id ∙ c.loop-at.invariant.1,
      all,
    )
