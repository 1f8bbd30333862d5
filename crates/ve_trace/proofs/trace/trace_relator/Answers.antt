use Rattle.ve_trace.proofs.TracedProducts.{traced_relator}
use Rattle.std.proofs.Common.{◌<◌, ◌∙◌, arith, length}
use Rattle.ve_theory.specs.Combinations.{unit}
use Rattle.ve_vec.specs.Tracing.{vector_times_letters}
use Rattle.ve_trace.proofs.Following.{single_reduced}
use Rattle.ve_trace.proofs.Terms.{no_terms, one_more_product, all_terms}
use Rattle.ve_trace.proofs.trace.trace_relator.Goals as goal

pub loop-at-init : goal.loop-at-init
loop-at-init g c =
    no_terms _ (vector_times_letters (g.R.Rows.rows c.args.rows.now) (unit c.args.id)) c.args.relator.now _ c.zero-sum.ensures.value (c.zero-sum.ensures.fits _)

pub add_product-requires-clause-start : goal.add_product-requires-clause-start
add_product-requires-clause-start g c = single_reduced _ _ (record { positive = omega arith; below = c.has_prime.ensures.above_one })

pub loop-at-preserved : goal.loop-at-preserved
loop-at-preserved g c =
    let within : c.loop-at.at < length c.args.relator.now = omega (arith, c.loop-at-test.true, c.term_count-at-end.ensures.count) in
    one_more_product _ (vector_times_letters (g.R.Rows.rows c.args.rows.now) (unit c.args.id)) c.args.relator.now _ _ _ _ _ _ within
    (c.deref.ensures.value ∙ c.word_at-letters.ensures.word) c.coef_at-coef.ensures c.loop-at.invariant c.in_ok-add_product.ensures

pub returns-clause-derived : goal.returns-clause-derived
returns-clause-derived g c T =
    traced_relator c.reach_adds_up.ensures c.words_are_ordered.ensures T c.args.field.now (g.R.Rows.rows c.args.rows.now) c.args.id c.args.relator.now c.loop-at.sum
    (all_terms _ (vector_times_letters (g.R.Rows.rows c.args.rows.now) (unit c.args.id)) c.args.relator.now c.loop-at.at c.loop-at.sum
    (omega (arith, c.loop-at-test.false, c.term_count-at-end.ensures.count)) c.loop-at.invariant)

pub returns-then-term_count-gt-FEW-clause-derived : goal.returns-then-term_count-gt-FEW-clause-derived
returns-then-term_count-gt-FEW-clause-derived g c T =
    traced_relator c.reach_adds_up.ensures c.words_are_ordered.ensures T c.args.field.now (g.R.Rows.rows c.args.rows.now) c.args.id c.args.relator.now c.in_ok-sum.sum c.in_ok-sum.ensures
