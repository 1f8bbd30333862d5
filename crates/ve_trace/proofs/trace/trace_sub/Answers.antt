use Rattle.std.proofs.Common.{[], ◌≡◌, ◌<◌, ◌≤◌, ap, ◌∙◌, arith, length, slice_index_or}
use Rattle.ve_theory.specs.Words.{generator, start}
use Rattle.ve_vec.specs.Tracing.{vector_of_word}
use Rattle.ve_trace.proofs.Terms.{no_terms, one_more_term, passed_term, all_terms, no_vector, image_traced}
use Rattle.ve_trace.proofs.TracedProducts.{traced_relation}
use Rattle.ve_trace.proofs.trace.trace_sub.Goals as goal

pub loop-at-init : goal.loop-at-init
loop-at-init g c =
    no_terms _ (vector_of_word (g.R.Rows.rows c.args.rows.now) c.args.images.now.items) c.args.relation.now _ c.zero-sum.ensures.value (c.zero-sum.ensures.fits _)

pub loop-at-preserved-in_default : goal.loop-at-preserved-in_default
loop-at-preserved-in_default g c =
    let within : c.loop-at.at < length c.args.relation.now = omega (arith, c.loop-at-test.true, c.term_count-at-end.ensures.count) in
    let root = c.from.ensures ∙ (c.root_of.ensures.root ∙ ap start c.word_at-word.ensures.word) in
    let past : length c.args.images.now.items ≤ c.from.result = rw (← c.deref.ensures.value) c.in_default.ensures.lookup.3 in
    passed_term _ (vector_of_word (g.R.Rows.rows c.args.rows.now) c.args.images.now.items) c.args.relation.now _ (generator 0, 0) _ within
    (no_vector (g.R.Rows.rows c.args.rows.now) c.args.images.now.items _ c.from.result root past) c.loop-at.invariant

pub loop-at-preserved : goal.loop-at-preserved
loop-at-preserved g c =
    let within : c.loop-at.at < length c.args.relation.now = omega (arith, c.loop-at-test.true, c.term_count-at-end.ensures.count) in
    let root = c.from.ensures ∙ c.root_of.ensures.root in
    let is : c.in-Some.image.now ≡ slice_index_or c.args.images.now.items c.from.result [] = rw (← c.deref.ensures.value) (c.in-Some.ensures.lookup.3.1 []) in
    one_more_term _ (vector_of_word (g.R.Rows.rows c.args.rows.now) c.args.images.now.items) c.args.relation.now _ _ _ c.word_at-word.result.now _ _ _ within
    c.word_at-word.ensures.word c.coef_at.ensures c.loop-at.invariant
    (image_traced _ (g.R.Rows.rows c.args.rows.now) c.args.images.now.items c.word_at-word.result.now _ _ _ _ root (c.deref-in-loop-at.ensures.value ∙ c.spelling.ensures) is c.in_ok-traced.ensures)
    c.in_ok-add_moved.ensures

pub returns-clause-derived : goal.returns-clause-derived
returns-clause-derived g c T =
    traced_relation c.reach_adds_up.ensures c.words_are_ordered.ensures T c.args.field.now (g.R.Rows.rows c.args.rows.now) c.args.images.now.items c.args.relation.now c.loop-at.sum
    (all_terms _ (vector_of_word (g.R.Rows.rows c.args.rows.now) c.args.images.now.items) c.args.relation.now c.loop-at.at c.loop-at.sum
    (omega (arith, c.loop-at-test.false, c.term_count-at-end.ensures.count)) c.loop-at.invariant)
