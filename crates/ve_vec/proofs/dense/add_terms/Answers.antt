use Rattle.std.proofs.Common.{ℕ, ◌^◌, ◌<◌, arith}
use Rattle.std.proofs.lemmas.List.{drop_all}
use Rattle.std.proofs.lemmas.List.Elements.{All-set}
use Rattle.ve_vec.proofs.Spanning.{next_term, place_at, sum_done, term_added}
use Rattle.ve_vec.proofs.dense.add_terms.Goals as goal

pub overflow_sub-at : goal.overflow_sub-at
overflow_sub-at c = (place_at _ _ c.args.terms.now c.loop-term.term-index _ c.loop-term-test.true c.requires.ids).0

pub bounds-numbers-at : goal.bounds-numbers-at
bounds-numbers-at c =
    let place = place_at _ _ c.args.terms.now c.loop-term.term-index (record { id = 0; coef = 0 }) c.loop-term-test.true c.requires.ids in
    omega (arith, place.0, place.1, c.loop-term.auto.numbers)

pub bounds-numbers-at-in-loop-term : goal.bounds-numbers-at-in-loop-term
bounds-numbers-at-in-loop-term c =
    let place = place_at _ _ c.args.terms.now c.loop-term.term-index (record { id = 0; coef = 0 }) c.loop-term-test.true c.requires.ids in
    omega (arith, place.0, place.1, c.loop-term.auto.numbers)

pub loop-term-preserved : goal.loop-term-preserved
loop-term-preserved c =
    let place = place_at _ _ c.args.terms.now c.loop-term.term-index (record { id = 0; coef = 0 }) c.loop-term-test.true c.requires.ids in (
      All-set (λ (n : ℕ). n < 2 ^ 31) _ _ _ c.add_product.ensures.narrow c.loop-term.invariant.0,
      term_added _ _ _ _ _ _ _ _ _ _ 0 (next_term c.args.terms.now c.loop-term.term-index (record { id = 0; coef = 0 }) c.loop-term-test.true)
          (omega (arith, place.0)) (omega (arith, place.0, place.1, c.loop-term.auto.numbers)) c.add_product.ensures.sum c.loop-term.invariant.1,
    )

pub returns-clause-sum : goal.returns-clause-sum
returns-clause-sum c = sum_done _ _ _ _ _ _ (drop_all c.loop-term.term-index c.args.terms.now c.loop-term-test.false) c.loop-term.invariant.1
