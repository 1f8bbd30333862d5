use Rattle.std.proofs.Common.{◌≤◌, ◌+◌, ◌∙◌, length, ap, arith, sym}
use Rattle.ve_theory.specs.Words.{word_length}
use Rattle.ve_theory.specs.Validity.{most_length, most_terms}
use Rattle.ve_lemmas.proofs.Sums.{greatest-le}
use Rattle.ve_pres.specs.Terms.{pairs}
use Rattle.ve_pres.proofs.KeptElements.{kept_view, length-pairs}
use Rattle.ve_pres.proofs.WeightSums.{cells_step, word_of_item}
use Rattle.ve_pres.proofs.free_mod.FreeMod.cells.Goals as goal

short : (c : goal.After-len) → c.len.result ≤ most_length
short c =
    let within : word_length c.term-item.result.word ≤ most_length =
    word_of_item (λ w. word_length w ≤ most_length) _ _ _ c.term-item.result c.self.invariant.lengths (ap pairs c.deref-term-items.ensures.value) c.loop-term-test.true c.term-item.is in
    omega (arith, within, c.len.ensures.count)

pub overflow_add-cells : goal.overflow_add-cells
overflow_add-cells c = omega (arith, short c)

pub overflow_add-cells-in-loop-term : goal.overflow_add-cells-in-loop-term
overflow_add-cells-in-loop-term c =
    let count : length c.deref-term-items.result.now ≤ most_terms = omega (arith, c.self.invariant.terms, length-pairs c.self.inside.terms.items, ap length c.deref-term-items.ensures.value) in
    omega (arith, short c, count, c.loop-term.invariant.1)

pub loop-term-preserved : goal.loop-term-preserved
loop-term-preserved c = (
  ap (λ n. n + (c.len.result + 1)) c.loop-term.invariant.0
      ∙ (omega (arith, c.len.ensures.count) ∙ sym (cells_step _ _ c.term-item.result c.loop-term-test.true c.term-item.is)),
  omega (arith, short c, c.loop-term.invariant.1),
)

pub returns-clause-length : goal.returns-clause-length
returns-clause-length c = greatest-le word_length most_length c.args.self.now (kept_view _ _ c.self.invariant c.self.view_is).lengths
