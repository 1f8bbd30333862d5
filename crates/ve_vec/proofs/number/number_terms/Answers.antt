use Rattle.std.proofs.Common.{ap, ◌∙◌, arith}
use Rattle.ve_vec.specs.Terms.{pairs}
use Rattle.ve_vec.proofs.Scaling.{written_all}
use Rattle.ve_vec.proofs.Numbering.{number_of, pairs-numbers, write_number, id_below}
use Rattle.ve_vec.proofs.number.number_terms.Goals as goal

pub bounds-numbers-term : goal.bounds-numbers-term
bounds-numbers-term c = id_below _ c.args.numbers.now _ _ _ _ (omega (arith, c.loop-term-test.true, c.loop-term.auto.term-items)) c.loop-term.invariant c.requires

pub loop-term-preserved : goal.loop-term-preserved
loop-term-preserved c = write_number _ _ _ _ _ (omega (arith, c.loop-term-test.true, c.loop-term.auto.term-items)) c.loop-term.invariant

pub returns : goal.returns
returns c =
    ap pairs (c.loop-term.invariant ∙ written_all (number_of c.args.numbers.now) c.args.terms.now c.loop-term.term-index (omega (arith, c.loop-term-test.false, c.loop-term.auto.term-items)))
    ∙ pairs-numbers _ _
