use Rattle.std.proofs.Common.{sym, ◌∙◌, arith}
use Rattle.std.proofs.lemmas.Bool.{true≢false}
use Rattle.ve_matrix.proofs.BasisWords.{length-words_of}
use Rattle.ve_check.proofs.relations.failing_row.Goals as goal

pub relator_vanishes-requires-clause-row : goal.relator_vanishes-requires-clause-row
relator_vanishes-requires-clause-row c = omega (arith, length-words_of c.args.answer.now.basis.items, c.args.answer.now.basis.ok.0)

pub returns-then-not-branch : goal.returns-then-not-branch
returns-then-not-branch c = record {
  exists = omega (arith, length-words_of c.args.answer.now.basis.items, c.args.answer.now.basis.ok.0);
  earlier = c.loop-row.invariant;
  fails = λ vanishes. true≢false (sym (c.in_ok-relator_vanishes.ensures.1 vanishes) ∙ c.if-not-branch.true);
}

pub returns : goal.returns
returns c = λ row within. c.loop-row.invariant row (omega (arith, length-words_of c.args.answer.now.basis.items, c.args.answer.now.basis.ok.0))
