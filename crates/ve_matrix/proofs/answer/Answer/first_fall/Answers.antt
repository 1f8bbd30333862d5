use Rattle.std.proofs.Common.{◌-◌, arith, sym, subst}
use Rattle.ve_theory.specs.Presentations.{before}
use Rattle.ve_theory.specs.Answers.{basis_word}
use Rattle.ve_matrix.specs.Answers.{answer_of}
use Rattle.ve_matrix.proofs.BasisWords.{length-words_of}
use Rattle.ve_matrix.proofs.RisingWords.{known_letters, denied, rise_all}
use Rattle.ve_matrix.proofs.answer.Answer.first_fall.Goals as goal

pub returns-then-count-eq0 : goal.returns-then-count-eq0
returns-then-count-eq0 c i j d less within =
    absurd (omega (arith, length-words_of c.args.self.now.basis.items, c.args.self.now.basis.ok.0))

pub comes_before-requires-clause-first : goal.comes_before-requires-clause-first
comes_before-requires-clause-first c =
    known_letters c.args.presentation.now.presentation c.args.self.now (c.loop-place.place - 1) c.loop-place.last c.requires c.loop-place.invariant.last
    (omega (arith, c.args.self.now.basis.ok.0))

pub comes_before-requires-clause-second : goal.comes_before-requires-clause-second
comes_before-requires-clause-second c =
    known_letters c.args.presentation.now.presentation c.args.self.now c.loop-place.place c.in_ok-word.word c.requires c.in_ok-word.ensures
    (omega (arith, c.args.self.now.basis.ok.0))

pub returns-then-not-comes_before : goal.returns-then-not-comes_before
returns-then-not-comes_before c = let P = c.args.presentation.now.presentation in let A = (answer_of c.args.self.now).action in record {
  second = omega arith;
  exists = omega (arith, length-words_of c.args.self.now.basis.items, c.args.self.now.basis.ok.0);
  earlier = c.loop-place.invariant.rise;
  falls = λ less. denied c.comes_before.result c.comes_before.ensures c.if-not-comes_before.true
      (subst (λ v. before P v c.in_ok-word.word) (sym c.loop-place.invariant.last) (subst (before P (basis_word A (c.loop-place.place - 1))) (sym c.in_ok-word.ensures) less));
}

pub returns : goal.returns
returns c =
    rise_all c.args.presentation.now.presentation (answer_of c.args.self.now).action (c.words_are_ordered.ensures c.args.presentation.now.presentation c.requires.valid.presentation)
    c.loop-place.place (omega (arith, length-words_of c.args.self.now.basis.items, c.args.self.now.basis.ok.0)) c.loop-place.invariant.rise
