use Rattle.std.proofs.Common.{◌<◌, arith, sym, subst}
use Rattle.ve_theory.specs.Presentations.{before}
use Rattle.ve_theory.specs.Answers.{dimension}
use Rattle.ve_lemmas.proofs.Lists.{All-slice_get}
use Rattle.ve_matrix.specs.Answers.{answer_of}
use Rattle.ve_matrix.proofs.BasisWords.{length-words_of}
use Rattle.ve_matrix.proofs.RisingWords.{known_letters, negated, row_up_to, not_past}
use Rattle.ve_matrix.proofs.answer.Answer.is_up_to.Goals as goal

pub basis_word-requires-clause-place : goal.basis_word-requires-clause-place
basis_word-requires-clause-place c =
    let inside : c.in-Some.leading.id < dimension (answer_of c.args.self.now).action =
    All-slice_get (λ t. t.0 < dimension (answer_of c.args.self.now).action) c.args.row.now 0 (c.in-Some.leading.id, c.in-Some.leading.coef) c.in-Some.ensures.first c.requires.row.1 in
    omega (arith, length-words_of c.args.self.now.basis.items)

pub comes_before-requires-clause-second : goal.comes_before-requires-clause-second
comes_before-requires-clause-second c =
    let inside : c.in-Some.leading.id < dimension (answer_of c.args.self.now).action =
    All-slice_get (λ t. t.0 < dimension (answer_of c.args.self.now).action) c.args.row.now 0 (c.in-Some.leading.id, c.in-Some.leading.coef) c.in-Some.ensures.first c.requires.row.1 in
    known_letters c.args.presentation.now.presentation c.args.self.now c.in-Some.leading.id c.in_ok-last.last c.requires.order c.in_ok-last.ensures
    (omega (arith, length-words_of c.args.self.now.basis.items))

pub returns : goal.returns
returns c =
    let P = c.args.presentation.now.presentation in
    let A = (answer_of c.args.self.now).action in
    let id = c.in-Some.leading.id in
    let total = c.words_are_ordered.ensures P c.requires.order.valid.presentation in
    let inside : id < dimension A = All-slice_get (λ t. t.0 < dimension A) c.args.row.now 0 (id, c.in-Some.leading.coef) c.in-Some.ensures.first c.requires.row.1 in
    negated c.comes_before.result c.comes_before.ensures
    (λ no. row_up_to P A total c.args.row.now id c.args.word.now c.requires.rising c.requires.row.1 c.in-Some.ensures.greatest inside
    (subst (λ w. ¬ before P c.args.word.now w) c.in_ok-last.ensures no))
    (λ upto. subst (λ w. ¬ before P c.args.word.now w) (sym c.in_ok-last.ensures) (not_past P A total c.args.row.now (id, c.in-Some.leading.coef) c.args.word.now c.in-Some.ensures.first upto))
