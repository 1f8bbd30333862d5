use Rattle.std.proofs.Common.{sym, ◌∙◌, arith}
use Rattle.std.proofs.lemmas.Bool.{true≢false}
use Rattle.std.proofs.lemmas.Option.{MatchOption-at_none, MatchOption-at_some}
use Rattle.ve_theory.specs.Verdicts.{RelatorFailsFirst}
use Rattle.ve_matrix.specs.Answers.{answer_of}
use Rattle.ve_matrix.proofs.BasisWords.{length-words_of}
use Rattle.ve_check.proofs.FewRelations.{few_relators}
use Rattle.ve_check.proofs.Naming.{says_basis_word, says_relator, says_shape, says_submodule, says_yes}
use Rattle.ve_check.proofs.Tracing.{rows_placed}
use Rattle.ve_check.proofs.verdict.check.Goals as goal

pub returns-then-not-has_shape-clause-verdict : goal.returns-then-not-has_shape-clause-verdict
returns-then-not-has_shape-clause-verdict c =
    says_shape c.args.presentation.now.presentation (answer_of c.args.answer.now) (λ shape. true≢false (sym (c.has_shape.ensures.1 shape) ∙ c.if-not-has_shape.true))

pub overflow_add-result : goal.overflow_add-result
overflow_add-result c =
    let P = c.args.presentation.now.presentation in
    let first : RelatorFailsFirst P (answer_of c.args.answer.now) c.in-Some.number c.in-Some.row =
    MatchOption-at_some _ _ (c.in-Some.number, c.in-Some.row) c.in-Some.is c.in_ok-number.ensures in
    omega (arith, first.exists.0, few_relators P c.is_valid.ensures.valid)

pub overflow_add-result-in-Some : goal.overflow_add-result-in-Some
overflow_add-result-in-Some c =
    let first : RelatorFailsFirst c.args.presentation.now.presentation (answer_of c.args.answer.now) c.in-Some.number c.in-Some.row =
    MatchOption-at_some _ _ (c.in-Some.number, c.in-Some.row) c.in-Some.is c.in_ok-number.ensures in
    omega (arith, first.exists.1, length-words_of c.args.answer.now.basis.items, c.requires.dimension)

pub returns-in-Some-clause-verdict : goal.returns-in-Some-clause-verdict
returns-in-Some-clause-verdict c =
    says_relator c.args.presentation.now.presentation (answer_of c.args.answer.now) c.in-Some.number c.in-Some.row
    (MatchOption-at_some _ _ (c.in-Some.number, c.in-Some.row) c.in-Some.is c.in_ok-number.ensures)

pub returns-in-Some-2-clause-verdict : goal.returns-in-Some-2-clause-verdict
returns-in-Some-2-clause-verdict c =
    says_submodule c.args.presentation.now.presentation (answer_of c.args.answer.now) c.in-Some-2.number
    (MatchOption-at_some _ _ c.in-Some-2.number c.in-Some-2.is c.in_ok-number-2.ensures)

pub overflow_add-result-in-Some-failing_word : goal.overflow_add-result-in-Some-failing_word
overflow_add-result-in-Some-failing_word c =
    omega (arith, c.in-Some-failing_word.ensures.exists, length-words_of c.args.answer.now.basis.items, c.requires.dimension)

pub returns-in-Some-failing_word-clause-verdict : goal.returns-in-Some-failing_word-clause-verdict
returns-in-Some-failing_word-clause-verdict c =
    says_basis_word c.args.presentation.now.presentation (answer_of c.args.answer.now) c.in-Some-failing_word.place c.in-Some-failing_word.ensures

pub returns-clause-verdict : goal.returns-clause-verdict
returns-clause-verdict c =
    says_yes c.args.presentation.now.presentation (answer_of c.args.answer.now) (c.has_shape.ensures.0 c.if-not-has_shape.false) (record {
      relators = MatchOption-at_none _ _ c.in_default.is c.in_ok-number.ensures;
      submodule = MatchOption-at_none _ _ c.in_default-2.is c.in_ok-number-2.ensures;
      own_rows = c.in_default-failing_word.ensures;
    })

pub returns-clause-quotient : goal.returns-clause-quotient
returns-clause-quotient c is_yes =
    let P = c.args.presentation.now.presentation in
    let A = answer_of c.args.answer.now in
    let shape = c.has_shape.ensures.0 c.if-not-has_shape.false in
    c.relations_make_quotients.ensures P A c.is_valid.ensures.valid.presentation shape (rows_placed P A shape c.requires.form) (record {
      relators = MatchOption-at_none _ _ c.in_default.is c.in_ok-number.ensures;
      submodule = MatchOption-at_none _ _ c.in_default-2.is c.in_ok-number-2.ensures;
      own_rows = c.in_default-failing_word.ensures;
    })
