use Rattle.std.proofs.Common.{subst}
use Rattle.std.proofs.lemmas.Result.{err_from_is_err_and}
use Rattle.ve_theory.specs.Answers.{IsModuleAnswer}
use Rattle.ve_theory.specs.Laws.{DecidesModule}
use Rattle.ve_matrix.specs.Answers.{answer_of}
use Rattle.ve_main.specs.Commands.{Enumerates}
use Rattle.ve_main.proofs.Texts.{stopped_writing, answer_called, over_called}
use Rattle.ve_main.proofs.writing.write_enumeration.Goals as goal

pub returns-in_err-write_result-in-Closed-clause-stopped : goal.returns-in_err-write_result-in-Closed-clause-stopped
returns-in_err-write_result-in-Closed-clause-stopped g c =
    let p = err_from_is_err_and c.from_residual-in_err-write_result-in-Closed.result c.from_residual-in_err-write_result-in-Closed.ensures.1 in
    let P = c.args.presentation.presentation in
    let A = answer_of c.in_ok-answer-in-Closed.answer in
    let called = answer_called P c.args.limit c.in-Closed.finished.level c.args.summary A c.in-Closed.ensures.1
    (subst (λ d. IsModuleAnswer d.presentation A) c.in-Closed.ensures.0 c.in_ok-answer-in-Closed.ensures.answer) c.in_ok-answer-in-Closed.ensures.level
    (subst (λ d. DecidesModule d.presentation A.action) c.in-Closed.ensures.0 c.in_ok-answer-in-Closed.ensures.decides) in
    rw (p.1, p.2) (stopped_writing (Enumerates P c.args.limit c.args.summary) _ _ 0 _ _ called c.in_err-write_result-in-Closed.ensures.stopped)

pub returns-in_err-write_over-in-Over-clause-stopped : goal.returns-in_err-write_over-in-Over-clause-stopped
returns-in_err-write_over-in-Over-clause-stopped g c =
    let p = err_from_is_err_and c.from_residual-in_err-write_over-in-Over.result c.from_residual-in_err-write_over-in-Over.ensures.1 in
    let P = c.args.presentation.presentation in
    rw (p.1, p.2) (stopped_writing (Enumerates P c.args.limit c.args.summary) _ _ 1 _ _ (over_called P c.args.limit c.in-Over.level c.in-Over.size c.args.summary c.in-Over.ensures)
    c.in_err-write_over-in-Over.ensures.stopped)
