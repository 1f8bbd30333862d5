use Rattle.std.proofs.lemmas.Result.{err_from_is_err_and}
use Rattle.ve_answers.proofs.HeadLines.{names_read, no_names, no_line_of_names}
use Rattle.ve_answers.proofs.head.read_names.Goals as goal

pub returns-in_err-line-clause-err : goal.returns-in_err-line-clause-err
returns-in_err-line-clause-err c =
    let failed = err_from_is_err_and c.from_residual.result c.from_residual.ensures.1 in
    rw (failed.1, failed.2) (no_line_of_names _ c.in_err-line.ensures.err.0 c.in_err-line.ensures.err.1)

pub returns-in_err-names-clause-err : goal.returns-in_err-names-clause-err
returns-in_err-names-clause-err c =
    let failed = err_from_is_err_and c.from_residual-in_err-names.result c.from_residual-in_err-names.ensures.1 in
    rw (failed.1, failed.2) (λ draft left. tt)

pub returns-in-Some-clause-ok : goal.returns-in-Some-clause-ok
returns-in-Some-clause-ok c =
    let found = rw c.in-Some.is at c.in_ok-names.ensures in
    names_read c.in_ok-line.line.now c.in-Some.names found.0 found.1 c.in_ok-line.ensures.ok

pub returns-in-None-clause-err : goal.returns-in-None-clause-err
returns-in-None-clause-err c = no_names c.in_ok-line.line.now (rw c.in-None.is at c.in_ok-names.ensures) c.in_ok-line.ensures.ok c.refusal.ensures
