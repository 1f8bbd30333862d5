use Rattle.std.proofs.Common.{arith}
use Rattle.std.proofs.lemmas.Result.{err_from_is_err_and}
use Rattle.ve_answers.proofs.HeadLines.{generators_read, no_generators_line, no_generators}
use Rattle.ve_answers.proofs.head.read_generators.Goals as goal

pub returns-in_err-roots-clause-err : goal.returns-in_err-roots-clause-err
returns-in_err-roots-clause-err c =
    let failed = err_from_is_err_and c.from_residual.result c.from_residual.ensures.1 in
    rw (failed.1, failed.2) (no_generators_line c.in_err-roots.ensures.err)

pub returns-then-roots-eq0-clause-err : goal.returns-then-roots-eq0-clause-err
returns-then-roots-eq0-clause-err c = no_generators c.in_ok-roots.roots c.if-roots-eq0.true c.in_ok-roots.ensures.ok c.refusal.ensures

pub returns-clause-ok : goal.returns-clause-ok
returns-clause-ok c = generators_read c.in_ok-roots.roots (omega arith) c.in_ok-roots.ensures.most c.in_ok-roots.ensures.ok
