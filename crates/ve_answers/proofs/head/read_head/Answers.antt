use Rattle.std.proofs.lemmas.Result.{err_from_is_err_and}
use Rattle.ve_answers.proofs.HeadSteps.{below_greatest, no_version, prime_refused, names_refused, generators_refused, level_refused, dimension_refused, head_leads}
use Rattle.ve_answers.proofs.head.read_head.Goals as goal

pub returns-in_err-take-clause-err : goal.returns-in_err-take-clause-err
returns-in_err-take-clause-err c =
    let failed = err_from_is_err_and c.from_residual.result c.from_residual.ensures.1 in
    rw (failed.1, failed.2) (no_version c.in_err-take.ensures.err)

pub returns-in_err-field-clause-err : goal.returns-in_err-field-clause-err
returns-in_err-field-clause-err c =
    let failed = err_from_is_err_and c.from_residual-in_err-field.result c.from_residual-in_err-field.ensures.1 in
    rw (failed.1, failed.2) (prime_refused c.in_ok-take.ensures.ok _ c.in_err-field.ensures.err)

pub returns-in_err-names-clause-err : goal.returns-in_err-names-clause-err
returns-in_err-names-clause-err c =
    let failed = err_from_is_err_and c.from_residual-in_err-names.result c.from_residual-in_err-names.ensures.1 in
    rw (failed.1, failed.2) (names_refused c.in_ok-take.ensures.ok _ c.in_ok-field.ensures.ok _ c.in_err-names.ensures.err)

pub returns-in_err-roots-clause-err : goal.returns-in_err-roots-clause-err
returns-in_err-roots-clause-err c =
    let failed = err_from_is_err_and c.from_residual-in_err-roots.result c.from_residual-in_err-roots.ensures.1 in
    rw (failed.1, failed.2) (generators_refused c.in_ok-take.ensures.ok _ c.in_ok-field.ensures.ok _ c.in_ok-names.ensures.ok _ c.in_err-roots.ensures.err)

pub returns-in_err-closed-clause-err : goal.returns-in_err-closed-clause-err
returns-in_err-closed-clause-err c =
    let failed = err_from_is_err_and c.from_residual-in_err-closed.result c.from_residual-in_err-closed.ensures.1 in
    rw (failed.1, failed.2)
    (level_refused c.in_ok-take.ensures.ok _ c.in_ok-field.ensures.ok _ c.in_ok-names.ensures.ok _ c.in_ok-roots.ensures.ok _ c.from.ensures c.in_err-closed.ensures.err)

pub returns-in_err-dimension-clause-err : goal.returns-in_err-dimension-clause-err
returns-in_err-dimension-clause-err c =
    let failed = err_from_is_err_and c.from_residual-in_err-dimension.result c.from_residual-in_err-dimension.ensures.1 in
    rw (failed.1, failed.2)
    (dimension_refused c.in_ok-take.ensures.ok _ c.in_ok-field.ensures.ok _ c.in_ok-names.ensures.ok _ c.in_ok-roots.ensures.ok _ (below_greatest _ _ c.in_ok-closed.ensures.most c.from.ensures) c.in_ok-closed.ensures.ok
    _ c.from-2.ensures c.in_err-dimension.ensures.err)

pub returns-clause-ok : goal.returns-clause-ok
returns-clause-ok c =
    head_leads c.in_ok-take.ensures.ok _ c.in_ok-field.ensures.ok _ c.in_ok-names.ensures.ok _ c.in_ok-roots.ensures.ok _ (below_greatest _ _ c.in_ok-closed.ensures.most c.from.ensures) c.in_ok-closed.ensures.ok
    _ (below_greatest _ _ c.in_ok-dimension.ensures.most c.from-2.ensures) c.in_ok-dimension.ensures.ok
