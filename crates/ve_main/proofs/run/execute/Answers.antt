use Rattle.std.proofs.lemmas.Result.{err_from_is_err_and}
use Rattle.ve_main.proofs.Runs.{stopped_words}
use Rattle.ve_main.proofs.run.execute.Goals as goal

pub returns-in_err-command-clause-stopped : goal.returns-in_err-command-clause-stopped
returns-in_err-command-clause-stopped g c =
    let p = err_from_is_err_and c.from_residual.result c.from_residual.ensures.1 in
    rw (p.1, p.2) (stopped_words _ _ c.in_err-command.field-0.0 c.in_err-command.ensures.refused)
