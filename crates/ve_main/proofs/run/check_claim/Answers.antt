use Rattle.std.proofs.Common.{refl}
use Rattle.std.proofs.lemmas.Result.{err_from_is_err_and}
use Rattle.ve_main.proofs.Runs.{stopped_claim, stopped_verdict}
use Rattle.ve_main.proofs.run.check_claim.Goals as goal

pub returns-clause-stopped : goal.returns-clause-stopped
returns-clause-stopped g c = stopped_verdict _ _ c.in_ok-claim.claim.presentation.presentation _ c.in_ok-claim.ensures.taken _ c.write_verdict.ensures.stopped

pub returns-in_err-claim-clause-stopped : goal.returns-in_err-claim-clause-stopped
returns-in_err-claim-clause-stopped g c =
    let p = err_from_is_err_and c.from_residual.result c.from_residual.ensures.1 in
    rw (p.1, p.2) (stopped_claim _ _ refl _ c.in_err-claim.ensures.stopped)
