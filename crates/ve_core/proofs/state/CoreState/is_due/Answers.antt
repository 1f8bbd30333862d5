use Rattle.std.proofs.Common.{◌↔◌, IsTrue, subst}
use Rattle.ve_machine.specs.SharedJobs.{HasLiveId, IsOfLevel}
use Rattle.ve_machine.specs.Machines.{Machine}
use Rattle.ve_hand.specs.Jobs.{job_of}
use Rattle.ve_core.proofs.Waiting.{level_of_opening}
use Rattle.ve_core.proofs.state.CoreState.is_due.Goals as goal

pub returns : goal.returns
returns c =
    let same = level_of_opening c.self.inside.opening.value c.self.inside.table c.self.invariant.table (job_of c.args.job) in
    let is = c.is_of_level.ensures in
    subst (λ (M : Machine). IsTrue c.is_of_level.result ↔ (IsOfLevel M.shared.opening M.shared.forwards (job_of c.args.job) × HasLiveId M.shared.forwards (job_of c.args.job))) c.self.view_is
    (λ yes. (same.0 (is.0 yes).0, (is.0 yes).1), λ due. is.1 (same.1 due.0, due.1))
