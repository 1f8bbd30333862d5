use Rattle.std.proofs.Common.{◌↔◌, Contains, IsTrue, subst}
use Rattle.ve_machine.specs.Machines.{Machine}
use Rattle.ve_hand.specs.Jobs.{job_of}
use Rattle.ve_core.proofs.state.CoreState.is_done.Goals as goal

pub returns : goal.returns
returns c = subst (λ (M : Machine). IsTrue c.contains.result ↔ Contains M.shared.done (job_of c.args.job)) c.self.view_is c.contains.ensures
