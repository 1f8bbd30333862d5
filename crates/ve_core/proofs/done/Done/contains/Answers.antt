use Rattle.std.proofs.Common.{Contains, List, sym, subst, ◌∙◌}
use Rattle.ve_machine.specs.Seats.{Job as SeatJob}
use Rattle.ve_hand.specs.Jobs.{job_of}
use Rattle.ve_core.proofs.Dones.{done_found, found_done}
use Rattle.ve_core.proofs.Keys.{key_eq, own_key, same_key}
use Rattle.ve_core.proofs.done.Done.contains.Goals as goal

pub returns : goal.returns
returns c = (
  λ yes.
      subst (λ (done : List SeatJob). Contains done (job_of c.args.job)) c.self.view_is
      (done_found key_eq same_key own_key c.self.inside.keys.keys c.key_of.result (job_of c.args.job) c.key_of.ensures (sym c.contains.ensures ∙ yes)),
  λ found.
      c.contains.ensures
      ∙ found_done key_eq same_key own_key c.self.inside.keys.keys c.key_of.result (job_of c.args.job) c.key_of.ensures
      (subst (λ (done : List SeatJob). Contains done (job_of c.args.job)) (sym c.self.view_is) found),
)
