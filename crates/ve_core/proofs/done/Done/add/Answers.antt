use Rattle.std.proofs.Common.{◌∷◌, Contains, List, ap, subst, ◌∙◌}
use Rattle.ve_machine.specs.Seats.{Job as SeatJob}
use Rattle.ve_hand.specs.Jobs.{job_of}
use Rattle.ve_core.proofs.Dones.{added}
use Rattle.ve_core.proofs.Keys.{key_eq, own_key, same_key}
use Rattle.ve_core.proofs.done.Done.add.Goals as goal

pub returns-clause-ok : goal.returns-clause-ok
returns-clause-ok c =
    added key_eq same_key own_key c.self.inside.keys.keys c.insert.new.self.keys c.key_of.result (job_of c.args.job) c.key_of.ensures
    (λ found. c.requires (subst (λ (done : List SeatJob). Contains done (job_of c.args.job)) c.self.view_is found)) c.in_ok-insert.ensures.keys
    ∙ ap (λ (done : List SeatJob). job_of c.args.job ∷ done) c.self.view_is
