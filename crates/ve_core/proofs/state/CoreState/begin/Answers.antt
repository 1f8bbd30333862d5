use Rattle.std.proofs.Common.{◌<◌, length, arith, sym, subst}
use Rattle.std.proofs.lemmas.Option.{slice_get_within}
use Rattle.ve_table.specs.Tables.{presented}
use Rattle.ve_machine.specs.Seats.{empty_desk}
use Rattle.ve_machine.specs.SharedSteps.{CanTake}
use Rattle.ve_machine.specs.Machines.{Machine, to_take}
use Rattle.ve_hand.specs.Jobs.{job_of}
use Rattle.ve_core.specs.Kept.{machine_of}
use Rattle.ve_core.proofs.Keeping.{fit_but, kept_after, seat_has_hand}
use Rattle.ve_core.proofs.Moves.{job_taken}
use Rattle.ve_core.proofs.state.CoreState.begin.Goals as goal

pub index_mut-requires : goal.index_mut-requires
index_mut-requires c =
    let can : CanTake (machine_of c.self.inside).shared c.args.seat (job_of c.args.job) = subst (λ (M : Machine). CanTake M.shared c.args.seat (job_of c.args.job)) (sym c.self.view_is) c.requires in
    let less : c.args.seat < length c.self.inside.desks.items = slice_get_within c.self.inside.desks.items c.args.seat empty_desk can.idle in
    omega (arith, less, c.self.inside.desks.ok.0)

pub index_mut-requires-2 : goal.index_mut-requires-2
index_mut-requires-2 c =
    let can : CanTake (machine_of c.self.inside).shared c.args.seat (job_of c.args.job) = subst (λ (M : Machine). CanTake M.shared c.args.seat (job_of c.args.job)) (sym c.self.view_is) c.requires in
    let less : c.args.seat < length c.self.inside.hands.items = seat_has_hand (machine_of c.self.inside) c.self.invariant.right c.args.seat empty_desk can.idle in
    omega (arith, less, c.self.inside.hands.ok.0)

pub invariant_of-self : goal.invariant_of-self
invariant_of-self c =
    let can : CanTake (machine_of c.self.inside).shared c.args.seat (job_of c.args.job) = subst (λ (M : Machine). CanTake M.shared c.args.seat (job_of c.args.job)) (sym c.self.view_is) c.requires in
    kept_after c.moves_go_right.ensures c.self.inside _ (to_take c.args.seat (job_of c.args.job)) c.self.invariant
    (job_taken c.self.inside c.self.invariant c.args.seat (job_of c.args.job) c.with_job.result c.in_ok-hand.hand can c.with_job.ensures c.in_ok-hand.ensures.value) c.self.invariant.table
    (fit_but (presented c.self.inside.table).prime c.args.seat c.in_ok-hand.hand c.self.inside.hands.items c.in_ok-hand.ensures.fits c.self.invariant.hands)

pub returns-clause-ok : goal.returns-clause-ok
returns-clause-ok c =
    let can : CanTake (machine_of c.self.inside).shared c.args.seat (job_of c.args.job) = subst (λ (M : Machine). CanTake M.shared c.args.seat (job_of c.args.job)) (sym c.self.view_is) c.requires in
    rw (← c.self.view_is) (job_taken c.self.inside c.self.invariant c.args.seat (job_of c.args.job) c.with_job.result c.in_ok-hand.hand can c.with_job.ensures c.in_ok-hand.ensures.value)
