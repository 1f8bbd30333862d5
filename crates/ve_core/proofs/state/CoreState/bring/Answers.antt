use Rattle.std.proofs.Common.{◌≡◌, ◌<◌, Some, [], ◌∷◌, ◌++◌, length, ap, sym, subst, ◌∙◌}
use Rattle.ve_table.specs.Tables.{presented}
use Rattle.ve_machine.specs.Seats.{HasDesk, with_job}
use Rattle.ve_machine.specs.Hands.{summed_hand}
use Rattle.ve_machine.specs.Machines.{HasHand, Machine, to_submit}
use Rattle.ve_hand.specs.Jobs.{job_of}
use Rattle.ve_core.specs.Kept.{machine_of}
use Rattle.ve_core.proofs.Keeping.{fit_but, kept_after, seat_has_hand}
use Rattle.ve_core.proofs.Moves.{held, job_submitted}
use Rattle.ve_core.proofs.state.CoreState.bring.Goals as goal

pub add-requires : goal.add-requires
add-requires c =
    c.self.invariant.apart.undone c.args.seat (job_of c.args.job) (subst (λ (M : Machine). HasDesk M.shared c.args.seat (with_job (job_of c.args.job))) (sym c.self.view_is) c.requires.desk)

pub invariant_of-self-2 : goal.invariant_of-self-2
invariant_of-self-2 c =
    let on_desk : HasDesk (machine_of c.self.inside).shared c.args.seat (with_job (job_of c.args.job)) = subst (λ (M : Machine). HasDesk M.shared c.args.seat (with_job (job_of c.args.job))) (sym c.self.view_is) c.requires.desk in
    let less : c.args.seat < length c.self.inside.hands.items = seat_has_hand (machine_of c.self.inside) c.self.invariant.right c.args.seat (with_job (job_of c.args.job)) on_desk in
    let has : HasHand (machine_of c.self.inside) c.args.seat (summed_hand c.take_sum-vector.result c.take_sum-vector.ensures.sum.0) =
    held c.self.inside.hands.items c.args.seat c.index_mut.result.now less c.index_mut.ensures.value ∙ ap Some c.take_sum-vector.ensures.sum.1 in
    let queued : c.push_reserved.new.self.items ≡ c.self.inside.queue.items ++ c.take_sum-vector.result ∷ [] = c.push_reserved.ensures.items ∙ ap (λ q. q ++ c.take_sum-vector.result ∷ []) c.reserve.ensures.items in
    kept_after c.moves_go_right.ensures c.self.inside _ (to_submit c.args.seat) c.self.invariant
    (job_submitted c.self.inside c.self.invariant c.args.seat (job_of c.args.job) c.take_sum-vector.result c.take_sum-vector.ensures.sum.0 c.add.new.self c.push_reserved.new.self.items c.empty.result c.take_sum-vector.new.hand on_desk has c.in_ok-add.ensures.ok queued c.empty.ensures
    c.take_sum-vector.ensures.empty)
    c.self.invariant.table
    (fit_but (presented c.self.inside.table).prime c.args.seat c.take_sum-vector.new.hand c.self.inside.hands.items (c.take_sum-vector.ensures.fits (presented c.self.inside.table).prime) c.self.invariant.hands)

pub returns-clause-ok : goal.returns-clause-ok
returns-clause-ok c =
    let on_desk : HasDesk (machine_of c.self.inside).shared c.args.seat (with_job (job_of c.args.job)) = subst (λ (M : Machine). HasDesk M.shared c.args.seat (with_job (job_of c.args.job))) (sym c.self.view_is) c.requires.desk in
    let less : c.args.seat < length c.self.inside.hands.items = seat_has_hand (machine_of c.self.inside) c.self.invariant.right c.args.seat (with_job (job_of c.args.job)) on_desk in
    let has : HasHand (machine_of c.self.inside) c.args.seat (summed_hand c.take_sum-vector.result c.take_sum-vector.ensures.sum.0) =
    held c.self.inside.hands.items c.args.seat c.index_mut.result.now less c.index_mut.ensures.value ∙ ap Some c.take_sum-vector.ensures.sum.1 in
    let queued : c.push_reserved.new.self.items ≡ c.self.inside.queue.items ++ c.take_sum-vector.result ∷ [] = c.push_reserved.ensures.items ∙ ap (λ q. q ++ c.take_sum-vector.result ∷ []) c.reserve.ensures.items in
    rw (← c.self.view_is)
    (job_submitted c.self.inside c.self.invariant c.args.seat (job_of c.args.job) c.take_sum-vector.result c.take_sum-vector.ensures.sum.0 c.add.new.self c.push_reserved.new.self.items c.empty.result c.take_sum-vector.new.hand on_desk has c.in_ok-add.ensures.ok queued c.empty.ensures
    c.take_sum-vector.ensures.empty)
