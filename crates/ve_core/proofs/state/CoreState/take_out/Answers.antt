use Rattle.std.proofs.Common.{◌≡◌, ◌<◌, Some, length, slice_get, arith, sym, subst}
use Rattle.ve_table.specs.Tables.{presented}
use Rattle.ve_machine.specs.Seats.{HasDesk, empty_desk}
use Rattle.ve_machine.specs.Covered.{IsRelation}
use Rattle.ve_machine.specs.Machines.{Machine, to_lift}
use Rattle.ve_lemmas.proofs.Lists.{All-slice_get}
use Rattle.ve_hand.specs.Fits.{FitsHand}
use Rattle.ve_core.specs.Kept.{machine_of}
use Rattle.ve_core.proofs.Keeping.{fit_but, kept_after, seat_has_hand}
use Rattle.ve_core.proofs.Moves.{held, own_prime, relation_lifted}
use Rattle.ve_core.proofs.state.CoreState.take_out.Goals as goal

pub index_mut-requires-2 : goal.index_mut-requires-2
index_mut-requires-2 c =
    let idle : HasDesk (machine_of c.self.inside).shared c.args.seat empty_desk = subst (λ (M : Machine). HasDesk M.shared c.args.seat empty_desk) (sym c.self.view_is) c.requires.idle in
    let less : c.args.seat < length c.self.inside.hands.items = seat_has_hand (machine_of c.self.inside) c.self.invariant.right c.args.seat empty_desk idle in
    omega (arith, less, c.self.inside.hands.ok.0)

pub invariant_of-self : goal.invariant_of-self
invariant_of-self c =
    let idle : HasDesk (machine_of c.self.inside).shared c.args.seat empty_desk = subst (λ (M : Machine). HasDesk M.shared c.args.seat empty_desk) (sym c.self.view_is) c.requires.idle in
    let within : c.args.place < length c.self.inside.queue.items = subst (λ (M : Machine). c.args.place < length M.shared.queue) (sym c.self.view_is) c.requires.queued in
    let queued : slice_get c.self.inside.queue.items c.args.place ≡ Some c.remove-relation.result = held c.self.inside.queue.items c.args.place c.remove-relation.result within c.remove-relation.ensures.value in
    let relation : IsRelation c.self.inside.opening.value c.remove-relation.result =
    All-slice_get (IsRelation c.self.inside.opening.value) c.self.inside.queue.items c.args.place c.remove-relation.result queued c.self.invariant.right.sound.queue in
    kept_after c.moves_go_right.ensures c.self.inside _ (to_lift c.args.seat c.args.place) c.self.invariant
    (relation_lifted c.self.inside c.self.invariant c.args.seat c.args.place c.remove-relation.result c.remove-relation.new.self.items c.with_relation.result c.of_relation.result idle queued c.remove-relation.ensures.items c.with_relation.ensures
    c.of_relation.ensures.value)
    c.self.invariant.table
    (fit_but (presented c.self.inside.table).prime c.args.seat c.of_relation.result c.self.inside.hands.items
    (subst (λ p. FitsHand p c.of_relation.result) (sym (own_prime c.self.inside c.self.invariant)) (c.of_relation.ensures.fits (presented c.self.inside.opening.value).prime relation.vector.0)) c.self.invariant.hands)

pub returns : goal.returns
returns c =
    let idle : HasDesk (machine_of c.self.inside).shared c.args.seat empty_desk = subst (λ (M : Machine). HasDesk M.shared c.args.seat empty_desk) (sym c.self.view_is) c.requires.idle in
    let within : c.args.place < length c.self.inside.queue.items = subst (λ (M : Machine). c.args.place < length M.shared.queue) (sym c.self.view_is) c.requires.queued in
    let queued : slice_get c.self.inside.queue.items c.args.place ≡ Some c.remove-relation.result = held c.self.inside.queue.items c.args.place c.remove-relation.result within c.remove-relation.ensures.value in
    rw (← c.self.view_is)
    (relation_lifted c.self.inside c.self.invariant c.args.seat c.args.place c.remove-relation.result c.remove-relation.new.self.items c.with_relation.result c.of_relation.result idle queued c.remove-relation.ensures.items c.with_relation.ensures
    c.of_relation.ensures.value)
