use Rattle.std.proofs.Common.{◌≡◌, ◌<◌, Some, All, [], ◌∷◌, ◌++◌, length, refl, ap, sym, subst, ◌∙◌}
use Rattle.ve_theory.specs.Derivations.{DerivedWithin}
use Rattle.ve_table.specs.Tables.{ActionTable, element_of, presented}
use Rattle.ve_machine.specs.Forwards.{AreLive}
use Rattle.ve_machine.specs.Seats.{with_relation}
use Rattle.ve_machine.specs.Hands.{summed_hand}
use Rattle.ve_machine.specs.Machines.{HasHand, Machine, to_conclude}
use Rattle.ve_machine.specs.Allowed.{IsAllowed}
use Rattle.ve_hand.specs.Fits.{FitsHand}
use Rattle.ve_core.specs.Kept.{machine_of}
use Rattle.ve_core.proofs.Keeping.{fit_but, kept_after, seat_has_hand}
use Rattle.ve_core.proofs.Moves.{held, relation_deleted, relation_dropped}
use Rattle.ve_core.proofs.Relations.{same_vector, vector_vanishes}
use Rattle.ve_core.proofs.Tables.{at_work_where_id_dies, at_work_where_same}
use Rattle.ve_core.proofs.state.CoreState.let_die.Goals as goal

pub delete-requires-clause-derived : goal.delete-requires-clause-derived
delete-requires-clause-derived c =
    let allowed : IsAllowed (machine_of c.self.inside) (to_conclude c.args.seat) = subst (λ (M : Machine). IsAllowed M (to_conclude c.args.seat)) (sym c.self.view_is) c.requires in
    let less : c.args.seat < length c.self.inside.hands.items = seat_has_hand (machine_of c.self.inside) c.self.invariant.right c.args.seat (with_relation allowed.0) allowed.1 in
    let has : HasHand (machine_of c.self.inside) c.args.seat (summed_hand c.take_sum-vector.result c.take_sum-vector.ensures.sum.0) =
    held c.self.inside.hands.items c.args.seat c.index_mut.result.now less c.index_mut.ensures.value ∙ ap Some c.take_sum-vector.ensures.sum.1 in
    subst (λ (T : ActionTable). DerivedWithin (presented T) T.level (element_of T c.take_sum-vector.result)) (sym c.self.invariant.table)
    (vector_vanishes (machine_of c.self.inside) c.self.invariant.right c.args.seat allowed.0 allowed.1 c.steps_keep_sound.ensures c.take_sum-vector.result c.take_sum-vector.ensures.sum.0 has).derived

pub invariant_of-self-in-Some : goal.invariant_of-self-in-Some
invariant_of-self-in-Some c =
    let allowed : IsAllowed (machine_of c.self.inside) (to_conclude c.args.seat) = subst (λ (M : Machine). IsAllowed M (to_conclude c.args.seat)) (sym c.self.view_is) c.requires in
    let less : c.args.seat < length c.self.inside.hands.items = seat_has_hand (machine_of c.self.inside) c.self.invariant.right c.args.seat (with_relation allowed.0) allowed.1 in
    let has : HasHand (machine_of c.self.inside) c.args.seat (summed_hand c.take_sum-vector.result c.take_sum-vector.ensures.sum.0) =
    held c.self.inside.hands.items c.args.seat c.index_mut.result.now less c.index_mut.ensures.value ∙ ap Some c.take_sum-vector.ensures.sum.1 in
    let live : AreLive c.self.inside.table.forwards c.take_sum-vector.result =
    subst (AreLive c.self.inside.table.forwards) (same_vector (machine_of c.self.inside) c.args.seat allowed.2.0 c.take_sum-vector.result allowed.2.1.0 c.take_sum-vector.ensures.sum.0 allowed.2.1.1 has) allowed.2.2 in
    let entries : c.push_reserved.new.self.items ≡ c.self.inside.journal.items ++ record { seat = c.args.seat; id = c.in-Some.id } ∷ [] =
    c.push_reserved.ensures.items ∙ ap (λ entries. entries ++ record { seat = c.args.seat; id = c.in-Some.id } ∷ []) c.reserve.ensures.items in
    kept_after c.moves_go_right.ensures c.self.inside _ (to_conclude c.args.seat) c.self.invariant
    (relation_deleted c.self.inside c.self.invariant c.args.seat allowed.0 c.take_sum-vector.result c.take_sum-vector.ensures.sum.0 c.in-Some.id c.in-Some.ensures.dead.0 c.delete.new.table c.push_reserved.new.self.items c.empty.result
    c.take_sum-vector.new.hand allowed.1 has live c.in-Some.ensures.dead.1 c.in-Some.ensures.dead.2 entries c.empty.ensures c.take_sum-vector.ensures.empty)
    (at_work_where_id_dies c.self.inside.opening.value c.self.inside.table c.delete.new.table c.in-Some.id c.in-Some.ensures.dead.0 c.self.invariant.table c.in-Some.ensures.dead.2)
    (fit_but (presented c.delete.new.table).prime c.args.seat c.take_sum-vector.new.hand c.self.inside.hands.items (c.take_sum-vector.ensures.fits (presented c.delete.new.table).prime)
    (subst (λ p. All (FitsHand p) c.self.inside.hands.items) (sym (ap (λ (T : ActionTable). (presented T).prime) c.in-Some.ensures.dead.2)) c.self.invariant.hands))

pub invariant_of-self-in_default : goal.invariant_of-self-in_default
invariant_of-self-in_default c =
    let allowed : IsAllowed (machine_of c.self.inside) (to_conclude c.args.seat) = subst (λ (M : Machine). IsAllowed M (to_conclude c.args.seat)) (sym c.self.view_is) c.requires in
    let less : c.args.seat < length c.self.inside.hands.items = seat_has_hand (machine_of c.self.inside) c.self.invariant.right c.args.seat (with_relation allowed.0) allowed.1 in
    let has : HasHand (machine_of c.self.inside) c.args.seat (summed_hand c.take_sum-vector.result c.take_sum-vector.ensures.sum.0) =
    held c.self.inside.hands.items c.args.seat c.index_mut.result.now less c.index_mut.ensures.value ∙ ap Some c.take_sum-vector.ensures.sum.1 in
    kept_after c.moves_go_right.ensures c.self.inside _ (to_conclude c.args.seat) c.self.invariant
    (relation_dropped c.self.inside c.self.invariant c.args.seat allowed.0 c.take_sum-vector.result c.take_sum-vector.ensures.sum.0 c.delete.new.table c.reserve.new.self.items c.empty.result c.take_sum-vector.new.hand allowed.1 has
    (c.in_default.ensures.zero.0 refl) (c.in_default.ensures.same refl) c.reserve.ensures.items c.empty.ensures c.take_sum-vector.ensures.empty)
    (at_work_where_same c.self.inside.opening.value c.self.inside.table c.delete.new.table c.self.invariant.table (c.in_default.ensures.same refl))
    (fit_but (presented c.delete.new.table).prime c.args.seat c.take_sum-vector.new.hand c.self.inside.hands.items (c.take_sum-vector.ensures.fits (presented c.delete.new.table).prime)
    (subst (λ p. All (FitsHand p) c.self.inside.hands.items) (sym (ap (λ (T : ActionTable). (presented T).prime) (c.in_default.ensures.same refl))) c.self.invariant.hands))

pub returns-in-Some-clause-ok : goal.returns-in-Some-clause-ok
returns-in-Some-clause-ok c =
    let allowed : IsAllowed (machine_of c.self.inside) (to_conclude c.args.seat) = subst (λ (M : Machine). IsAllowed M (to_conclude c.args.seat)) (sym c.self.view_is) c.requires in
    let less : c.args.seat < length c.self.inside.hands.items = seat_has_hand (machine_of c.self.inside) c.self.invariant.right c.args.seat (with_relation allowed.0) allowed.1 in
    let has : HasHand (machine_of c.self.inside) c.args.seat (summed_hand c.take_sum-vector.result c.take_sum-vector.ensures.sum.0) =
    held c.self.inside.hands.items c.args.seat c.index_mut.result.now less c.index_mut.ensures.value ∙ ap Some c.take_sum-vector.ensures.sum.1 in
    let live : AreLive c.self.inside.table.forwards c.take_sum-vector.result =
    subst (AreLive c.self.inside.table.forwards) (same_vector (machine_of c.self.inside) c.args.seat allowed.2.0 c.take_sum-vector.result allowed.2.1.0 c.take_sum-vector.ensures.sum.0 allowed.2.1.1 has) allowed.2.2 in
    let entries : c.push_reserved.new.self.items ≡ c.self.inside.journal.items ++ record { seat = c.args.seat; id = c.in-Some.id } ∷ [] =
    c.push_reserved.ensures.items ∙ ap (λ entries. entries ++ record { seat = c.args.seat; id = c.in-Some.id } ∷ []) c.reserve.ensures.items in
    rw (← c.self.view_is)
    (relation_deleted c.self.inside c.self.invariant c.args.seat allowed.0 c.take_sum-vector.result c.take_sum-vector.ensures.sum.0 c.in-Some.id c.in-Some.ensures.dead.0 c.delete.new.table c.push_reserved.new.self.items c.empty.result
    c.take_sum-vector.new.hand allowed.1 has live c.in-Some.ensures.dead.1 c.in-Some.ensures.dead.2 entries c.empty.ensures c.take_sum-vector.ensures.empty)

pub returns-in_default-clause-ok : goal.returns-in_default-clause-ok
returns-in_default-clause-ok c =
    let allowed : IsAllowed (machine_of c.self.inside) (to_conclude c.args.seat) = subst (λ (M : Machine). IsAllowed M (to_conclude c.args.seat)) (sym c.self.view_is) c.requires in
    let less : c.args.seat < length c.self.inside.hands.items = seat_has_hand (machine_of c.self.inside) c.self.invariant.right c.args.seat (with_relation allowed.0) allowed.1 in
    let has : HasHand (machine_of c.self.inside) c.args.seat (summed_hand c.take_sum-vector.result c.take_sum-vector.ensures.sum.0) =
    held c.self.inside.hands.items c.args.seat c.index_mut.result.now less c.index_mut.ensures.value ∙ ap Some c.take_sum-vector.ensures.sum.1 in
    rw (← c.self.view_is)
    (relation_dropped c.self.inside c.self.invariant c.args.seat allowed.0 c.take_sum-vector.result c.take_sum-vector.ensures.sum.0 c.delete.new.table c.reserve.new.self.items c.empty.result c.take_sum-vector.new.hand allowed.1 has
    (c.in_default.ensures.zero.0 refl) (c.in_default.ensures.same refl) c.reserve.ensures.items c.empty.ensures c.take_sum-vector.ensures.empty)
