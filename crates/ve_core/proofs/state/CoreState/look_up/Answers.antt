use Rattle.std.proofs.Common.{◌<◌, length, sym, subst}
use Rattle.ve_table.specs.Tables.{presented}
use Rattle.ve_machine.specs.SharedSteps.{CanRead}
use Rattle.ve_machine.specs.Machines.{HasHand, Machine, to_read}
use Rattle.ve_core.specs.Kept.{machine_of}
use Rattle.ve_core.proofs.Keeping.{fit_but, kept_after, seat_has_hand}
use Rattle.ve_core.proofs.Moves.{hand_read, held}
use Rattle.ve_core.proofs.state.CoreState.look_up.Goals as goal

pub invariant_of-self-2 : goal.invariant_of-self-2
invariant_of-self-2 c =
    let can : CanRead (machine_of c.self.inside).shared c.args.seat = subst (λ (M : Machine). CanRead M.shared c.args.seat) (sym c.self.view_is) c.requires in
    let less : c.args.seat < length c.self.inside.hands.items = seat_has_hand (machine_of c.self.inside) c.self.invariant.right c.args.seat can.desk can.on_desk in
    let has : HasHand (machine_of c.self.inside) c.args.seat c.index_mut.result.now = held c.self.inside.hands.items c.args.seat c.index_mut.result.now less c.index_mut.ensures.value in
    kept_after c.moves_go_right.ensures c.self.inside _ (to_read c.args.seat) c.self.invariant
    (hand_read c.self.inside c.self.invariant c.args.seat c.index_mut.result.now c.read.new.self can has (c.in_ok-read.ensures.ok (machine_of c.self.inside).shared (sym c.self.invariant.table))) c.self.invariant.table
    (fit_but (presented c.self.inside.table).prime c.args.seat c.read.new.self c.self.inside.hands.items c.in_ok-read.ensures.fits c.self.invariant.hands)

pub returns-clause-ok : goal.returns-clause-ok
returns-clause-ok c =
    let can : CanRead (machine_of c.self.inside).shared c.args.seat = subst (λ (M : Machine). CanRead M.shared c.args.seat) (sym c.self.view_is) c.requires in
    let less : c.args.seat < length c.self.inside.hands.items = seat_has_hand (machine_of c.self.inside) c.self.invariant.right c.args.seat can.desk can.on_desk in
    let has : HasHand (machine_of c.self.inside) c.args.seat c.index_mut.result.now = held c.self.inside.hands.items c.args.seat c.index_mut.result.now less c.index_mut.ensures.value in
    rw (← c.self.view_is)
    (hand_read c.self.inside c.self.invariant c.args.seat c.index_mut.result.now c.read.new.self can has (c.in_ok-read.ensures.ok (machine_of c.self.inside).shared (sym c.self.invariant.table)))
