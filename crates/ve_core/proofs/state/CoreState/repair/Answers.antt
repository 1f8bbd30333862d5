use Rattle.std.proofs.Common.{◌≡◌, ◌<◌, length, ap, arith, subst, ◌∙◌}
use Rattle.ve_table.specs.Tables.{presented}
use Rattle.ve_machine.specs.Machines.{HasHand, to_repair}
use Rattle.ve_hand.specs.Fits.{FitsHand}
use Rattle.ve_core.specs.Kept.{machine_of}
use Rattle.ve_core.proofs.Keeping.{fit_but, kept_tried}
use Rattle.ve_core.proofs.Moves.{repair_tried, held}
use Rattle.ve_core.proofs.state.CoreState.repair.Goals as goal

pub invariant_of-self-2 : goal.invariant_of-self-2
invariant_of-self-2 c =
    let prime : c.field.result.now ≡ (presented c.self.inside.table).prime = c.field.ensures.field ∙ ap (λ d. d.presentation.prime) c.presentation.ensures.value in
    let less : c.args.seat < length c.self.inside.hands.items = omega (arith, c.if-seat-len.false, c.len.ensures, c.self.inside.hands.ok.0) in
    let has : HasHand (machine_of c.self.inside) c.args.seat c.index_mut.result.now = held c.self.inside.hands.items c.args.seat c.index_mut.result.now less c.index_mut.ensures.value in
    kept_tried c.moves_go_right.ensures c.self.inside _ (to_repair c.args.seat) c.in_ok-repaired.repaired c.self.invariant
    (repair_tried c.self.inside c.self.invariant c.args.seat c.field.result.now c.index_mut.result.now c.repair.new.self c.in_ok-repaired.repaired prime has c.in_ok-repaired.ensures.ok) c.self.invariant.table
    (fit_but (presented c.self.inside.table).prime c.args.seat c.repair.new.self c.self.inside.hands.items (subst (λ p. FitsHand p c.repair.new.self) prime c.in_ok-repaired.ensures.fits) c.self.invariant.hands)

pub returns-clause-ok : goal.returns-clause-ok
returns-clause-ok c =
    let prime : c.field.result.now ≡ (presented c.self.inside.table).prime = c.field.ensures.field ∙ ap (λ d. d.presentation.prime) c.presentation.ensures.value in
    let less : c.args.seat < length c.self.inside.hands.items = omega (arith, c.if-seat-len.false, c.len.ensures, c.self.inside.hands.ok.0) in
    let has : HasHand (machine_of c.self.inside) c.args.seat c.index_mut.result.now = held c.self.inside.hands.items c.args.seat c.index_mut.result.now less c.index_mut.ensures.value in
    rw (← c.self.view_is) (repair_tried c.self.inside c.self.invariant c.args.seat c.field.result.now c.index_mut.result.now c.repair.new.self c.in_ok-repaired.repaired prime has c.in_ok-repaired.ensures.ok)
