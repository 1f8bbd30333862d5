use Rattle.std.proofs.Common.{◌+◌, ◌-◌, ◌*◌, arith, ap, sym, subst, ◌∙◌, []}
use Rattle.ve_make.specs.Symmetric.{order_relation}
use Rattle.ve_make.specs.Parts.{swaps_draft, HasRoom}
use Rattle.ve_pres.specs.Drafts.{with_relator}
use Rattle.ve_make.proofs.Building.{swaps_count, orders-first, next_order, room_order, more_room}
use Rattle.ve_make.proofs.lines.add_orders_with.Goals as goal

pub loop-second-init : goal.loop-second-init
loop-second-init c = record {
  stands = c.requires.stands ∙ ap (λ rs. swaps_draft c.args.field.now c.args.swaps rs []) (orders-first c.args.field.now c.args.first c.args.presentation.now.presentation.relations);
  room = more_room c.args.presentation.now (24 * c.args.first) (24 * c.args.first + (c.args.first + 1 - (c.args.first + 1))) (omega arith) c.requires.room;
}

pub add_order-requires-clause-last : goal.add_order-requires-clause-last
add_order-requires-clause-last c = let count = swaps_count _ _ _ _ c.loop-second.presentation c.loop-second.invariant.stands in omega arith

pub add_order-requires-clause-room : goal.add_order-requires-clause-room
add_order-requires-clause-room c =
    more_room c.loop-second.presentation (24 * c.args.first + (c.loop-second.second - (c.args.first + 1))) 600 (omega arith) c.loop-second.invariant.room

pub loop-second-preserved : goal.loop-second-preserved
loop-second-preserved c = record {
  stands = next_order c.args.field.now c.args.swaps c.args.first c.loop-second.second c.args.presentation.now.presentation.relations c.loop-second.presentation c.add_order.new.presentation
      (omega arith) c.loop-second.invariant.stands c.in_ok-add_order.ensures;
  room = subst (λ d. HasRoom (24 * c.args.first + (c.loop-second.second + 1 - (c.args.first + 1))) d) (sym c.in_ok-add_order.ensures)
      (more_room (with_relator c.loop-second.presentation (order_relation c.args.field.now c.args.first c.loop-second.second))
      (24 * c.args.first + (c.loop-second.second - (c.args.first + 1)) + 1) (24 * c.args.first + (c.loop-second.second + 1 - (c.args.first + 1))) (omega arith)
      (room_order c.loop-second.presentation c.args.field.now c.args.first c.loop-second.second (24 * c.args.first + (c.loop-second.second - (c.args.first + 1))) c.loop-second.invariant.room));
}

pub returns-clause-room : goal.returns-clause-room
returns-clause-room c =
    more_room c.loop-second.presentation (24 * c.args.first + (c.loop-second.second - (c.args.first + 1))) (24 * (c.args.first + 1)) (omega arith) c.loop-second.invariant.room
