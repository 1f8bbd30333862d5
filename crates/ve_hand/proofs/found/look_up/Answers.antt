use Rattle.std.proofs.Common.{map, ap, ◌∙◌}
use Rattle.ve_machine.specs.Seats.{opened_state}
use Rattle.ve_hand.specs.Views.{found_of}
use Rattle.ve_hand.proofs.FoundLists.{look_up_more}
use Rattle.ve_hand.proofs.found.look_up.Goals as goal

pub loop-at-preserved : goal.loop-at-preserved
loop-at-preserved c =
    λ left is.
    ap (map found_of) c.in_ok-push.ensures.items
    ∙ look_up_more (opened_state c.args.table.now 0) left c.args.vector.now c.loop-at.at _ c.loop-at.founds.items _ c.term.ensures (c.loop-at.invariant left is) (c.in_ok-look_up_id.ensures left is)
