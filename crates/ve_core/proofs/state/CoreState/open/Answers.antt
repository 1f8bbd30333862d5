use Rattle.ve_core.proofs.Opened.{opened_kept}
use Rattle.ve_core.proofs.state.CoreState.open.Goals as goal

pub invariant_of-result : goal.invariant_of-result
invariant_of-result c =
    opened_kept c.machines_stay_right.ensures _ c.args.table.now c.args.seats c.is_sound.ensures c.requires.packed
    (record {
      table = c.in_ok-copy.ensures;
      opening = c.of.ensures;
      done = c.new.ensures;
      queue = c.new-2.ensures.items;
      desks = c.in_ok-empty_desks.ensures;
      hands = c.in_ok-empty_hands.ensures;
      journal = c.new-3.ensures.items;
    })
