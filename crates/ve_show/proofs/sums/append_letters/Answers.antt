use Rattle.ve_show.proofs.Joined.{next_letter}
use Rattle.ve_show.proofs.sums.append_letters.Goals as goal

pub loop-at-preserved : goal.loop-at-preserved
loop-at-preserved c =
    next_letter c.args.names.now c.args.letters.now c.loop-at.at _ _ _ _ _ c.loop-at-test.true c.name.ensures c.loop-at.invariant c.in_ok-append_joint.ensures (rw (← c.as_bytes.ensures.value) c.in_ok-append.ensures)
