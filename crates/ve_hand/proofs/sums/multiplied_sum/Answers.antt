use Rattle.std.proofs.Common.{map}
use Rattle.ve_hand.specs.Views.{found_of}
use Rattle.ve_hand.proofs.Summing.{nothing_added, row_added, row_read_fits, term_residue}
use Rattle.ve_hand.proofs.sums.multiplied_sum.Goals as goal
use Rattle.ve_hand.proofs.sums.multiplied_sum.Goals.{in-Some+in_ok-add_scaled, in_default}

pub add_scaled-requires-clause-other_fits : goal.add_scaled-requires-clause-other_fits
add_scaled-requires-clause-other_fits c = row_read_fits c.args.field.now (map found_of c.args.founds.now) c.loop-at.at _ c.requires.founds c.in-Some.ensures

pub add_scaled-requires-clause-residue : goal.add_scaled-requires-clause-residue
add_scaled-requires-clause-residue c = term_residue c.args.field.now c.args.vector.now c.loop-at.at _ c.requires.vector c.term-term.ensures

pub loop-at-preserved : goal.loop-at-preserved
loop-at-preserved c =
    elim c.match-row_at.branch [
      | in-Some+in_ok-add_scaled w ↦
          rw w.sum-is (row_added (map found_of c.args.founds.now) c.args.vector.now c.loop-at.at _ c.term-term.ensures c.args.field.now _ w.in-Some.ensures _ _ c.loop-at.invariant w.in_ok-add_scaled.ensures.ok)
      | in_default w ↦ rw w.sum-is (nothing_added (map found_of c.args.founds.now) c.args.vector.now c.loop-at.at _ c.term-term.ensures c.args.field.now w.in_default.ensures _ c.loop-at.invariant)
    ]
