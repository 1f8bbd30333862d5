use Rattle.std.proofs.Common.{◌≡◌, map, take, arith}
use Rattle.std.proofs.lemmas.List.{take_all}
use Rattle.ve_hand.specs.Views.{found_of}
use Rattle.ve_machine.proofs.ReducedSums.{joined}
use Rattle.ve_hand.proofs.Summing.{forward_brought, forward_read_fits, term_kept, term_residue}
use Rattle.ve_hand.proofs.sums.repaired_sum.Goals as goal
use Rattle.ve_hand.proofs.sums.repaired_sum.Goals.{in-Some+in_ok-add_scaled-in-Some, in-None+in_ok-add_scaled_term-in-None}

pub add_scaled-requires-clause-other_fits : goal.add_scaled-requires-clause-other_fits
add_scaled-requires-clause-other_fits c = forward_read_fits c.args.field.now (map found_of c.args.founds.now) c.loop-at.at _ c.requires.founds c.in-Some.ensures

pub add_scaled-requires-clause-residue : goal.add_scaled-requires-clause-residue
add_scaled-requires-clause-residue c = term_residue c.args.field.now c.args.vector.now c.loop-at.at _ c.requires.vector c.term-term.ensures

pub add_scaled_term-requires-clause-term : goal.add_scaled_term-requires-clause-term
add_scaled_term-requires-clause-term c = term_residue c.args.field.now c.args.vector.now c.loop-at.at _ c.requires.vector c.term-term.ensures

pub loop-at-preserved : goal.loop-at-preserved
loop-at-preserved c =
    elim c.match-forward_at.branch [
      | in-Some+in_ok-add_scaled-in-Some w ↦
          rw (w.kept-is, w.brought-is) (record {
            kept = c.loop-at.invariant.kept;
            brought = w.in_ok-add_scaled-in-Some.ensures.ok.reduced;
            sum = forward_brought (map found_of c.args.founds.now) c.args.vector.now c.loop-at.at _ c.term-term.ensures c.args.field.now _ w.in-Some.ensures _ _ _ c.loop-at.invariant.sum w.in_ok-add_scaled-in-Some.ensures.ok;
          })
      | in-None+in_ok-add_scaled_term-in-None w ↦
          rw (w.kept-is, w.brought-is) (record {
            kept = w.in_ok-add_scaled_term-in-None.ensures.ok.reduced;
            brought = c.loop-at.invariant.brought;
            sum = term_kept (map found_of c.args.founds.now) c.args.vector.now c.loop-at.at _ c.term-term.ensures c.args.field.now w.in-None.ensures _ _ _ c.loop-at.invariant.sum w.in_ok-add_scaled_term-in-None.ensures.ok;
          })
    ]

pub returns : goal.returns
returns c =
    let whole : take c.loop-at.at c.args.vector.now ≡ c.args.vector.now = take_all _ _ (omega (arith, c.loop-at-test.false, c.len-at-end.ensures)) in
    joined c.args.field.now _ _ _ _ (rw whole at c.loop-at.invariant.sum) c.in_ok-add_scaled.ensures.ok
