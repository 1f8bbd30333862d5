use Rattle.std.proofs.Common.{below_more}
use Rattle.ve_pack.specs.LiveVectors.{HasLiveRow}
use Rattle.ve_machine.proofs.Forwardings.{positive_prime}
use Rattle.ve_pack.proofs.Steps.{resolved_further, row_stays_live, live_as_before}
use Rattle.ve_pack.proofs.resolving.resolve_rows_of.Goals as goal

pub returns-in_err-resolve_row-clause-resolved : goal.returns-in_err-resolve_row-clause-resolved
returns-in_err-resolve_row-clause-resolved c =
    resolved_further c.args.table.now c.loop-letter.table c.resolve_row.new.table c.forwardings_are_a_space.ensures (positive_prime c.args.table.now c.requires.finished.sound)
    c.loop-letter.invariant.resolved c.resolve_row.ensures.resolved

pub loop-letter-preserved : goal.loop-letter-preserved
loop-letter-preserved c = record {
  finished = c.resolve_row.ensures.finished;
  resolved = resolved_further c.args.table.now c.loop-letter.table c.resolve_row.new.table c.forwardings_are_a_space.ensures (positive_prime c.args.table.now c.requires.finished.sound)
      c.loop-letter.invariant.resolved c.resolve_row.ensures.resolved;
  live = below_more (HasLiveRow c.resolve_row.new.table c.args.id) c.loop-letter.letter
      (λ x less. row_stays_live c.loop-letter.table c.resolve_row.new.table c.loop-letter.invariant.finished.sound c.resolve_row.ensures.finished.sound c.resolve_row.ensures.resolved
      c.args.id x (live_as_before c.args.table.now c.loop-letter.table c.requires.finished.sound c.loop-letter.invariant.finished.sound c.loop-letter.invariant.resolved c.args.id c.requires.live)
      (c.loop-letter.invariant.live x less))
      c.in_ok-resolve_row.ensures.live;
}
