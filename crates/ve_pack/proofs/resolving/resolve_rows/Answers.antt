use Rattle.std.proofs.Common.{ℕ, IsTrue, get_or, below_more}
use Rattle.ve_table.specs.Tables.{IsLive}
use Rattle.ve_pack.specs.LiveVectors.{HasLiveRow}
use Rattle.ve_machine.proofs.Forwardings.{positive_prime}
use Rattle.ve_pack.proofs.Steps.{resolved_further, nothing_resolved, rows_stay_live}
use Rattle.ve_pack.proofs.resolving.resolve_rows.Goals as goal
use Rattle.ve_pack.proofs.resolving.resolve_rows.Goals.{then-is_live+in_ok-resolve_rows_of, else-is_live}

pub loop-id-init : goal.loop-id-init
loop-id-init c = record {
  finished = c.requires.finished;
  resolved = nothing_resolved c.args.table.now;
  live = λ b less live x v found k d lt. c.requires.below (get_or v k d).0 (c.first_naming-first.ensures.below b x v less found k d lt);
}

pub returns-in_err-resolve_rows_of-clause-resolved : goal.returns-in_err-resolve_rows_of-clause-resolved
returns-in_err-resolve_rows_of-clause-resolved c =
    resolved_further c.args.table.now c.loop-id.table c.resolve_rows_of.new.table c.forwardings_are_a_space.ensures (positive_prime c.args.table.now c.requires.finished.sound)
    c.loop-id.invariant.resolved c.resolve_rows_of.ensures.resolved

pub loop-id-preserved : goal.loop-id-preserved
loop-id-preserved c = elim c.if-is_live.branch [
  | then-is_live+in_ok-resolve_rows_of w ↦ rw w.table-is (record {
    finished = w.resolve_rows_of.ensures.finished;
    resolved = resolved_further c.args.table.now c.loop-id.table w.resolve_rows_of.new.table c.forwardings_are_a_space.ensures (positive_prime c.args.table.now c.requires.finished.sound)
        c.loop-id.invariant.resolved w.resolve_rows_of.ensures.resolved;
    live = rows_stay_live c.loop-id.table w.resolve_rows_of.new.table c.loop-id.invariant.finished.sound w.resolve_rows_of.ensures.finished.sound w.resolve_rows_of.ensures.resolved
        c.loop-id.id c.loop-id.invariant.live (λ live. w.in_ok-resolve_rows_of.ensures.live);
  })
  | else-is_live w ↦ rw w.table-is (record {
    finished = c.loop-id.invariant.finished;
    resolved = c.loop-id.invariant.resolved;
    live = below_more (λ b. IsLive c.loop-id.table b → (x : ℕ) → HasLiveRow c.loop-id.table b x) c.loop-id.id c.loop-id.invariant.live
        (λ live. let answered : IsTrue c.is_live.result = c.is_live.ensures.1 live in absurd cc);
  })
]
