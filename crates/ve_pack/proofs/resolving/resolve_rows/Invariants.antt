use Rattle.std.proofs.Common.{ℕ, ◌<◌}
use Rattle.ve_table.specs.Tables.{IsLive}
use Rattle.ve_machine.specs.Finished.{IsFinishedTable}
use Rattle.ve_pack.specs.Packing.{IsPartlyResolved}
use Rattle.ve_pack.specs.LiveVectors.{HasLiveRow}
use Rattle.ve_pack.proofs.resolving.resolve_rows.Given as goal

-- the rows of ids so far name live ids alone
abbrev pub invariant-loop-id : goal.invariant-loop-id
invariant-loop-id l = record {
  finished : IsFinishedTable l.table;
  resolved : IsPartlyResolved l.initial.table l.table;
  live : (b : ℕ) → b < l.id → IsLive l.table b → (x : ℕ) → HasLiveRow l.table b x;
}
