use Rattle.std.proofs.Common.{ℕ, ◌<◌}
use Rattle.ve_machine.specs.Finished.{IsFinishedTable}
use Rattle.ve_pack.specs.Packing.{IsPartlyResolved}
use Rattle.ve_pack.specs.LiveVectors.{HasLiveRow}
use Rattle.ve_pack.proofs.resolving.resolve_rows_of.Given as goal

-- the rows so far name live ids alone
abbrev pub invariant-loop-letter : goal.invariant-loop-letter
invariant-loop-letter l = record {
  finished : IsFinishedTable l.table;
  resolved : IsPartlyResolved l.initial.table l.table;
  live : (x : ℕ) → x < l.letter → HasLiveRow l.table l.id x;
}
