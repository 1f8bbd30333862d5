use Rattle.std.proofs.Common.{ℕ, ◌<◌}
use Rattle.ve_machine.specs.Finished.{IsFinishedTable}
use Rattle.ve_pack.specs.Packing.{IsPartlyResolved}
use Rattle.ve_pack.specs.LiveVectors.{HasLiveImage}
use Rattle.ve_pack.proofs.resolving.resolve_images.Given as goal

-- the images so far name live ids alone
abbrev pub invariant-loop-root : goal.invariant-loop-root
invariant-loop-root l = record {
  finished : IsFinishedTable l.table;
  resolved : IsPartlyResolved l.initial.table l.table;
  live : (i : ℕ) → i < l.root → HasLiveImage l.table i;
}
