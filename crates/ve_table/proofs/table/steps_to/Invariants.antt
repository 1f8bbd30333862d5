use Rattle.std.proofs.Common.{◌≡◌, ◌*◌, ◌≤◌, take}
use Rattle.std.specs.Prelude.{sum_by}
use Rattle.ve_table.specs.Steps.{live_steps}
use Rattle.ve_table.proofs.table.steps_to.Given as goal

abbrev pub invariant-loop-entry : goal.invariant-loop-entry
invariant-loop-entry l = record {
  steps_is : l.steps ≡ sum_by (live_steps l.weights l.reach) (take l.entry-index l.entries);
  steps_within : l.steps ≤ l.entry-index * 32;
}
