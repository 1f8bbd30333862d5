use Rattle.std.proofs.Common.{ℕ, ◌<◌}
use Rattle.ve_table.specs.Tables.{ActionTable}
use Rattle.ve_plain.specs.Working.{IsAtWork, KnowsRelators}
use Rattle.ve_plain.specs.Works.{Settles}
use Rattle.ve_plain.proofs.DueNumbers.{AreDue}
use Rattle.ve_plain.proofs.work.Work.relators.Given as goal

-- the relator jobs of the ids so far are done, and the list is that of the last one's reach
abbrev pub invariant-loop-id : goal.invariant-loop-id
invariant-loop-id l = record {
  settles : Settles l.initial.self l.self;
  done : (O : ActionTable) → IsAtWork O l.initial.self.table → (b : ℕ) → b < l.id → KnowsRelators O l.self.table.forwards b;
  numbers : AreDue l.self.table l.reach l.numbers.items;
}
