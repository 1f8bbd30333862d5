use Rattle.std.proofs.Common.{ℕ, ◌<◌}
use Rattle.std.specs.Prelude.{slice_index}
use Rattle.ve_table.specs.Tables.{ActionTable}
use Rattle.ve_plain.specs.Working.{IsAtWork, KnowsRelator}
use Rattle.ve_plain.specs.Works.{Settles}
use Rattle.ve_plain.proofs.work.Work.relators_at.Given as goal

-- the jobs of the relators so far are done
abbrev pub invariant-loop-number : goal.invariant-loop-number
invariant-loop-number l = record {
  settles : Settles l.initial.self l.self;
  done : (O : ActionTable) → IsAtWork O l.initial.self.table → (place : ℕ) → place < l.number-index → KnowsRelator O l.self.table.forwards l.id (slice_index l.numbers place);
}
