-- What finished tables say of their levels.
use Rattle.std.specs.Prelude.{◌+◌}
use Rattle.ve_theory.specs.Levels.{Lists, IsNormal, HasSize}
use Rattle.ve_table.specs.Tables.{ActionTable, presented, live_words}
use Rattle.ve_table.specs.Changes.{next_count}
use Rattle.ve_machine.specs.Finished.{IsFinishedTable}

-- The live words are the level's normal words, so the next level is as large as the table counts.
pub record SettlesTable (T : ActionTable) : Type 0 where
  pub normal : Lists (presented T) (IsNormal (presented T) T.level) (live_words T)
  pub next : HasSize (presented T) (T.level + 1) (next_count T)

abbrev pub FinishedTablesSettle : Type 0
FinishedTablesSettle = (T : ActionTable) → IsFinishedTable T → SettlesTable T
