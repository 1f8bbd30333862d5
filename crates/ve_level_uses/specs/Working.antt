-- From the work of a level to that of the next one.
use Rattle.std.specs.Prelude.{ℕ}
use Rattle.ve_theory.specs.Levels.{FitsLimit}
use Rattle.ve_table.specs.Tables.{ActionTable, presented}
use Rattle.ve_machine.specs.Finished.{IsOpening}
use Rattle.ve_plain.specs.SameLevel.{IsSameLevel}
use Rattle.ve_levels.specs.Advancing.{Advances}
use Rattle.ve_levels.specs.declared.advancing.Advanced.{Advanced}
use Rattle.ve_levels.specs.declared.advancing.Advanced.TheVariants.{Closed, Next, Over, Memory}
use Rattle.ve_levels.specs.declared.opening.Opened.{Opened}
use Rattle.ve_levels.specs.declared.opening.Opened.TheVariants.{Open, Over as TooLarge, Memory as NoMemory}

-- the level's work can begin: it fits the limit
pub record IsReady (limit : ℕ) (T : ActionTable) : Type 0 where
  pub opening : IsOpening T
  pub fits : FitsLimit (presented T) limit T.level

abbrev pub StartsReady : ℕ → Opened → Type 0
StartsReady limit (Open table) = IsReady limit table
StartsReady limit (TooLarge size) = Unit {0}
StartsReady limit NoMemory = Unit {0}

abbrev pub LeavesReady : ℕ → Advanced → Type 0
LeavesReady limit (Closed table) = Unit {0}
LeavesReady limit (Next table) = IsReady limit table
LeavesReady limit (Over last level size) = Unit {0}
LeavesReady limit (Memory table) = Unit {0}

-- the answer is that of a finished table of the same level
abbrev pub Works : ActionTable → ℕ → Advanced → Type 0
Works T limit answer = (finished : ActionTable) × IsSameLevel T finished × Advances finished limit answer
