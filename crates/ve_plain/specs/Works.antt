-- What the work of a level does to its table and to the ids that wait.
use Rattle.std.specs.Prelude.{◌≡◌, ℕ, ◌+◌, ◌*◌, ◌≤◌, ◌⊎◌, [], All, Contains, count_by, length}
use Rattle.std.specs.Option.{is_none}
use Rattle.ve_theory.specs.Answers.{Row}
use Rattle.ve_table.specs.Tables.{ActionTable, presented, IsDead}
use Rattle.ve_machine.specs.Forwards.{IsForwarding}
use Rattle.ve_machine.specs.Jobs.{HasForward, IsUnderWay}
use Rattle.ve_plain.specs.Working.{Continues, HaveImagesBut, IsAtWork, with_forwards}
use Rattle.ve_plain.specs.declared.work.Work.{Work}

-- each death and each waiting id is counted once
abbrev pub left_to_do : Work → ℕ
left_to_do work = 2 * count_by is_none work.table.forwards + length work.waiting.items

-- only dead ids wait
abbrev pub OnlyDeadWait : Work → Type 0
OnlyDeadWait work = All (IsDead work.table) work.waiting.items

-- The work went on. Whatever waited waits, and so does each id that died.
pub record Lasts (old new : Work) : Type 0 where
  pub continues : Continues old.table new.table
  pub only_dead : OnlyDeadWait old → OnlyDeadWait new
  pub waiting : (b : ℕ) → Contains old.waiting.items b → Contains new.waiting.items b
  pub died : (b : ℕ) (f : Row) → HasForward new.table.forwards b f → HasForward old.table.forwards b f ⊎ Contains new.waiting.items b
  pub less : left_to_do new ≤ left_to_do old

-- It went on until the vector was a forwarding. Until then no row was changed.
pub record Imposes (old : Work) (v : Row) (new : Work) : Type 0 where
  pub lasts : Lasts old new
  pub forwarding : IsForwarding (presented old.table).prime new.table.forwards v
  pub under_way : (O : ActionTable) → IsUnderWay O old.table → IsUnderWay O (with_forwards old.table new.table.forwards)

-- It went on until no id waited, and all image jobs are done if those of the ids that didn't wait were.
pub record Settles (old new : Work) : Type 0 where
  pub continues : Continues old.table new.table
  pub idle : new.waiting.items ≡ []
  pub images : (O : ActionTable) → IsAtWork O old.table → HaveImagesBut O old.table.forwards old.waiting.items → HaveImagesBut O new.table.forwards []
