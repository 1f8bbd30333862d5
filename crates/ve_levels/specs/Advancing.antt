-- What follows a finished level.
use Rattle.std.specs.Prelude.{◌≡◌, ℕ, ◌+◌, ◌<◌}
use Rattle.ve_theory.specs.Levels.{Closes, FitsLimit, HasSize}
use Rattle.ve_table.specs.Tables.{ActionTable, presented, live_words}
use Rattle.ve_machine.specs.Finished.{IsOpening, IsPacked}
use Rattle.ve_levels.specs.declared.advancing.Advanced.{Advanced}
use Rattle.ve_levels.specs.declared.advancing.Advanced.TheVariants.{Closed, Next, Over, Memory}

-- the most that a limit may be
abbrev pub most_limit : ℕ
most_limit = 1000000

-- the level closes; its table is packed
pub record IsClosed (old new : ActionTable) : Type 0 where
  pub closes : Closes (presented old) old.level
  pub draft : new.draft ≡ old.draft
  pub level : new.level ≡ old.level
  pub packed : IsPacked new

-- the level doesn't close, and the next one fits the limit; its table is at the beginning of its work
pub record IsNext (old : ActionTable) (limit : ℕ) (new : ActionTable) : Type 0 where
  pub is_open : ¬ Closes (presented old) old.level
  pub fits : FitsLimit (presented old) limit (old.level + 1)
  pub draft : new.draft ≡ old.draft
  pub level : new.level ≡ old.level + 1
  pub opening : IsOpening new

-- the level doesn't close, and the next one has this size, which is above the limit
pub record IsOver (old : ActionTable) (limit : ℕ) (last : ActionTable) (next size : ℕ) : Type 0 where
  pub is_open : ¬ Closes (presented old) old.level
  pub next_level : next ≡ old.level + 1
  pub has_size : HasSize (presented old) next size
  pub exceeds : limit < size
  pub draft : last.draft ≡ old.draft
  pub level : last.level ≡ old.level

-- the same level, finished
pub record IsSameFinished (old new : ActionTable) : Type 0 where
  pub draft : new.draft ≡ old.draft
  pub level : new.level ≡ old.level
  pub words : live_words new ≡ live_words old

abbrev pub Advances : ActionTable → ℕ → Advanced → Type 0
Advances old limit (Closed table) = IsClosed old table
Advances old limit (Next table) = IsNext old limit table
Advances old limit (Over last level size) = IsOver old limit last level size
Advances old limit (Memory table) = IsSameFinished old table
