-- Tables of one level.
use Rattle.std.specs.Prelude.{◌≡◌}
use Rattle.ve_table.specs.Tables.{ActionTable}

-- the presentation, the level and the book are the same
pub record IsSameLevel (old new : ActionTable) : Type 0 where
  pub draft : new.draft ≡ old.draft
  pub level : new.level ≡ old.level
  pub words : new.words ≡ old.words
