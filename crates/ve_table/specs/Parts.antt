-- A table taken apart, where each id has a row at each letter.
use Rattle.std.specs.Prelude.{◌≡◌, ℕ, ◌<◌, ◌^◌, Some, IsSome, List, Vec, length, slice_get}
use Rattle.std.specs.Global.{Global}
use Rattle.ve_theory.specs.Presentations.{letter_count}
use Rattle.ve_theory.specs.Answers.{Row}
use Rattle.ve_table.specs.declared.origin.Origin.{Origin}
use Rattle.ve_table.specs.declared.parts.Parts.{Parts}
use Rattle.ve_table.specs.Tables.{ActionTable, presented, row_at, word_at}
use Rattle.ve_table.specs.Books.{IsOriginOf}

-- each id has a row at each letter
abbrev pub HasAllRows : ActionTable → Type 0
HasAllRows T = (b x : ℕ) → b < length T.words → x < letter_count (presented T) → IsSome (row_at T b x)

-- where the words of all ids come from, in order
pub record AreOrigins (T : ActionTable) (origins : List Origin) : Type 0 where
  pub count : length origins ≡ length T.words
  pub each : (b : ℕ) (o : Origin) → slice_get origins b ≡ Some o → IsOriginOf T.words b o (word_at T b)

-- the rows of all ids at a letter, in order
pub record AreRowsAt (T : ActionTable) (x : ℕ) (rows : List Row) : Type 0 where
  pub count : length rows ≡ length T.words
  pub each : (b : ℕ) (v : Row) → slice_get rows b ≡ Some v → row_at T b x ≡ Some v

-- what the table is made of
pub record ArePartsOf (T : ActionTable) (parts : Parts) : Type 0 where
  pub draft : parts.presentation ≡ T.draft
  pub level : parts.level ≡ T.level
  pub few : length T.words < 2 ^ 32
  pub origins : AreOrigins T parts.origins.items
  pub images : parts.images.items ≡ T.images
  pub letters : length parts.rows.items ≡ letter_count (presented T)
  pub rows : (x : ℕ) (rows : Vec Row Global) → slice_get parts.rows.items x ≡ Some rows → AreRowsAt T x rows.items
