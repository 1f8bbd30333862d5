-- Rows and images that name live ids alone.
use Rattle.std.specs.Prelude.{◌≡◌, ℕ, Some, slice_get}
use Rattle.ve_theory.specs.Answers.{Row}
use Rattle.ve_table.specs.Tables.{ActionTable, row_at}
use Rattle.ve_table.specs.Sound.{HasLiveIds}

-- the row does, where there is one
abbrev pub HasLiveRow : ActionTable → ℕ → ℕ → Type 0
HasLiveRow T b x = (v : Row) → row_at T b x ≡ Some v → HasLiveIds T v

-- the image of a generator does
abbrev pub HasLiveImage : ActionTable → ℕ → Type 0
HasLiveImage T i = (v : Row) → slice_get T.images i ≡ Some v → HasLiveIds T v
