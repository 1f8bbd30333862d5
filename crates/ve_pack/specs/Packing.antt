-- Packing a finished table.
use Rattle.std.specs.Prelude.{◌≡◌, ℕ, ◌⊎◌, Some, slice_get}
use Rattle.ve_theory.specs.Answers.{Row}
use Rattle.ve_table.specs.Tables.{ActionTable, presented, row_at, IsLive, live_words, live_below}
use Rattle.ve_table.specs.Sound.{IsSound}
use Rattle.ve_table.specs.Changes.{renumbered}
use Rattle.ve_machine.specs.Forwards.{IsResolved}
use Rattle.ve_machine.specs.Finished.{IsPacked}

-- the vector is the resolved form of another, on live ids numbered anew in order
abbrev pub IsPackedForm : ActionTable → Row → Row → Type 0
IsPackedForm old v packed = (w : Row) × IsResolved (presented old).prime old.forwards v w × (packed ≡ renumbered old w)

-- The live ids alone are left, numbered anew in order. Their rows and the images are those of before, resolved.
pub record IsPacking (old new : ActionTable) : Type 0 where
  pub draft : new.draft ≡ old.draft
  pub level : new.level ≡ old.level
  pub words : new.words ≡ live_words old
  pub packed : IsPacked new
  pub rows : (b x : ℕ) (v : Row) → IsLive old b → row_at old b x ≡ Some v
      → (w : Row) × (row_at new (live_below old b) x ≡ Some w) × IsPackedForm old v w
  pub images : (i : ℕ) (v : Row) → slice_get old.images i ≡ Some v → (w : Row) × (slice_get new.images i ≡ Some w) × IsPackedForm old v w

-- the vector as it was, or resolved
abbrev pub IsSameOrResolved : ActionTable → Row → Row → Type 0
IsSameOrResolved old v w = (w ≡ v) ⊎ IsResolved (presented old).prime old.forwards v w

-- No id went. Some rows of live ids and some images may be resolved.
pub record IsPartlyResolved (old new : ActionTable) : Type 0 where
  pub draft : new.draft ≡ old.draft
  pub level : new.level ≡ old.level
  pub words : new.words ≡ old.words
  pub forwards : new.forwards ≡ old.forwards
  pub rows : (b x : ℕ) (v : Row) → IsLive old b → row_at old b x ≡ Some v → (w : Row) × (row_at new b x ≡ Some w) × IsSameOrResolved old v w
  pub images : (i : ℕ) (v : Row) → slice_get old.images i ≡ Some v → (w : Row) × (slice_get new.images i ≡ Some w) × IsSameOrResolved old v w

-- the words of a packed table are its live ones
abbrev pub PackedWordsAreLive : Type 0
PackedWordsAreLive = (T : ActionTable) → IsSound T → IsPacked T → live_words T ≡ T.words
