-- Finished tables: what they say of their level.
use Rattle.std.specs.Prelude.{◌≡◌, ℕ, ◌<◌, ◌⊎◌, Some, None, All, length, slice_get}
use Rattle.ve_theory.specs.Words.{times}
use Rattle.ve_theory.specs.Answers.{Action, Row, image_row, matrix_row}
use Rattle.ve_theory.specs.FinishedLevels.{IsFinishedLevel}
use Rattle.ve_table.specs.Tables.{ActionTable, presented, word_at, row_at, IsLive, live_words, live_below}
use Rattle.ve_table.specs.Sound.{IsSound}
use Rattle.ve_table.specs.Changes.{Grows, opened, renumbered}
use Rattle.ve_machine.specs.Forwards.{IsResolved}

-- The action's basis is the live words. Its rows are the table's, resolved, with the live ids numbered anew in order.
pub record IsActionOf (T : ActionTable) (A : Action) : Type 0 where
  pub basis : A.basis ≡ live_words T
  pub images : (i : ℕ) (v : Row) → slice_get T.images i ≡ Some v
      → (w : Row) × IsResolved (presented T).prime T.forwards v w × (image_row A i ≡ renumbered T w)
  pub matrices : (b x : ℕ) (v : Row) → IsLive T b → row_at T b x ≡ Some v
      → (w : Row) × IsResolved (presented T).prime T.forwards v w × (matrix_row A x (live_below T b) ≡ renumbered T w)

-- A sound table whose resolved rows, on its live words, are a finished level: its live words are the normal ones, and a combination
-- of words up to the level resolves to zero exactly where it is derived within it.
pub record IsFinishedTable (T : ActionTable) : Type 0 where
  pub sound : IsSound T
  pub action : Action
  pub of_table : IsActionOf T action
  pub finished : IsFinishedLevel (presented T) T.level action

-- no id is dead
abbrev pub IsPacked : ActionTable → Type 0
IsPacked T = All (λ forward. forward ≡ None) T.forwards

-- A table at the beginning of the work of its level: just opened, or grown from a packed one that is finished.
abbrev pub IsOpening : ActionTable → Type 0
IsOpening T = (T ≡ opened T.draft) ⊎ ((old : ActionTable) × IsFinishedTable old × IsPacked old × Grows old T)

-- a live word without its last letter is a live word
abbrev pub PrefixesAreLive : ActionTable → Type 0
PrefixesAreLive T = (a b x : ℕ) → IsLive T b → word_at T b ≡ times (word_at T a) x → a < length T.words → IsLive T a
