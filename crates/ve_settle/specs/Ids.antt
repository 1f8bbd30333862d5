-- Ids and the order of their words.
use Rattle.std.specs.Prelude.{ℕ, ◌≤◌}
use Rattle.ve_theory.specs.Presentations.{reach}
use Rattle.ve_theory.specs.Answers.{IsNotAfter}
use Rattle.ve_table.specs.Tables.{ActionTable, presented, word_at, IsId}
use Rattle.ve_table.specs.Sound.{IsSound}

-- the word of a lower id is not after that of a higher one, and reaches no further
pub record RisesWithIds (T : ActionTable) : Type 0 where
  pub not_after : (a b : ℕ) → a ≤ b → IsId T b → IsNotAfter (presented T) (word_at T a) (word_at T b)
  pub reaches : (a b : ℕ) → a ≤ b → IsId T b → reach (presented T) (word_at T a) ≤ reach (presented T) (word_at T b)

abbrev pub WordsRiseWithIds : Type 0
WordsRiseWithIds = (T : ActionTable) → IsSound T → RisesWithIds T
