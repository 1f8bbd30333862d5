-- The parts of a table without dead ids, as an answer has them.
use Rattle.std.specs.Prelude.{◌≡◌, ℕ, ◌<◌, ◌^◌, Some, List, length, slice_get}
use Rattle.ve_theory.specs.Presentations.{letter_count}
use Rattle.ve_theory.specs.Answers.{Row}
use Rattle.ve_table.specs.Tables.{ActionTable, presented}
use Rattle.ve_table.specs.Parts.{AreOrigins, AreRowsAt}
use Rattle.ve_matrix.specs.declared.answer.Answer.{Answer}

-- for each letter the rows of all ids
pub record AreMatricesOf (T : ActionTable) (matrices : List (List Row)) : Type 0 where
  pub count : length matrices ≡ letter_count (presented T)
  pub each : (x : ℕ) (matrix : List Row) → slice_get matrices x ≡ Some matrix → AreRowsAt T x matrix

-- the answer with the words and the rows of the table
pub record IsCopyOf (T : ActionTable) (A : Answer) : Type 0 where
  pub prime : A.field ≡ (presented T).prime
  pub names : A.names ≡ (presented T).names
  pub generators : A.roots ≡ (presented T).generators
  pub level : A.closed ≡ T.level
  pub few : length T.words < 2 ^ 32
  pub origins : AreOrigins T A.basis.items
  pub images : A.images.items ≡ T.images
  pub matrices : AreMatricesOf T A.matrices.items
