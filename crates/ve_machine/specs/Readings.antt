-- Rows that were read from the shared machine, and kept while ids died.
use Rattle.std.specs.Prelude.{ℕ, ◌+◌, ◌<◌, ◌≤◌, ◌∷◌, [], All, length, nat_eq}
use Rattle.ve_theory.specs.Combinations.{Alike, difference}
use Rattle.ve_theory.specs.Presentations.{reach, relator, step, submodule_relation}
use Rattle.ve_theory.specs.Answers.{Row}
use Rattle.ve_vec.specs.Tracing.{PartialTable, row_or_zero, vector_of, vector_times, vector_times_element}
use Rattle.ve_table.specs.Tables.{ActionTable, IsDue, presented, row_at, word_at}
use Rattle.ve_machine.specs.Forwards.{Forwards, IsForwarding, stand_in}
use Rattle.ve_machine.specs.Jobs.{IsImageJob}
use Rattle.ve_machine.specs.Seats.{Job, State, image_job, present, relator_job, submodule_job}
use Rattle.ve_machine.specs.SharedJobs.{ComesFrom, IsOfLevel}
use Rattle.ve_machine.specs.SharedLaws.{KeepsKnown}
use Rattle.ve_machine.specs.Covered.{IsCovered, IsSoundState}

-- A row of a product within the level: the opening's, but for forwards, and it reaches no further than the product.
pub record IsReadRow (O : ActionTable) (forwards : Forwards) (b x : ℕ) (row : Row) : Type 0 where
  pub same : IsForwarding (presented O).prime forwards (difference (presented O).prime (row_or_zero (row_at O) x b) row)
  pub ids : All (λ t. (t.0 < length O.words) × (reach (presented O) (word_at O t.0) ≤ reach (presented O) (word_at O b) + step (presented O) x)) row

-- each product within the level has such a row
abbrev pub AreReadRows : ActionTable → Forwards → PartialTable → Type 0
AreReadRows O forwards rows = (b x : ℕ) → IsDue O b x → IsReadRow O forwards b x (row_or_zero rows x b)

-- What is traced along such rows comes from the job.
pub record ComeFromReadings (O : ActionTable) (forwards : Forwards) (rows : PartialTable) : Type 0 where
  pub relators : (b number : ℕ) (v : Row) → IsOfLevel O forwards (relator_job b number)
      → Alike nat_eq (presented O).prime v (vector_times_element rows ((b, 1) ∷ []) (relator (presented O) number)) → ComesFrom O forwards (relator_job b number) v
  pub submodule : (number : ℕ) (v : Row) → IsOfLevel O forwards (submodule_job number)
      → Alike nat_eq (presented O).prime v (vector_of rows O.images (submodule_relation (presented O) number)) → ComesFrom O forwards (submodule_job number) v
  pub images : (b x : ℕ) (v : Row) → IsImageJob O forwards b x
      → Alike nat_eq (presented O).prime v (difference (presented O).prime (row_or_zero rows x b) (vector_times rows (stand_in forwards b) x)) → ComesFrom O forwards (image_job b x) v

abbrev pub ReadingsTrace : Type 0
ReadingsTrace = (S : State) (rows : PartialTable) → IsSoundState S → AreReadRows S.opening S.forwards rows → ComeFromReadings S.opening S.forwards rows

-- The rows of a machine are such rows, and rows that were read stay such.
pub record ReadingsLast : Type 0 where
  pub of_table : (S : State) (b x : ℕ) → IsSoundState S → IsCovered S → IsReadRow S.opening S.forwards b x (row_or_zero (row_at (present S)) x b)
  pub later : (O : ActionTable) (old new : Forwards) (b x : ℕ) (row : Row) → KeepsKnown O old new → IsReadRow O old b x row → IsReadRow O new b x row
  pub comings : (O : ActionTable) (old new : Forwards) (job : Job) (v : Row) → KeepsKnown O old new → IsOfLevel O old job → ComesFrom O old job v → ComesFrom O new job v
