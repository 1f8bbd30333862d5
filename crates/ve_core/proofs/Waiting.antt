-- Jobs of the level, and jobs that are done.
use Rattle.std.proofs.Common.{◌≡◌, ◌≢◌, ◌↔◌, ℕ, ◌<◌, ◌≤◌, List, Contains, length, get_or, sym, subst, ◌∙◌, arith}
use Rattle.std.proofs.lemmas.Option.{get_or_from_slice_get}
use Rattle.ve_core.proofs.Moves.{held}
use Rattle.ve_machine.specs.Seats.{Job as SeatJob, image_job, relator_job, submodule_job}
use Rattle.ve_machine.specs.SharedJobs.{IsOfLevel}
use Rattle.ve_table.specs.Tables.{ActionTable}

-- the jobs of the table are the level's
module _ (O : ActionTable) (T : ActionTable) (same : T ≡ record O { forwards = T.forwards; rows = T.rows }) where
  abbrev at_work : ActionTable
  at_work = record O { forwards = T.forwards; rows = T.rows }

  to_opening : (job : SeatJob) → IsOfLevel at_work T.forwards job → IsOfLevel O T.forwards job
  to_opening (relator_job b number) is = is
  to_opening (submodule_job number) is = record { is_relation = is.is_relation; due = is.due }
  to_opening (image_job b x) is = record { forward = is.forward; dead = is.dead; due = is.due }

  from_opening : (job : SeatJob) → IsOfLevel O T.forwards job → IsOfLevel at_work T.forwards job
  from_opening (relator_job b number) is = is
  from_opening (submodule_job number) is = record { is_relation = is.is_relation; due = is.due }
  from_opening (image_job b x) is = record { forward = is.forward; dead = is.dead; due = is.due }

  pub level_of_opening : (job : SeatJob) → IsOfLevel T T.forwards job ↔ IsOfLevel O T.forwards job
  level_of_opening job = (
    λ is. to_opening job (subst (λ U. IsOfLevel U T.forwards job) same is),
    λ is. subst (λ U. IsOfLevel U T.forwards job) (sym same) (from_opening job is),
  )

-- what was read at a place, looked for
pub found_at : {X : Type 0} (xs : List X) (i : ℕ) (x y : X) → i < length xs → x ≡ get_or xs i x → x ≡ y → Contains xs y
found_at xs i x y less same is = (i, less, get_or_from_slice_get xs i x y (held xs i x less same) ∙ is)

pub not_at : {X : Type 0} (xs : List X) (i : ℕ) (x y : X) → i < length xs → x ≡ get_or xs i x → x ≢ y → get_or xs i y ≡ y → ⊥
not_at xs i x y less same other is = other (sym (get_or_from_slice_get xs i x y (held xs i x less same)) ∙ is)

pub none_there : {X : Type 0} (xs : List X) (i : ℕ) (y : X) → length xs ≤ i → ((k : ℕ) → k < i → get_or xs k y ≡ y → ⊥) → Contains xs y → ⊥
none_there xs i y all none found = none found.0 (omega (arith, found.1, all)) found.2
