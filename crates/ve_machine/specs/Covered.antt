-- What holds of the machine that seats share, whatever they did: it is sound, what is done is covered, and its history is legal.
use Rattle.std.specs.Prelude.{◌≡◌, ◌≢◌, ℕ, ◌++◌, [], All, AllPairs, Contains, Some, map, nat_eq}
use Rattle.ve_theory.specs.Combinations.{difference, scaled, unit, Alike}
use Rattle.ve_theory.specs.Derivations.{DerivedWithin}
use Rattle.ve_theory.specs.Answers.{Row}
use Rattle.ve_table.specs.Tables.{ActionTable, element_of, presented, row_at, word_at}
use Rattle.ve_table.specs.Sound.{IsSound}
use Rattle.ve_machine.specs.Forwards.{AreLive, Forwards, IsForwarding}
use Rattle.ve_machine.specs.Jobs.{HasForward, IsLiveIn}
use Rattle.ve_machine.specs.Seats.{Death, Desk, HasDesk, Job, State, empty_desk, forwards_after, present, with_job, with_relation}
use Rattle.ve_machine.specs.SharedJobs.{ComesFrom, IsOfLevel, IsVectorOn, IsWaiting}

-- a vector that vanishes by what is derived within the level
pub record IsRelation (O : ActionTable) (v : Row) : Type 0 where
  pub vector : IsVectorOn O v
  pub derived : DerivedWithin (presented O) O.level (element_of O v)

-- a job of the level, or a relation
abbrev pub IsSoundDesk : ActionTable → Forwards → Desk → Type 0
IsSoundDesk O forwards empty_desk = Unit {0}
IsSoundDesk O forwards (with_job job) = IsOfLevel O forwards job
IsSoundDesk O forwards (with_relation v) = IsRelation O v

-- The opening and the table as it is are sound. What is done, queued or on a desk is what it should be.
pub record IsSoundState (S : State) : Type 0 where
  pub opening : IsSound S.opening
  pub table : IsSound (present S)
  pub done : All (IsOfLevel S.opening S.forwards) S.done
  pub queue : All (IsRelation S.opening) S.queue
  pub desks : All (IsSoundDesk S.opening S.forwards) S.desks

-- combinations of the relations that are queued or on desks
pub data Owed (S : State) : Row → Type 0 where
  nothing : Owed S []
  queued : (v : Row) → Contains S.queue v → Owed S v
  lifted : (seat : ℕ) (v : Row) → HasDesk S seat (with_relation v) → Owed S v
  alike : (u v : Row) → Alike nat_eq (presented S.opening).prime u v → Owed S u → Owed S v
  combined : (c d : ℕ) (u v : Row) → Owed S u → Owed S v → Owed S (scaled c u ++ scaled d v)

-- from the job comes a vector that is owed
abbrev pub IsOwedBy : State → Job → Type 0
IsOwedBy S job = (v : Row) × Owed S v × ComesFrom S.opening S.forwards job v

-- Each row differs from the opening's by forwards. Of each job that is done, what isn't known is owed.
pub record IsCovered (S : State) : Type 0 where
  pub rows : (b x : ℕ) (u v : Row) → row_at S.opening b x ≡ Some u → row_at (present S) b x ≡ Some v
      → IsForwarding (presented S.opening).prime S.forwards (difference (presented S.opening).prime u v)
  pub jobs : (job : Job) → Contains S.done job → IsOwedBy S job

-- Nothing is left to do.
pub record IsQuiescent (S : State) : Type 0 where
  pub jobs : (job : Job) → ¬ IsWaiting S job
  pub desks : All (λ desk. desk ≡ empty_desk) S.desks
  pub queue : S.queue ≡ []
  pub rows : (b x : ℕ) (row : Row) → IsLiveIn S.forwards b → row_at (present S) b x ≡ Some row → AreLive S.forwards row

abbrev pub AvoidsId : ℕ → Row → Type 0
AvoidsId id v = All (λ t. t.0 ≢ id) v

-- The journal has each dead id once, with its forward, which is derived, and tells the forwards from the opening's on. No forward has
-- the id of its own death or of an earlier one.
pub record IsLegalHistory (S : State) : Type 0 where
  pub so_far : S.forwards ≡ forwards_after S.opening.forwards S.journal
  pub dead : (b : ℕ) (f : Row) → HasForward S.forwards b f → Contains (map (λ (d : Death). d.id) S.journal) b
  pub once : AllPairs (λ (c d : Death). c.id ≢ d.id) S.journal
  pub forwards : All (λ (d : Death). HasForward S.forwards d.id d.forward) S.journal
  pub own : All (λ (d : Death). AvoidsId d.id d.forward) S.journal
  pub earlier : AllPairs (λ (c d : Death). AvoidsId c.id d.forward) S.journal
  pub derived : All (λ (d : Death). DerivedWithin (presented S.opening) S.opening.level
      (difference (presented S.opening).prime (unit (word_at S.opening d.id)) (element_of S.opening d.forward))) S.journal
