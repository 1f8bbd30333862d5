-- What seats do to the machine that they share. For each event: when it is enabled, and what it changes.
use Rattle.std.specs.Prelude.{◌≡◌, ◌≢◌, ℕ, [], ◌∷◌, ◌++◌, Some, remove, set, slice_get, slice_index_or}
use Rattle.ve_theory.specs.Combinations.{difference}
use Rattle.ve_theory.specs.Answers.{Row}
use Rattle.ve_table.specs.Tables.{presented, row_at}
use Rattle.ve_machine.specs.Forwards.{AreLive, IsDrawnFrom, IsForwarding, IsRewritten}
use Rattle.ve_machine.specs.Seats.{Desk, HasDesk, Job, State, empty_desk, present, with_desk, with_job, with_relation}
use Rattle.ve_machine.specs.SharedJobs.{ComesFrom, IsVectorOn, IsWaiting}

-- a seat takes a job that waits
pub record CanTake (S : State) (seat : ℕ) (job : Job) : Type 0 where
  pub idle : HasDesk S seat empty_desk
  pub waits : IsWaiting S job

abbrev pub taken : State → ℕ → Job → State
taken S seat job = with_desk S seat (with_job job)

-- it looks something up for what is on its desk
pub record CanRead (S : State) (seat : ℕ) : Type 0 where
  pub desk : Desk
  pub on_desk : HasDesk S seat desk
  pub busy : desk ≢ empty_desk

-- it brings a vector that comes from its job, which is done
pub record CanSubmit (S : State) (seat : ℕ) (job : Job) (v : Row) : Type 0 where
  pub on_desk : HasDesk S seat (with_job job)
  pub vector : IsVectorOn S.opening v
  pub comes : ComesFrom S.opening S.forwards job v

abbrev pub submitted : State → ℕ → Job → Row → State
submitted S seat job v = record S { done = job ∷ S.done; queue = S.queue ++ v ∷ []; desks = set S.desks seat empty_desk }

-- it takes a relation out of the queue
pub record CanLift (S : State) (seat place : ℕ) (v : Row) : Type 0 where
  pub idle : HasDesk S seat empty_desk
  pub queued : slice_get S.queue place ≡ Some v

abbrev pub lifted : State → ℕ → ℕ → Row → State
lifted S seat place v = record S { queue = remove S.queue place; desks = set S.desks seat (with_relation v) }

-- the vector is the relation on its desk but for forwards
pub record HasRelation (S : State) (seat : ℕ) (v : Row) : Type 0 where
  pub relation : Row
  pub on_desk : HasDesk S seat (with_relation relation)
  pub vector : IsVectorOn S.opening v
  pub same : IsForwarding (presented S.opening).prime S.forwards (difference (presented S.opening).prime v relation)

-- it concludes a relation of live ids, by which the greatest of them dies
abbrev pub CanConclude : State → ℕ → Row → Type 0
CanConclude S seat v = HasRelation S seat v × AreLive S.forwards v

abbrev pub deleted : State → ℕ → ℕ → Row → State
deleted S seat id forward = record S {
  forwards = set S.forwards id (Some forward);
  desks = set S.desks seat empty_desk;
  journal = S.journal ++ record { seat = seat; id = id; forward = forward } ∷ [];
}

-- a row that names a dead id is rewritten
pub record CanRewrite (S : State) (b x : ℕ) (next : Row) : Type 0 where
  pub row : Row
  pub is_row : row_at (present S) b x ≡ Some row
  pub stale : ¬ AreLive S.forwards row
  pub rewritten : IsRewritten (presented S.opening).prime S.forwards row next

abbrev pub with_next : State → ℕ → ℕ → Row → State
with_next S b x next = record S { rows = set S.rows b (set (slice_index_or S.rows b []) x (Some next)) }

-- a relation goes back into the queue
abbrev pub queued_again : State → ℕ → Row → State
queued_again S seat v = record S { queue = S.queue ++ v ∷ []; desks = set S.desks seat empty_desk }

-- One event of a seat, and the state that it leads to. A relation that is zero lets no id die.
pub data Step (S : State) (seat : ℕ) : State → Type 0 where
  takes : (job : Job) → CanTake S seat job → Step S seat (taken S seat job)
  reads : CanRead S seat → Step S seat S
  submits : (job : Job) (v : Row) → CanSubmit S seat job v → Step S seat (submitted S seat job v)
  lifts : (place : ℕ) (v : Row) → CanLift S seat place v → Step S seat (lifted S seat place v)
  drops : CanConclude S seat [] → Step S seat (with_desk S seat empty_desk)
  deletes : (v : Row) (id : ℕ) (forward : Row) → CanConclude S seat v → IsDrawnFrom (presented S.opening).prime v id forward
      → Step S seat (deleted S seat id forward)
  rewrites : (b x : ℕ) (next : Row) → CanRewrite S b x next → Step S seat (with_next S b x next)
  returns_job : (job : Job) → HasDesk S seat (with_job job) → Step S seat (with_desk S seat empty_desk)
  returns_relation : (v : Row) → HasRelation S seat v → Step S seat (queued_again S seat v)

-- any steps, of any seats
pub data Leads (S : State) : State → Type 0 where
  nowhere : Leads S S
  further : (T U : State) (seat : ℕ) → Leads S T → Step T seat U → Leads S U
