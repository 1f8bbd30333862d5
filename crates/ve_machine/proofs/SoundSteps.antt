-- Steps keep the machine sound.
use Rattle.std.proofs.Common.{ℕ, ◌<◌, All, refl, sym, subst}
use Rattle.std.proofs.Math.ListN.{set}
use Rattle.std.specs.Prelude.{IsSome}
use Rattle.std.proofs.lemmas.List.Elements.{All-cons, All-nil, All-push, All-replicate, All-set, All-weaker}
use Rattle.ve_theory.specs.Combinations.{difference}
use Rattle.ve_theory.specs.Words.{times}
use Rattle.ve_theory.specs.Answers.{Row}
use Rattle.ve_theory.specs.Laws.{HasInverses, LevelsAreClosed}
use Rattle.ve_theory.proofs.Sums.{extended-difference}
use Rattle.ve_theory.specs.Combinations.{unit}
use Rattle.ve_theory.proofs.DerivedElements.{DerivedWithin-alike}
use Rattle.ve_lemmas.proofs.Lists.{All-slice_get}
use Rattle.ve_table.specs.Tables.{ActionTable, element_of, presented, word_at}
use Rattle.ve_table.specs.Sound.{IsSound}
use Rattle.ve_table.proofs.Killing.{sound_killed}
use Rattle.ve_table.proofs.Setting.{sound_rowed}
use Rattle.ve_machine.specs.Forwards.{Forwards, IsDrawnFrom}
use Rattle.ve_machine.specs.Jobs.{IsLiveIn}
use Rattle.ve_machine.specs.Seats.{Desk, HasDesk, Job, State, empty_desk, opened_state, present, with_desk, with_job, with_relation}
use Rattle.ve_machine.specs.SharedJobs.{IsOfLevel}
use Rattle.ve_machine.specs.SharedSteps.{CanConclude, CanRewrite, CanSubmit, HasRelation, Step, deleted, deletes, drops, lifts, reads, returns_job, returns_relation, rewrites, submits, submitted, takes, with_next}
use Rattle.ve_machine.specs.Covered.{IsRelation, IsSoundDesk, IsSoundState}
use Rattle.ve_machine.specs.SharedLaws.{KeepsKnown, StepsKeepKnown, StepsKeepSound}
use Rattle.ve_machine.proofs.Forwardings.{positive_prime}
use Rattle.ve_machine.proofs.ResolvedVectors.{forwarding_derived}
use Rattle.ve_machine.proofs.SharedLists.{all_but}
use Rattle.ve_machine.proofs.KeptKnown.{forwarding_turned, kept_where_id_dies, kept_where_same, level_kept}
use Rattle.ve_machine.proofs.DerivedComings.{coming_derived, derived_rest}
use Rattle.ve_machine.proofs.DrawnForwards.{drawn_forward, drawn_holds}
use Rattle.ve_machine.proofs.RewrittenRows.{rewritten_vector}

pub state_opens : (O : ActionTable) (seats : ℕ) → IsSound O → IsSoundState (opened_state O seats)
state_opens O seats sound = record {
  opening = sound;
  table = sound;
  done = All-nil (IsOfLevel O O.forwards);
  queue = All-nil (IsRelation O);
  desks = All-replicate (IsSoundDesk O O.forwards) seats empty_desk tt;
}

desk_kept : (O : ActionTable) (old new : Forwards) → KeepsKnown O old new → (desk : Desk) → IsSoundDesk O old desk → IsSoundDesk O new desk
desk_kept O old new keeps empty_desk sound = tt
desk_kept O old new keeps (with_job job) sound = level_kept O old new keeps job sound
desk_kept O old new keeps (with_relation v) sound = sound

module _ (inverses : HasInverses) (closed : LevelsAreClosed) (S : State) (seat : ℕ) (sound : IsSoundState S) where
  abbrev O : ActionTable
  O = S.opening

  abbrev p : ℕ
  p = (presented O).prime

  positive : 0 < p
  positive = positive_prime O sound.opening

  desks_with : (desk : Desk) → IsSoundDesk O S.forwards desk → All (IsSoundDesk O S.forwards) (set S.desks seat desk)
  desks_with desk is = All-set (IsSoundDesk O S.forwards) S.desks seat desk is sound.desks

  on_desk : (desk : Desk) → HasDesk S seat desk → IsSoundDesk O S.forwards desk
  on_desk desk is = All-slice_get (IsSoundDesk O S.forwards) S.desks seat desk is sound.desks

  -- a vector that is a relation but for forwards
  changed_relation : (v : Row) → HasRelation S seat v → IsRelation O v
  changed_relation v has = record {
    vector = has.vector;
    derived = derived_rest (presented O) O.level (element_of O has.relation) (element_of O v) positive (on_desk (with_relation has.relation) has.on_desk).derived
        (DerivedWithin-alike (presented O) O.level (extended-difference p (λ j. unit (word_at O j)) has.relation v)
        (forwarding_derived (present S) sound.table (difference p has.relation v) (forwarding_turned p S.forwards v has.relation positive has.same)));
  }

  after_submit : (job : Job) (v : Row) → CanSubmit S seat job v → IsSoundState (submitted S seat job v)
  after_submit job v can = record {
    opening = sound.opening;
    table = sound.table;
    done = All-cons (IsOfLevel O S.forwards) job S.done (on_desk (with_job job) can.on_desk) sound.done;
    queue = All-push (IsRelation O) S.queue v sound.queue
        (record {
          vector = can.vector;
          derived = coming_derived O S.forwards S.rows sound.opening sound.table closed job v (on_desk (with_job job) can.on_desk) can.comes;
        });
    desks = desks_with empty_desk tt;
  }

  -- the greatest id of a relation of live ids
  pub drawn_live : (v : Row) (id : ℕ) (forward : Row) → CanConclude S seat v → IsDrawnFrom p v id forward → IsLiveIn S.forwards id
  drawn_live v id forward can drawn = drawn_holds inverses (present S) sound.table v forward id can.0.vector drawn (IsLiveIn S.forwards) can.1

  pub death_keeps : (v : Row) (id : ℕ) (forward : Row) → CanConclude S seat v → IsDrawnFrom p v id forward → KeepsKnown O S.forwards (deleted S seat id forward).forwards
  death_keeps v id forward can drawn = kept_where_id_dies O S.forwards id forward positive (drawn_live v id forward can drawn)

  after_death : (v : Row) (id : ℕ) (forward : Row) → CanConclude S seat v → IsDrawnFrom p v id forward → IsSoundState (deleted S seat id forward)
  after_death v id forward can drawn =
      let after = (deleted S seat id forward).forwards in
      let keeps = death_keeps v id forward can drawn in record {
        opening = sound.opening;
        table = sound_killed (present S) id forward sound.table
            (drawn_forward inverses (present S) sound.table v forward id can.0.vector drawn (changed_relation v can.0).derived);
        done = All-weaker (IsOfLevel O S.forwards) (IsOfLevel O after) (level_kept O S.forwards after keeps) S.done sound.done;
        queue = sound.queue;
        desks = All-set (IsSoundDesk O after) S.desks seat empty_desk tt
            (All-weaker (IsSoundDesk O S.forwards) (IsSoundDesk O after) (desk_kept O S.forwards after keeps) S.desks sound.desks);
      }

  after_rewrite : (b x : ℕ) (next : Row) → CanRewrite S b x next → IsSoundState (with_next S b x next)
  after_rewrite b x next can = record {
    opening = sound.opening;
    table = sound_rowed (present S) b x next sound.table (subst IsSome (sym can.is_row) refl)
        (rewritten_vector (present S) sound.table (times (word_at O b) x) can.row next (sound.table.rows b x can.row can.is_row) can.rewritten);
    done = sound.done;
    queue = sound.queue;
    desks = sound.desks;
  }

  with_desks : (desk : Desk) → IsSoundDesk O S.forwards desk → IsSoundState (with_desk S seat desk)
  with_desks desk is = record { opening = sound.opening; table = sound.table; done = sound.done; queue = sound.queue; desks = desks_with desk is }

  pub sound_after : (T : State) → Step S seat T → IsSoundState T
  sound_after T (takes job can) = with_desks (with_job job) can.waits.of_level
  sound_after T (reads can) = sound
  sound_after T (submits job v can) = after_submit job v can
  sound_after T (lifts place v can) = record {
    opening = sound.opening;
    table = sound.table;
    done = sound.done;
    queue = all_but (IsRelation O) S.queue place sound.queue;
    desks = desks_with (with_relation v) (All-slice_get (IsRelation O) S.queue place v can.queued sound.queue);
  }
  sound_after T (drops can) = with_desks empty_desk tt
  sound_after T (deletes v id forward can drawn) = after_death v id forward can drawn
  sound_after T (rewrites b x next can) = after_rewrite b x next can
  sound_after T (returns_job job is) = with_desks empty_desk tt
  sound_after T (returns_relation v has) = record {
    opening = sound.opening;
    table = sound.table;
    done = sound.done;
    queue = All-push (IsRelation O) S.queue v sound.queue (changed_relation v has);
    desks = desks_with empty_desk tt;
  }

  pub known_after : (T : State) → Step S seat T → KeepsKnown S.opening S.forwards T.forwards
  known_after T (takes job can) = kept_where_same O S.forwards
  known_after T (reads can) = kept_where_same O S.forwards
  known_after T (submits job v can) = kept_where_same O S.forwards
  known_after T (lifts place v can) = kept_where_same O S.forwards
  known_after T (drops can) = kept_where_same O S.forwards
  known_after T (deletes v id forward can drawn) = death_keeps v id forward can drawn
  known_after T (rewrites b x next can) = kept_where_same O S.forwards
  known_after T (returns_job job is) = kept_where_same O S.forwards
  known_after T (returns_relation v has) = kept_where_same O S.forwards

pub steps_keep_sound : HasInverses → LevelsAreClosed → StepsKeepSound
steps_keep_sound inverses closed S T seat sound step = sound_after inverses closed S seat sound T step

pub steps_keep_known : HasInverses → LevelsAreClosed → StepsKeepKnown
steps_keep_known inverses closed S T seat sound step = known_after inverses closed S seat sound T step
