-- Steps keep what is done covered.
use Rattle.std.proofs.Common.{◌≡◌, ◌≢◌, ℕ, ◌<◌, ◌⊎◌, inl, inr, List, [], ◌∷◌, ◌++◌, Contains, refl, sym, ap, subst, ◌∙◌, arith}
use Rattle.std.proofs.Math.ListN.{set}
use Rattle.std.specs.Prelude.{slice_get}
use Rattle.std.proofs.lemmas.Bool.{cases_eq}
use Rattle.std.proofs.lemmas.List.Elements.{All-contains, Contains-append_left, Contains-append_right, Contains-push}
use Rattle.ve_theory.specs.Combinations.{difference}
use Rattle.ve_theory.specs.Answers.{Row}
use Rattle.ve_theory.specs.Laws.{HasInverses, LevelsAreClosed}
use Rattle.ve_theory.proofs.Sums.{SameWeights_of}
use Rattle.ve_lemmas.proofs.Lists.{Contains-cons}
use Rattle.ve_table.specs.Tables.{ActionTable, presented}
use Rattle.ve_table.proofs.Entries.{same_some}
use Rattle.ve_machine.specs.Forwards.{IsDrawnFrom, IsForwarding}
use Rattle.ve_machine.specs.Jobs.{IsUnderWay}
use Rattle.ve_machine.specs.Seats.{Desk, HasDesk, Job, State, empty_desk, opened_state, present, with_desk, with_job, with_relation}
use Rattle.ve_machine.specs.SharedJobs.{ComesFrom, IsOfLevel}
use Rattle.ve_machine.specs.SharedSteps.{CanConclude, CanLift, CanRewrite, CanSubmit, HasRelation, Step, deleted, deletes, drops, lifted, lifts, queued_again, reads, returns_job, returns_relation, rewrites, submits, submitted, takes, with_next}
use Rattle.ve_machine.specs.Covered.{IsCovered, IsOwedBy, IsSoundState, Owed, queued}
use Rattle.ve_machine.specs.Covered as Covered
use Rattle.ve_machine.specs.SharedLaws.{KeepsKnown, StepsKeepCovered, StepsKeepDone}
use Rattle.ve_machine.proofs.Forwardings.{IsForwarding-chained, IsForwarding-nothing, drawn_forwarding, nothing_forwarded, positive_prime}
use Rattle.ve_machine.proofs.UnderWay.{stays_where_rewritten}
use Rattle.ve_machine.proofs.SharedLists.{contains_but, set_else, set_here}
use Rattle.ve_machine.proofs.KeptKnown.{forwarding_turned, kept_where_same}
use Rattle.ve_machine.proofs.OwedRelations.{Passes, covered_on, passes_away, passes_itself}
use Rattle.ve_machine.proofs.SoundSteps.{death_keeps, drawn_live, sound_after}

-- desks

abbrev IsRelationDesk : Desk → Type 0
IsRelationDesk empty_desk = ⊥
IsRelationDesk (with_job job) = ⊥
IsRelationDesk (with_relation v) = Unit {0}

relation_of : Desk → Row
relation_of empty_desk = []
relation_of (with_job job) = []
relation_of (with_relation v) = v

relation_is : (u v : Row) → with_relation u ≡ with_relation v → u ≡ v
unfolding relation_of
relation_is u v same = ap relation_of same

-- relations on desks stay there where another desk changes
relation_kept : (S : State) (seat : ℕ) (old new : Desk) → HasDesk S seat old → ¬ IsRelationDesk old → (other : ℕ) (v : Row) → HasDesk S other (with_relation v)
    → HasDesk (with_desk S seat new) other (with_relation v)
relation_kept S seat old new is_old not_relation other v is =
    set_else S.desks seat other new
    (λ same. not_relation (subst IsRelationDesk (sym (same_some old (with_relation v) (sym is_old ∙ subst (λ n. HasDesk S n (with_relation v)) same is))) tt))
    ∙ is

module _ (S T : State) (seat : ℕ) (positive : 0 < (presented S.opening).prime) where
  abbrev HasPassed : Row → Type 0
  HasPassed v = Passes (presented S.opening).prime T v

  -- desks that had no relation
  kept_desks : (old new : Desk) → HasDesk S seat old → ¬ IsRelationDesk old → T.desks ≡ set S.desks seat new → (other : ℕ) (v : Row) → HasDesk S other (with_relation v) → HasPassed v
  kept_desks old new is_old not_relation desks other v is =
      passes_itself (presented S.opening).prime T v positive
      (Covered.lifted other v (ap (λ ds. slice_get ds other) desks ∙ relation_kept S seat old new is_old not_relation other v is))

  -- a desk that had one
  cleared_desk : (relation : Row) (new : Desk) → HasDesk S seat (with_relation relation) → T.desks ≡ set S.desks seat new → HasPassed relation
      → (other : ℕ) (v : Row) → HasDesk S other (with_relation v) → HasPassed v
  cleared_desk relation new is_old desks passed other v is = cases (cases_eq other seat)
    where
      cases : (other ≡ seat) ⊎ (other ≢ seat) → HasPassed v
      cases (inl same) =
          subst HasPassed (relation_is relation v (same_some (with_relation relation) (with_relation v) (sym is_old ∙ subst (λ n. HasDesk S n (with_relation v)) same is))) passed
      cases (inr differ) =
          passes_itself (presented S.opening).prime T v positive
          (Covered.lifted other v (ap (λ ds. slice_get ds other) desks ∙ set_else S.desks seat other new differ ∙ is))

  -- the queue, where it only grew
  kept_queue : (added : List Row) → T.queue ≡ S.queue ++ added → (v : Row) → Contains S.queue v → HasPassed v
  kept_queue added queue v there =
      passes_itself (presented S.opening).prime T v positive (queued v (subst (λ q. Contains q v) (sym queue) (Contains-append_left S.queue added v there)))

  same_queue : T.queue ≡ S.queue → (v : Row) → Contains S.queue v → HasPassed v
  same_queue queue v there = passes_itself (presented S.opening).prime T v positive (queued v (subst (λ q. Contains q v) (sym queue) there))

module _ (inverses : HasInverses) (closed : LevelsAreClosed) (S : State) (seat : ℕ) (sound : IsSoundState S) (covered : IsCovered S) where
  abbrev O : ActionTable
  O = S.opening

  abbrev p : ℕ
  p = (presented O).prime

  positive : 0 < p
  positive = positive_prime O sound.opening

  -- what comes from a done job is owed after the step
  jobs_on : (T : State) → KeepsKnown O S.forwards T.forwards → ((v : Row) → Contains S.queue v → Passes p T v) → ((other : ℕ) (v : Row) → HasDesk S other (with_relation v) → Passes p T v)
      → (job : Job) → Contains S.done job → (w : Row) × Owed T w × ComesFrom O T.forwards job w
  jobs_on T keeps from_queue from_desks job there =
      covered_on S T positive from_queue from_desks job keeps (All-contains (IsOfLevel O S.forwards) S.done job sound.done there) (covered.jobs job there)

  under_way : IsUnderWay O (present S)
  under_way = record { draft = refl; level = refl; words = refl; images = refl; sound = sound.table; rows = covered.rows }

  turned : (v : Row) (has : HasRelation S seat v) → IsForwarding p S.forwards (difference p has.relation v)
  turned v has = forwarding_turned p S.forwards v has.relation positive has.same

  after_take : (old new : Desk) → HasDesk S seat old → ¬ IsRelationDesk old → IsCovered (with_desk S seat new)
  after_take old new is_old not_relation = record {
    rows = covered.rows;
    jobs = jobs_on (with_desk S seat new) (kept_where_same O S.forwards) (same_queue S (with_desk S seat new) seat positive refl)
        (kept_desks S (with_desk S seat new) seat positive old new is_old not_relation refl);
  }

  after_submit : (job : Job) (v : Row) → CanSubmit S seat job v → IsCovered (submitted S seat job v)
  after_submit job v can = record {
    rows = covered.rows;
    jobs = λ other there.
        elim (Contains-cons job other S.done there) [
          | inl same ↦ subst (IsOwedBy (submitted S seat job v)) same (v, queued v (Contains-push S.queue v), can.comes)
          | inr earlier ↦ jobs_on (submitted S seat job v) (kept_where_same O S.forwards) (kept_queue S (submitted S seat job v) seat positive (v ∷ []) refl)
              (kept_desks S (submitted S seat job v) seat positive (with_job job) empty_desk can.on_desk (λ no_relation. no_relation) refl) other earlier
        ];
  }

  after_lift : (place : ℕ) (v : Row) → CanLift S seat place v → IsCovered (lifted S seat place v)
  after_lift place v can = record {
    rows = covered.rows;
    jobs = jobs_on (lifted S seat place v) (kept_where_same O S.forwards) from_queue
        (kept_desks S (lifted S seat place v) seat positive empty_desk (with_relation v) can.idle (λ no_relation. no_relation) refl);
  }
    where
      from_queue : (u : Row) → Contains S.queue u → Passes p (lifted S seat place v) u
      from_queue u there =
          elim (contains_but S.queue place v u can.queued there) [
            | inl same ↦ subst (Passes p (lifted S seat place v)) same
                (passes_itself p (lifted S seat place v) v positive (Covered.lifted seat v (set_here S.desks seat empty_desk (with_relation v) can.idle)))
            | inr left ↦ passes_itself p (lifted S seat place v) u positive (queued u left)
          ]

  after_drop : CanConclude S seat [] → IsCovered (with_desk S seat empty_desk)
  after_drop can = record {
    rows = covered.rows;
    jobs = jobs_on (with_desk S seat empty_desk) (kept_where_same O S.forwards) (same_queue S (with_desk S seat empty_desk) seat positive refl)
        (cleared_desk S (with_desk S seat empty_desk) seat positive can.0.relation empty_desk can.0.on_desk refl
        (passes_away p (with_desk S seat empty_desk) can.0.relation
        (IsForwarding-chained p S.forwards can.0.relation [] positive (turned [] can.0) (IsForwarding-nothing p S.forwards))));
  }

  after_death : (v : Row) (id : ℕ) (forward : Row) → CanConclude S seat v → IsDrawnFrom p v id forward → IsCovered (deleted S seat id forward)
  after_death v id forward can drawn =
      let T : State = deleted S seat id forward in
      let keeps : KeepsKnown O S.forwards T.forwards = death_keeps inverses closed S seat sound v id forward can drawn in record {
        rows = λ b x u w was now. keeps.forwardings (difference p u w) (covered.rows b x u w was now);
        jobs = jobs_on T keeps (same_queue S T seat positive refl)
            (cleared_desk S T seat positive can.0.relation empty_desk can.0.on_desk refl
            (passes_away p T can.0.relation
            (IsForwarding-chained p T.forwards can.0.relation v positive (keeps.forwardings (difference p can.0.relation v) (turned v can.0))
            (drawn_forwarding p S.forwards id forward positive (drawn_live inverses closed S seat sound v id forward can drawn) v drawn))));
      }

  after_rewrite : (b x : ℕ) (next : Row) → CanRewrite S b x next → IsCovered (with_next S b x next)
  after_rewrite b x next can = record {
    rows = (stays_where_rewritten O (present S) b x can.row next under_way can.is_row can.rewritten
        (sound_after inverses closed S seat sound (with_next S b x next) (rewrites b x next can)).table).rows;
    jobs = jobs_on (with_next S b x next) (kept_where_same O S.forwards) (same_queue S (with_next S b x next) seat positive refl)
        (λ other v is. passes_itself p (with_next S b x next) v positive (Covered.lifted other v is));
  }

  after_return : (v : Row) → HasRelation S seat v → IsCovered (queued_again S seat v)
  after_return v has = record {
    rows = covered.rows;
    jobs = jobs_on (queued_again S seat v) (kept_where_same O S.forwards) (kept_queue S (queued_again S seat v) seat positive (v ∷ []) refl)
        (cleared_desk S (queued_again S seat v) seat positive has.relation empty_desk has.on_desk refl (v, queued v (Contains-push S.queue v), turned v has));
  }

  pub covered_after : (T : State) → Step S seat T → IsCovered T
  covered_after T (takes job can) = after_take empty_desk (with_job job) can.idle (λ no_relation. no_relation)
  covered_after T (reads can) = covered
  covered_after T (submits job v can) = after_submit job v can
  covered_after T (lifts place v can) = after_lift place v can
  covered_after T (drops can) = after_drop can
  covered_after T (deletes v id forward can drawn) = after_death v id forward can drawn
  covered_after T (rewrites b x next can) = after_rewrite b x next can
  covered_after T (returns_job job is) = after_take (with_job job) empty_desk is (λ no_relation. no_relation)
  covered_after T (returns_relation v has) = after_return v has

pub steps_keep_covered : HasInverses → LevelsAreClosed → StepsKeepCovered
steps_keep_covered inverses closed S T seat sound step covered = covered_after inverses closed S seat sound covered T step

pub opening_covered : (O : ActionTable) (seats : ℕ) → 0 < (presented O).prime → IsCovered (opened_state O seats)
opening_covered O seats positive = record {
  rows = λ b x u v was now. nothing_forwarded (presented O).prime O.forwards u v positive (SameWeights_of (same_some u v (sym was ∙ now)));
  jobs = λ job there. absurd (omega (arith, there.1));
}

pub steps_keep_done : StepsKeepDone
steps_keep_done S T seat (takes job can) other there = there
steps_keep_done S T seat (reads can) other there = there
steps_keep_done S T seat (submits job v can) other there = Contains-append_right (job ∷ []) S.done other there
steps_keep_done S T seat (lifts place v can) other there = there
steps_keep_done S T seat (drops can) other there = there
steps_keep_done S T seat (deletes v id forward can drawn) other there = there
steps_keep_done S T seat (rewrites b x next can) other there = there
steps_keep_done S T seat (returns_job job is) other there = there
steps_keep_done S T seat (returns_relation v has) other there = there
