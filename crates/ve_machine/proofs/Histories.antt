-- Steps keep the history legal, and journals go on.
use Rattle.std.proofs.Common.{◌≡◌, ◌≢◌, ℕ, ◌<◌, inl, inr, Some, None, List, [], ◌∷◌, ◌++◌, length, map, get_or, All, AllPairs, Contains, refl, sym, ap, subst, ◌∙◌, append-nil, arith}
use Rattle.std.proofs.Math.ListN.{set}
use Rattle.std.specs.Prelude.{slice_get}
use Rattle.std.proofs.lemmas.List.Elements.{All-cons, All-nil, All-push, All-weaker, Contains-append_left, Contains-push}
use Rattle.std.proofs.lemmas.List.Quantifiers.{all_pairs_push}
use Rattle.std.proofs.lemmas.Option.{get_or_from_slice_get, slice_get_within}
use Rattle.ve_theory.specs.Combinations.{difference, unit}
use Rattle.ve_theory.specs.Derivations.{DerivedWithin}
use Rattle.ve_theory.specs.Answers.{Row}
use Rattle.ve_theory.specs.Laws.{HasInverses, LevelsAreClosed}
use Rattle.ve_table.specs.Tables.{ActionTable, element_of, presented, word_at}
use Rattle.ve_table.proofs.Killing.{read_set}
use Rattle.ve_machine.specs.Forwards.{IsDrawnFrom}
use Rattle.ve_machine.specs.Jobs.{HasForward, IsLiveIn}
use Rattle.ve_machine.specs.Finished.{IsPacked}
use Rattle.ve_machine.specs.Seats.{Death, State, forwards_after, opened_state, present}
use Rattle.ve_machine.specs.SharedSteps.{CanConclude, Step, deleted, deletes, drops, lifts, reads, returns_job, returns_relation, rewrites, submits, takes}
use Rattle.ve_machine.specs.Covered.{AvoidsId, IsLegalHistory, IsSoundState}
use Rattle.ve_machine.specs.SharedLaws.{GoesOn, KeepsKnown, StepsGoOn, StepsKeepHistory}
use Rattle.ve_machine.proofs.SharedLists.{set_else, set_here}
use Rattle.ve_machine.proofs.JournalForwards.{forwards_append}
use Rattle.ve_machine.proofs.KeptKnown.{live_not_dead}
use Rattle.ve_machine.proofs.DrawnForwards.{drawn_below, drawn_keys}
use Rattle.ve_machine.proofs.SoundSteps.{death_keeps, drawn_live, sound_after}

-- the ids that died
abbrev ids : List Death → List ℕ
ids journal = map (λ (d : Death). d.id) journal

ids_append : (journal : List Death) (d : Death) → ids (journal ++ d ∷ []) ≡ ids journal ++ d.id ∷ []
ids_append [] d = refl
ids_append (c ∷ journal) d = ap (λ l. c.id ∷ l) (ids_append journal d)

-- a history that other parts of the machine don't touch
history_kept : (S T : State) → T.opening ≡ S.opening → T.forwards ≡ S.forwards → T.journal ≡ S.journal → IsLegalHistory S → IsLegalHistory T
history_kept S T opening forwards journal legal = record {
  so_far = forwards ∙ legal.so_far ∙ ap (λ (O : ActionTable). forwards_after O.forwards S.journal) (sym opening) ∙ ap (forwards_after T.opening.forwards) (sym journal);
  dead = λ b f is. subst (λ j. Contains (ids j) b) (sym journal) (legal.dead b f (subst (λ fs. HasForward fs b f) forwards is));
  once = subst (AllPairs (λ (c d : Death). c.id ≢ d.id)) (sym journal) legal.once;
  forwards = subst (λ fs. All (λ (d : Death). HasForward fs d.id d.forward) T.journal) (sym forwards) (subst (All (λ (d : Death). HasForward S.forwards d.id d.forward)) (sym journal) legal.forwards);
  own = subst (All (λ (d : Death). AvoidsId d.id d.forward)) (sym journal) legal.own;
  earlier = subst (AllPairs (λ (c d : Death). AvoidsId c.id d.forward)) (sym journal) legal.earlier;
  derived = subst (λ O. All (Shows O) T.journal) (sym opening) (subst (All (Shows S.opening)) (sym journal) legal.derived);
}
  where
    Shows : ActionTable → Death → Type 0
    Shows O d = DerivedWithin (presented O) O.level (difference (presented O).prime (unit (word_at O d.id)) (element_of O d.forward))

-- no id of a vector is one of which Q does not hold
avoids : (Q : ℕ → Type 0) (id : ℕ) (v : Row) → ¬ Q id → All (λ t. Q t.0) v → AvoidsId id v
avoids Q id v not_q all = All-weaker (λ (t : ℕ × ℕ). Q t.0) (λ (t : ℕ × ℕ). t.0 ≢ id) (λ t q same. not_q (subst Q same q)) v all

module _ (inverses : HasInverses) (closed : LevelsAreClosed) (S : State) (seat : ℕ) (sound : IsSoundState S) (legal : IsLegalHistory S) where
  abbrev O : ActionTable
  O = S.opening

  abbrev p : ℕ
  p = (presented O).prime

  module _ (v : Row) (id : ℕ) (forward : Row) (can : CanConclude S seat v) (drawn : IsDrawnFrom p v id forward) where
    abbrev T : State
    T = deleted S seat id forward

    abbrev death : Death
    death = record { seat = seat; id = id; forward = forward }

    live : IsLiveIn S.forwards id
    live = drawn_live inverses closed S seat sound v id forward can drawn

    keeps : KeepsKnown O S.forwards T.forwards
    keeps = death_keeps inverses closed S seat sound v id forward can drawn

    here : HasForward T.forwards id forward
    here = set_here S.forwards id None (Some forward) live

    -- an earlier death is of another id, which the new forward doesn't have
    earlier_death : (k : ℕ) (d : Death) → k < length S.journal → HasForward S.forwards (get_or S.journal k d).id (get_or S.journal k d).forward
    earlier_death k d less = legal.forwards k d less

    after_death : IsLegalHistory T
    after_death = record {
      so_far = ap (λ fs. set fs id (Some forward)) legal.so_far ∙ sym (forwards_append O.forwards S.journal death);
      dead = λ b f is.
          subst (λ l. Contains l b) (sym (ids_append S.journal death))
          (elim (read_set S.forwards id b (Some forward) (Some f) is) [
            | inl same ↦ subst (Contains (ids S.journal ++ id ∷ [])) same.0 (Contains-push (ids S.journal) id)
            | inr there ↦ Contains-append_left (ids S.journal) (id ∷ []) b (legal.dead b f there)
          ]);
      once = all_pairs_push (λ (c d : Death). c.id ≢ d.id) S.journal death legal.once
          (λ k d less same. live_not_dead S.forwards id (get_or S.journal k d).forward live (subst (λ n. HasForward S.forwards n (get_or S.journal k d).forward) same (earlier_death k d less)));
      forwards = All-push (λ (d : Death). HasForward T.forwards d.id d.forward) S.journal death
          (All-weaker (λ (d : Death). HasForward S.forwards d.id d.forward) (λ (d : Death). HasForward T.forwards d.id d.forward) (λ d is. keeps.dead d.id d.forward is) S.journal legal.forwards) here;
      own = All-push (λ (d : Death). AvoidsId d.id d.forward) S.journal death legal.own
          (avoids (λ n. n < id) id forward (λ less. omega (arith, less)) (drawn_below inverses (present S) sound.table v forward id can.0.vector drawn));
      earlier = all_pairs_push (λ (c d : Death). AvoidsId c.id d.forward) S.journal death legal.earlier
          (λ k d less.
          avoids (IsLiveIn S.forwards) (get_or S.journal k d).id forward (λ alive. live_not_dead S.forwards (get_or S.journal k d).id (get_or S.journal k d).forward alive (earlier_death k d less))
          (drawn_keys inverses (present S) sound.table v forward id can.0.vector drawn (IsLiveIn S.forwards) can.1));
      derived = All-push (λ (d : Death). DerivedWithin (presented O) O.level (difference p (unit (word_at O d.id)) (element_of O d.forward))) S.journal death legal.derived
          ((sound_after inverses closed S seat sound T (deletes v id forward can drawn)).table.forwards id forward here).stands.derived;
    }

  pub legal_after : (T : State) → Step S seat T → IsLegalHistory T
  legal_after T (takes job can) = history_kept S T refl refl refl legal
  legal_after T (reads can) = legal
  legal_after T (submits job v can) = history_kept S T refl refl refl legal
  legal_after T (lifts place v can) = history_kept S T refl refl refl legal
  legal_after T (drops can) = history_kept S T refl refl refl legal
  legal_after T (deletes v id forward can drawn) = after_death v id forward can drawn
  legal_after T (rewrites b x next can) = history_kept S T refl refl refl legal
  legal_after T (returns_job job is) = history_kept S T refl refl refl legal
  legal_after T (returns_relation v has) = history_kept S T refl refl refl legal

pub steps_keep_history : HasInverses → LevelsAreClosed → StepsKeepHistory
steps_keep_history inverses closed S T seat sound step legal = legal_after inverses closed S seat sound legal T step

-- where no id is dead the history is empty
pub history_opens : (O : ActionTable) (seats : ℕ) → IsPacked O → IsLegalHistory (opened_state O seats)
unfolding forwards_after
history_opens O seats packed = record {
  so_far = refl;
  dead = λ b f is. absurd (live_not_dead O.forwards b f (none_here b f is) is);
  once = λ i j d less within. absurd (omega (arith, within));
  forwards = All-nil (λ (d : Death). HasForward O.forwards d.id d.forward);
  own = All-nil (λ (d : Death). AvoidsId d.id d.forward);
  earlier = λ i j d less within. absurd (omega (arith, within));
  derived = All-nil (λ (d : Death). DerivedWithin (presented O) O.level (difference (presented O).prime (unit (word_at O d.id)) (element_of O d.forward)));
}
  where
    none_here : (b : ℕ) (f : Row) → HasForward O.forwards b f → IsLiveIn O.forwards b
    none_here b f is = is ∙ ap Some (sym (get_or_from_slice_get O.forwards b (Some f) None is) ∙ packed b None (slice_get_within O.forwards b (Some f) is))

-- journals

same_journal : (S T : State) (seat : ℕ) → T.opening ≡ S.opening → T.journal ≡ S.journal → ((other : ℕ) → other ≢ seat → slice_get T.desks other ≡ slice_get S.desks other) → GoesOn S seat T
same_journal S T seat opening journal desks = record {
  opening = opening;
  added = [];
  longer = journal ∙ sym (append-nil S.journal);
  by_seat = All-nil (λ (d : Death). d.seat ≡ seat);
  desks = desks;
}

pub steps_go_on : StepsGoOn
steps_go_on S T seat (takes job can) = same_journal S T seat refl refl (λ other differ. set_else S.desks seat other _ differ)
steps_go_on S T seat (reads can) = same_journal S T seat refl refl (λ other differ. refl)
steps_go_on S T seat (submits job v can) = same_journal S T seat refl refl (λ other differ. set_else S.desks seat other _ differ)
steps_go_on S T seat (lifts place v can) = same_journal S T seat refl refl (λ other differ. set_else S.desks seat other _ differ)
steps_go_on S T seat (drops can) = same_journal S T seat refl refl (λ other differ. set_else S.desks seat other _ differ)
steps_go_on S T seat (deletes v id forward can drawn) = record {
  opening = refl;
  added = record { seat = seat; id = id; forward = forward } ∷ [];
  longer = refl;
  by_seat = All-cons (λ (d : Death). d.seat ≡ seat) _ [] refl (All-nil (λ (d : Death). d.seat ≡ seat));
  desks = λ other differ. set_else S.desks seat other _ differ;
}
steps_go_on S T seat (rewrites b x next can) = same_journal S T seat refl refl (λ other differ. refl)
steps_go_on S T seat (returns_job job is) = same_journal S T seat refl refl (λ other differ. set_else S.desks seat other _ differ)
steps_go_on S T seat (returns_relation v has) = same_journal S T seat refl refl (λ other differ. set_else S.desks seat other _ differ)
