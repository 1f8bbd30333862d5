-- A covered machine on which nothing is left to do has a finished table.
use Rattle.std.proofs.Common.{◌≡◌, ◌≢◌, ℕ, ◌<◌, ◌⊎◌, inl, inr, nat_eq, [], length, Contains, refl, sym, ap, subst, ◌∙◌, arith}
use Rattle.std.proofs.lemmas.Bool.{cases_eq}
use Rattle.std.proofs.lemmas.Option.{slice_get_within}
use Rattle.ve_theory.specs.Combinations.{difference, extended, scaled}
use Rattle.ve_theory.specs.Elements.{Element}
use Rattle.ve_theory.specs.Answers.{Row}
use Rattle.ve_theory.specs.Laws.{FinishedLevelsAreUnique}
use Rattle.ve_theory.specs.FinishedLevels.{IsFinishedLevel}
use Rattle.ve_theory.proofs.Sums.{SameWeights, SameWeights-append, SameWeights-difference, SameWeights-extended, SameWeights-refl, SameWeights-scaled, SameWeights-sym, SameWeights-trans, Alike_from_weights, Decides-nat_eq, difference-nil, weights_from_Alike}
use Rattle.ve_lemmas.proofs.Lists.{All-slice_get}
use Rattle.ve_table.specs.Tables.{ActionTable, element_of, presented}
use Rattle.ve_machine.specs.Known.{Known}
use Rattle.ve_machine.specs.Jobs.{IsImageJob, IsKnownBelow, IsLiveIn, IsRelatorJob, IsSettled, IsSubmoduleJob, IsUnderWay, image_value, relator_value, submodule_value}
use Rattle.ve_machine.specs.Jobs as Jobs
use Rattle.ve_machine.specs.Finished.{IsFinishedTable, IsOpening}
use Rattle.ve_machine.specs.Laws.{NothingLeftIsFinished}
use Rattle.ve_machine.specs.Seats.{Job, State, empty_desk, image_job, present, relator_job, submodule_job, with_job, with_relation}
use Rattle.ve_machine.specs.SharedJobs.{HasLiveId, IsOfLevel}
use Rattle.ve_machine.specs.Covered.{IsCovered, IsOwedBy, IsQuiescent, IsSoundState, Owed, alike, combined, lifted, nothing, queued}
use Rattle.ve_machine.specs.SharedLaws.{FinishedTablesAreUnique, QuiescentTablesAreFinished}
use Rattle.ve_machine.proofs.KnownElements.{Known-alike}
use Rattle.ve_machine.proofs.SharedLists.{decide_contains}

-- two jobs are the same, or not

abbrev kind : Job → ℕ
kind (relator_job b number) = 0
kind (submodule_job number) = 1
kind (image_job b x) = 2

abbrev first_of : Job → ℕ
first_of (relator_job b number) = b
first_of (submodule_job number) = number
first_of (image_job b x) = b

abbrev second_of : Job → ℕ
second_of (relator_job b number) = number
second_of (submodule_job number) = 0
second_of (image_job b x) = x

decide_both : (make : ℕ → ℕ → Job) → ((a b : ℕ) → first_of (make a b) ≡ a) → ((a b : ℕ) → second_of (make a b) ≡ b) → (a b c d : ℕ) → (make a b ≡ make c d) ⊎ (make a b ≢ make c d)
decide_both make first second a b c d = cases (cases_eq a c) (cases_eq b d)
  where
    cases : (a ≡ c) ⊎ (a ≢ c) → (b ≡ d) ⊎ (b ≢ d) → (make a b ≡ make c d) ⊎ (make a b ≢ make c d)
    cases (inl one) (inl other) = inl (ap (λ n. make n b) one ∙ ap (make c) other)
    cases (inl one) (inr differ) = inr (λ same. differ (sym (second a b) ∙ ap second_of same ∙ second c d))
    cases (inr differ) other = inr (λ same. differ (sym (first a b) ∙ ap first_of same ∙ first c d))

differ_by_kind : (i j : Job) → kind i ≢ kind j → (i ≡ j) ⊎ (i ≢ j)
differ_by_kind i j differ = inr (λ same. differ (ap kind same))

decide_job : (i j : Job) → (i ≡ j) ⊎ (i ≢ j)
decide_job (relator_job a b) (relator_job c d) = decide_both relator_job (λ a b. refl) (λ a b. refl) a b c d
decide_job (submodule_job a) (submodule_job c) =
    elim (cases_eq a c) [ inl same ↦ inl (ap submodule_job same) | inr differ ↦ inr (λ same. differ (ap first_of same)) ]
decide_job (image_job a b) (image_job c d) = decide_both image_job (λ a b. refl) (λ a b. refl) a b c d
decide_job (relator_job a b) (submodule_job c) = differ_by_kind (relator_job a b) (submodule_job c) (λ same. omega (arith, same))
decide_job (relator_job a b) (image_job c d) = differ_by_kind (relator_job a b) (image_job c d) (λ same. omega (arith, same))
decide_job (submodule_job a) (relator_job c d) = differ_by_kind (submodule_job a) (relator_job c d) (λ same. omega (arith, same))
decide_job (submodule_job a) (image_job c d) = differ_by_kind (submodule_job a) (image_job c d) (λ same. omega (arith, same))
decide_job (image_job a b) (relator_job c d) = differ_by_kind (image_job a b) (relator_job c d) (λ same. omega (arith, same))
decide_job (image_job a b) (submodule_job c) = differ_by_kind (image_job a b) (submodule_job c) (λ same. omega (arith, same))

module _ (nothing_left : NothingLeftIsFinished) (S : State) (is_opening : IsOpening S.opening) (sound : IsSoundState S) (covered : IsCovered S) (quiescent : IsQuiescent S) where
  abbrev O : ActionTable
  O = S.opening

  abbrev p : ℕ
  p = (presented O).prime

  no_job_on_desk : (job : Job) → ¬ Contains S.desks (with_job job)
  no_job_on_desk job there = let none : with_job job ≡ empty_desk = sym there.2 ∙ quiescent.desks there.0 (with_job job) there.1 in cc

  -- a job of the level whose id is live is done
  is_done : (job : Job) → IsOfLevel O S.forwards job → HasLiveId S.forwards job → Contains S.done job
  is_done job level live =
      elim (decide_contains decide_job S.done job) [
        | inl there ↦ there
        | inr absent ↦ absurd (quiescent.jobs job (record { of_level = level; live = live; undone = absent; on_no_desk = no_job_on_desk job }))
      ]

  -- nothing is owed
  owes_nothing : {v : Row} → Owed S v → SameWeights p v []
  unfolding scaled
  owes_nothing nothing = SameWeights-refl p []
  owes_nothing (queued v there) = absurd (none_there v (subst (λ q. Contains q v) quiescent.queue there))
    where
      none_there : (v : Row) → Contains [] v → ⊥
      none_there v found = omega (arith, found.1)
  owes_nothing (lifted seat v there) = let none : with_relation v ≡ empty_desk = All-slice_get (λ desk. desk ≡ empty_desk) S.desks seat (with_relation v) there quiescent.desks in absurd cc
  owes_nothing (alike u v same owed) = SameWeights-trans (SameWeights-sym (weights_from_Alike nat_eq Decides-nat_eq p u v same)) (owes_nothing owed)
  owes_nothing (combined c d u v one other) = SameWeights-append {v = []} {s = []} (SameWeights-scaled c (owes_nothing one)) (SameWeights-scaled d (owes_nothing other))

  owed_by : (job : Job) → IsOfLevel O S.forwards job → HasLiveId S.forwards job → IsOwedBy S job
  owed_by job level live = covered.jobs job (is_done job level live)

  -- a value less nothing
  known_value : (value : Element) (v : Row) → SameWeights p v [] → Known O S.forwards (difference p value (element_of O v)) → Known O S.forwards value
  unfolding extended
  known_value value v none known =
      Known-alike O S.forwards (SameWeights-trans (SameWeights-difference (SameWeights-refl p value) (SameWeights-extended _ none)) (difference-nil p value)) known

  settled : IsSettled O S.forwards
  settled = record {
    relators = λ b number job.
        let owed = owed_by (relator_job b number) (id_there b job.live, job.is_relator, job.due) job.live in
        known_value (relator_value O b number) owed.0 (owes_nothing owed.1) owed.2;
    submodule = λ number job.
        let owed = owed_by (submodule_job number) job tt in
        known_value (submodule_value O number) owed.0 (owes_nothing owed.1) owed.2;
    images = λ b x job.
        let owed = owed_by (image_job b x) job tt in
        Jobs.alike (difference p (image_value O S.forwards b x) owed.0) (image_value O S.forwards b x)
        (Alike_from_weights nat_eq (SameWeights-trans (SameWeights-difference (SameWeights-refl p (image_value O S.forwards b x)) (owes_nothing owed.1)) (difference-nil p (image_value O S.forwards b x))))
        owed.2;
  }
    where
      id_there : (b : ℕ) → IsLiveIn S.forwards b → b < length O.words
      id_there b live = omega (arith, slice_get_within S.forwards b _ live, sound.table.one_forward_each)

  under_way : IsUnderWay O (present S)
  under_way = record { draft = refl; level = refl; words = refl; images = refl; sound = sound.table; rows = covered.rows }

  table_finished : IsFinishedTable (present S)
  table_finished = nothing_left O (present S) is_opening sound.opening under_way settled

pub quiescent_tables_are_finished : NothingLeftIsFinished → QuiescentTablesAreFinished
quiescent_tables_are_finished nothing_left S is_opening sound covered quiescent = table_finished nothing_left S is_opening sound covered quiescent

-- tables of one level

pub finished_tables_are_unique : FinishedLevelsAreUnique → FinishedTablesAreUnique
finished_tables_are_unique unique S T s t draft level =
    let same = unique (presented S) S.level s.action t.action s.sound.valid.presentation s.finished other in
    record { words = sym s.of_table.basis ∙ same.basis ∙ t.of_table.basis; actions = same }
  where
    other : IsFinishedLevel (presented S) S.level t.action
    other =
        subst (λ d. IsFinishedLevel d.presentation S.level t.action) (sym draft)
        (subst (λ k. IsFinishedLevel (presented T) k t.action) (sym level) t.finished)
