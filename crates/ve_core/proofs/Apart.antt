-- Moves keep jobs on desks apart.
use Rattle.std.proofs.Common.{◌≡◌, ◌≢◌, ◌⊎◌, inl, inr, ℕ, zero, suc, Contains, List, [], ◌∷◌, Some, refl, sym, ap, subst, ◌∙◌}
use Rattle.std.proofs.Math.ListN.{replicate, set}
use Rattle.std.specs.Prelude.{slice_get}
use Rattle.std.proofs.lemmas.Option.{get_or_from_slice_get, none-some, slice_get_within}
use Rattle.ve_theory.specs.Answers.{Row}
use Rattle.ve_table.proofs.Entries.{same_some}
use Rattle.ve_machine.specs.Seats.{Desk, Job, State, empty_desk, with_job, with_relation}
use Rattle.ve_machine.specs.SharedSteps.{CanTake}
use Rattle.ve_machine.specs.Machines.{Event, Machine, Move, applies, deletes, drops, lifts, reads, repairs, returns_job, returns_relation, rewrites, submits, takes}
use Rattle.ve_lemmas.proofs.Lists.{Contains-cons}
use Rattle.ve_machine.proofs.SharedLists.{set_here}
use Rattle.ve_core.specs.Apart.{AreApart}

-- a desk is the one that was set, or was there
at_desk : (desks : List Desk) (seat other : ℕ) (d e : Desk) → slice_get (set desks seat d) other ≡ Some e → ((other ≡ seat) × (d ≡ e)) ⊎ (slice_get desks other ≡ Some e)
at_desk [] seat other d e is = inr is
at_desk (x ∷ desks) zero zero d e is = inl (refl, same_some d e is)
at_desk (x ∷ desks) zero (suc other) d e is = inr is
at_desk (x ∷ desks) (suc seat) zero d e is = inr is
at_desk (x ∷ desks) (suc seat) (suc other) d e is = elim (at_desk desks seat other d e is) [ inl here ↦ inl (ap suc here.0, here.1) | inr there ↦ inr there ]

job_in : Desk → Job → Job
job_in empty_desk other = other
job_in (with_job job) other = job
job_in (with_relation v) other = other

same_job : (job other : Job) → with_job job ≡ with_job other → job ≡ other
unfolding job_in
same_job job other same = ap (λ d. job_in d job) same

-- a desk without a job
apart_without : (done : List Job) (desks : List Desk) (seat : ℕ) (d : Desk) → ((job : Job) → d ≢ with_job job) → AreApart done desks → AreApart done (set desks seat d)
apart_without done desks seat d none apart = record {
  undone = λ other job is. apart.undone other job (there other job is);
  alone = λ one other job is also. apart.alone one other job (there one job is) (there other job also);
}
  where
    there : (other : ℕ) (job : Job) → slice_get (set desks seat d) other ≡ Some (with_job job) → slice_get desks other ≡ Some (with_job job)
    there other job is = elim (at_desk desks seat other d (with_job job) is) [ inl here ↦ absurd (none job here.1) | inr before ↦ before ]

no_job : (job : Job) → empty_desk ≢ with_job job
no_job job same = cc

no_job_beside : (v : Row) (job : Job) → with_relation v ≢ with_job job
no_job_beside v job same = cc

apart_taken : (S : State) (seat : ℕ) (job : Job) → CanTake S seat job → AreApart S.done S.desks → AreApart S.done (set S.desks seat (with_job job))
apart_taken S seat job can apart = record {
  undone = λ other j is. undone other j (at_desk S.desks seat other (with_job job) (with_job j) is);
  alone = λ one other j is also. alone one other j (at_desk S.desks seat one (with_job job) (with_job j) is) (at_desk S.desks seat other (with_job job) (with_job j) also);
}
  where
    on_desk : (other : ℕ) (j : Job) → slice_get S.desks other ≡ Some (with_job j) → Contains S.desks (with_job j)
    on_desk other j is = (other, slice_get_within S.desks other (with_job j) is, get_or_from_slice_get S.desks other (with_job j) (with_job j) is)

    undone : (other : ℕ) (j : Job) → ((other ≡ seat) × (with_job job ≡ with_job j)) ⊎ (slice_get S.desks other ≡ Some (with_job j)) → ¬ Contains S.done j
    undone other j (inl here) found = can.waits.undone (subst (Contains S.done) (sym (same_job job j here.1)) found)
    undone other j (inr there) found = apart.undone other j there found

    alone : (one other : ℕ) (j : Job) → ((one ≡ seat) × (with_job job ≡ with_job j)) ⊎ (slice_get S.desks one ≡ Some (with_job j))
        → ((other ≡ seat) × (with_job job ≡ with_job j)) ⊎ (slice_get S.desks other ≡ Some (with_job j)) → one ≡ other
    alone one other j (inl here) (inl also) = here.0 ∙ sym also.0
    alone one other j (inl here) (inr there) = absurd (can.waits.on_no_desk (subst (Contains S.desks) (sym here.1) (on_desk other j there)))
    alone one other j (inr there) (inl also) = absurd (can.waits.on_no_desk (subst (Contains S.desks) (sym also.1) (on_desk one j there)))
    alone one other j (inr there) (inr also) = apart.alone one other j there also

apart_submitted : (done : List Job) (desks : List Desk) (seat : ℕ) (job : Job) → slice_get desks seat ≡ Some (with_job job) → AreApart done desks → AreApart (job ∷ done) (set desks seat empty_desk)
apart_submitted done desks seat job on_desk apart = record {
  undone = λ other j is found. undone other j is (at_desk desks seat other empty_desk (with_job j) is) (Contains-cons job j done found);
  alone = (apart_without done desks seat empty_desk no_job apart).alone;
}
  where
    undone : (other : ℕ) (j : Job) → slice_get (set desks seat empty_desk) other ≡ Some (with_job j)
        → ((other ≡ seat) × (empty_desk ≡ with_job j)) ⊎ (slice_get desks other ≡ Some (with_job j)) → (job ≡ j) ⊎ Contains done j → ⊥
    undone other j is (inl here) found = no_job j here.1
    undone other j is (inr there) (inr found) = apart.undone other j there found
    undone other j is (inr there) (inl same) =
        let here : other ≡ seat = apart.alone other seat j there (subst (λ k. slice_get desks seat ≡ Some (with_job k)) same on_desk) in
        let empty : slice_get (set desks seat empty_desk) seat ≡ Some empty_desk = set_here desks seat (with_job job) empty_desk on_desk in
        no_job j (same_some empty_desk (with_job j) (sym empty ∙ subst (λ k. slice_get (set desks seat empty_desk) k ≡ Some (with_job j)) here is))

pub apart_after : (M : Machine) (event : Event) (N : Machine) → Move M event N → AreApart M.shared.done M.shared.desks → AreApart N.shared.done N.shared.desks
apart_after M event N (takes seat job can) apart = apart_taken M.shared seat job can apart
apart_after M event N (reads seat hand can has) apart = apart
apart_after M event N (submits seat job v reading on_desk has) apart = apart_submitted M.shared.done M.shared.desks seat job on_desk apart
apart_after M event N (lifts seat place v can) apart = apart_without M.shared.done M.shared.desks seat (with_relation v) (no_job_beside v) apart
apart_after M event N (drops seat relation reading on_desk has) apart = apart_without M.shared.done M.shared.desks seat empty_desk no_job apart
apart_after M event N (deletes seat relation v reading id forward on_desk has live drawn) apart = apart_without M.shared.done M.shared.desks seat empty_desk no_job apart
apart_after M event N (rewrites b x next can) apart = apart
apart_after M event N (returns_job seat job on_desk) apart = apart_without M.shared.done M.shared.desks seat empty_desk no_job apart
apart_after M event N (returns_relation seat relation v reading on_desk has) apart = apart_without M.shared.done M.shared.desks seat empty_desk no_job apart
apart_after M event N (repairs seat hand next has repairs_it) apart = apart
apart_after M event N (applies seat hand next has applies_it) apart = apart

no_job_at : (seats seat : ℕ) (job : Job) → slice_get (replicate seats empty_desk) seat ≡ Some (with_job job) → ⊥
no_job_at zero seat job is = none-some (with_job job) is
no_job_at (suc seats) zero job is = no_job job (same_some empty_desk (with_job job) is)
no_job_at (suc seats) (suc seat) job is = no_job_at seats seat job is

pub apart_opened : (seats : ℕ) → AreApart [] (replicate seats empty_desk)
apart_opened seats = record {
  undone = λ seat job is. absurd (no_job_at seats seat job is);
  alone = λ seat other job is also. absurd (no_job_at seats seat job is);
}
