-- Moves of the state, by what its fields become.
use Rattle.std.proofs.Common.{◌≡◌, ℕ, zero, suc, ◌<◌, Some, None, List, [], ◌∷◌, ◌++◌, Bool, true, false, length, map, remove, get_or, refl, sym, ap, subst, ◌∙◌, true≢false}
use Rattle.std.proofs.Math.ListN.{set}
use Rattle.std.specs.Prelude.{slice_get}
use Rattle.std.proofs.lemmas.List.Elements.{All-head}
use Rattle.std.proofs.lemmas.Option.{slice_get-get_or}
use Rattle.ve_theory.specs.Answers.{Row}
use Rattle.ve_table.specs.Tables.{ActionTable, presented}
use Rattle.ve_table.specs.Sound.{HasLiveIds}
use Rattle.ve_table.specs.Changes.{with_forward}
use Rattle.ve_table.proofs.Entries.{same_some}
use Rattle.ve_machine.specs.Forwards.{AreLive, IsDrawnFrom, IsRewritten}
use Rattle.ve_machine.specs.Jobs.{IsLiveIn}
use Rattle.ve_machine.specs.Seats.{Desk, HasDesk, Job, State, empty_desk, image_job, present, relator_job, submodule_job, with_job, with_relation}
use Rattle.ve_machine.specs.SharedSteps.{CanRead, CanTake, deleted}
use Rattle.ve_machine.specs.Hands.{Hand, Reading, empty_hand, next_hand, parts_of, summed_hand, unread}
use Rattle.ve_machine.specs.HandSteps.{read_hand}
use Rattle.ve_machine.specs.Machines.{HasHand, Machine, Move, applies, deletes, drops, lifts, reads, repairs, returns_job, returns_relation, rewrites, submits, takes, to_apply, to_conclude, to_lift, to_read, to_repair, to_return, to_rewrite, to_submit, to_take, with_hand}
use Rattle.ve_machine.specs.Allowed.{CanApply, CanRepair}
use Rattle.ve_settle.specs.Settling.{Rewrites}
use Rattle.ve_hand.specs.Outcomes.{AppliesHand, RepairsHand}
use Rattle.ve_core.specs.declared.entry.Entry.{Entry}
use Rattle.ve_core.specs.declared.state.CoreState.TheInside.{Inside}
use Rattle.ve_core.specs.Kept.{IsKept, death_of, machine_of}
use Rattle.ve_core.specs.Moving.{Tries}
use Rattle.ve_core.proofs.Journals.{deaths_after}

-- an element that was read at a place
pub held : {X : Type 0} (xs : List X) (i : ℕ) (x : X) → i < length xs → x ≡ get_or xs i x → slice_get xs i ≡ Some x
held xs i x less same = slice_get-get_or xs i x less ∙ ap Some (sym same)

pub set_again : {X : Type 0} (xs : List X) (i : ℕ) (x : X) → slice_get xs i ≡ Some x → set xs i x ≡ xs
set_again [] i x is = refl
set_again (y ∷ xs) zero x is = ap (λ z. z ∷ xs) (same_some x y (sym is))
set_again (y ∷ xs) (suc i) x is = ap (λ zs. y ∷ zs) (set_again xs i x is)

-- the parts of a job are the opening's
parts_same : (S : State) (job : Job) → parts_of (present S) job ≡ parts_of S.opening job
parts_same S (relator_job b number) = refl
parts_same S (submodule_job number) = refl
parts_same S (image_job b x) = refl

-- the prime of the table is the machine's
pub own_prime : (s : Inside) → IsKept s → (presented s.table).prime ≡ (presented s.opening.value).prime
own_prime s kept = ap (λ T. (presented T).prime) kept.table

module _ (s : Inside) (kept : IsKept s) (seat : ℕ) where
  abbrev M : Machine
  M = machine_of s

  -- the desk and the hand, and what lies behind them
  abbrev seated : List Job → List Row → Desk → Hand → Machine
  seated done queue desk hand = record { shared = record M.shared { done = done; queue = queue; desks = set M.shared.desks seat desk }; hands = set M.hands seat hand }

  pub job_taken : (job : Job) (desk : Desk) (hand : Hand) → CanTake M.shared seat job → desk ≡ with_job job → hand ≡ next_hand [] (parts_of s.table job)
      → Move M (to_take seat job) (seated M.shared.done M.shared.queue desk hand)
  job_taken job desk hand can on_desk in_hand =
      let own : hand ≡ next_hand [] (parts_of s.opening.value job) = in_hand ∙ ap (next_hand []) (ap (λ T. parts_of T job) kept.table ∙ parts_same M.shared job) in
      subst (Move M (to_take seat job)) (λ i. seated M.shared.done M.shared.queue (sym on_desk i) (sym own i)) (takes seat job can)

  pub relation_lifted : (place : ℕ) (v : Row) (queue : List Row) (desk : Desk) (hand : Hand) → HasDesk M.shared seat empty_desk → slice_get M.shared.queue place ≡ Some v → queue ≡ remove M.shared.queue place
      → desk ≡ with_relation v → hand ≡ summed_hand v unread → Move M (to_lift seat place) (seated M.shared.done queue desk hand)
  relation_lifted place v queue desk hand idle queued rest on_desk in_hand =
      subst (Move M (to_lift seat place)) (λ i. seated M.shared.done (sym rest i) (sym on_desk i) (sym in_hand i)) (lifts seat place v (record { idle = idle; queued = queued }))

  pub job_returned : (job : Job) (desk : Desk) (hand : Hand) → HasDesk M.shared seat (with_job job) → desk ≡ empty_desk → hand ≡ empty_hand
      → Move M (to_return seat) (seated M.shared.done M.shared.queue desk hand)
  job_returned job desk hand on_desk no_desk no_hand =
      subst (Move M (to_return seat)) (λ i. seated M.shared.done M.shared.queue (sym no_desk i) (sym no_hand i)) (returns_job seat job on_desk)

  pub relation_returned : (relation v : Row) (reading : Reading) (queue : List Row) (desk : Desk) (hand : Hand) → HasDesk M.shared seat (with_relation relation) → HasHand M seat (summed_hand v reading)
      → queue ≡ M.shared.queue ++ v ∷ [] → desk ≡ empty_desk → hand ≡ empty_hand → Move M (to_return seat) (seated M.shared.done queue desk hand)
  relation_returned relation v reading queue desk hand on_desk has queued no_desk no_hand =
      subst (Move M (to_return seat)) (λ i. seated M.shared.done (sym queued i) (sym no_desk i) (sym no_hand i)) (returns_relation seat relation v reading on_desk has)

  pub job_submitted : (job : Job) (v : Row) (reading : Reading) (done : List Job) (queue : List Row) (desk : Desk) (hand : Hand) → HasDesk M.shared seat (with_job job) → HasHand M seat (summed_hand v reading)
      → done ≡ job ∷ M.shared.done → queue ≡ M.shared.queue ++ v ∷ [] → desk ≡ empty_desk → hand ≡ empty_hand → Move M (to_submit seat) (seated done queue desk hand)
  job_submitted job v reading done queue desk hand on_desk has is_done queued no_desk no_hand =
      subst (Move M (to_submit seat)) (λ i. seated (sym is_done i) (sym queued i) (sym no_desk i) (sym no_hand i)) (submits seat job v reading on_desk has)

  pub hand_read : (hand next : Hand) → CanRead M.shared seat → HasHand M seat hand → next ≡ read_hand M.shared hand → Move M (to_read seat) (with_hand M M.shared seat next)
  hand_read hand next can has same = subst (Move M (to_read seat)) (λ i. with_hand M M.shared seat (sym same i)) (reads seat hand can has)

  -- the same hand
  same_hand : (hand other : Hand) → HasHand M seat hand → HasHand M seat other → hand ≡ other
  same_hand hand other has also = same_some hand other (sym has ∙ also)

  unmoved : (hand next : Hand) → HasHand M seat hand → next ≡ hand → with_hand M M.shared seat next ≡ M
  unmoved hand next has same = (λ i. with_hand M M.shared seat (same i)) ∙ (λ i. record { shared = M.shared; hands = set_again M.hands seat hand has i })

  pub repair_tried : (p : ℕ) (hand next : Hand) (moved : Bool) → p ≡ (presented s.table).prime → HasHand M seat hand → RepairsHand p hand moved next → Tries M (to_repair seat) moved (with_hand M M.shared seat next)
  repair_tried p hand next true prime has moves = record {
    moves = λ _. repairs seat hand next has (subst (λ q. RepairsHand q hand true next) (prime ∙ own_prime s kept) moves);
    refused = λ no. absurd (true≢false no);
    stays = λ no. absurd (true≢false no);
  }
  repair_tried p hand next false prime has stays = record {
    moves = λ yes. absurd (true≢false (sym yes));
    refused = λ _ allowed. stays.1 (subst CanRepair (same_hand allowed.0 hand allowed.1 has) allowed.2);
    stays = λ _. unmoved hand next has stays.0;
  }

  pub apply_tried : (p : ℕ) (hand next : Hand) (moved : Bool) → p ≡ (presented s.table).prime → HasHand M seat hand → AppliesHand p hand moved next → Tries M (to_apply seat) moved (with_hand M M.shared seat next)
  apply_tried p hand next true prime has moves = record {
    moves = λ _. applies seat hand next has (subst (λ q. AppliesHand q hand true next) (prime ∙ own_prime s kept) moves);
    refused = λ no. absurd (true≢false no);
    stays = λ no. absurd (true≢false no);
  }
  apply_tried p hand next false prime has stays = record {
    moves = λ yes. absurd (true≢false (sym yes));
    refused = λ _ allowed. stays.1 (subst CanApply (same_hand allowed.0 hand allowed.1 has) allowed.2);
    stays = λ _. unmoved hand next has stays.0;
  }

  -- with another table and journal
  abbrev buried : ActionTable → List Entry → Desk → Hand → Machine
  buried T entries desk hand = record {
    shared = record M.shared { forwards = T.forwards; rows = T.rows; desks = set M.shared.desks seat desk; journal = map (death_of T.forwards) entries };
    hands = set M.hands seat hand;
  }

  pub relation_dropped : (relation v : Row) (reading : Reading) (T : ActionTable) (entries : List Entry) (desk : Desk) (hand : Hand) → HasDesk M.shared seat (with_relation relation) → HasHand M seat (summed_hand v reading)
      → v ≡ [] → T ≡ s.table → entries ≡ s.journal.items → desk ≡ empty_desk → hand ≡ empty_hand → Move M (to_conclude seat) (buried T entries desk hand)
  relation_dropped relation v reading T entries desk hand on_desk has is_zero same also no_desk no_hand =
      subst (Move M (to_conclude seat)) (λ i. buried (sym same i) (sym also i) (sym no_desk i) (sym no_hand i))
      (drops seat relation reading on_desk (subst (λ w. HasHand M seat (summed_hand w reading)) is_zero has))

  pub relation_deleted : (relation v : Row) (reading : Reading) (id : ℕ) (f : Row) (T : ActionTable) (entries : List Entry) (desk : Desk) (hand : Hand) → HasDesk M.shared seat (with_relation relation)
      → HasHand M seat (summed_hand v reading) → AreLive M.shared.forwards v → IsDrawnFrom (presented s.table).prime v id f → T ≡ with_forward s.table id f
      → entries ≡ s.journal.items ++ record { seat = seat; id = id } ∷ [] → desk ≡ empty_desk → hand ≡ empty_hand → Move M (to_conclude seat) (buried T entries desk hand)
  relation_deleted relation v reading id f T entries desk hand on_desk has live drawn same also no_desk no_hand =
      subst (Move M (to_conclude seat))
      (sym ((λ i. buried (same i) (also i) (no_desk i) (no_hand i))
      ∙ (λ i. record {
        shared = record (deleted M.shared seat id f) { journal = deaths_after s.table.forwards id seat f s.journal.items is_live kept.right.legal.forwards i };
        hands = set M.hands seat empty_hand;
      })))
      (deletes seat relation v reading id f on_desk has live (subst (λ p. IsDrawnFrom p v id f) (own_prime s kept) drawn))
    where
      is_live : IsLiveIn s.table.forwards id
      is_live = All-head (λ (t : ℕ × ℕ). slice_get s.table.forwards t.0 ≡ Some None) (id, drawn.coefficient) drawn.others (subst (AreLive s.table.forwards) drawn.first live)

pub row_tried : (s : Inside) (T : ActionTable) (b x : ℕ) (moved : Bool) → IsKept s → Rewrites s.table b x moved T → Tries (machine_of s) (to_rewrite b x) moved (machine_of (record s { table = T }))
row_tried s T b x true kept done = record {
  moves = λ _.
      subst (λ (U : ActionTable). Move (machine_of s) (to_rewrite b x) (machine_of (record s { table = U }))) (sym done.change)
      (rewrites b x done.next
      (record {
        row = done.row;
        is_row = done.is_row;
        stale = λ live. absurd (true≢false (done.settled.1 live));
        rewritten = subst (λ p. IsRewritten p s.table.forwards done.row done.next) (own_prime s kept) done.rewritten;
      }));
  refused = λ no. absurd (true≢false no);
  stays = λ no. absurd (true≢false no);
}
row_tried s T b x false kept done = record {
  moves = λ yes. absurd (true≢false (sym yes));
  refused = λ _ allowed. allowed.2 (subst (HasLiveIds s.table) (same_some done.row allowed.0 (sym done.is_row ∙ allowed.1)) (done.settled.0 refl));
  stays = λ _. ap (λ (U : ActionTable). machine_of (record s { table = U })) (done.same refl);
}
