-- Hands stay right for their desks.
use Rattle.std.proofs.Common.{◌≡◌, ◌≢◌, ℕ, ◌<◌, ◌⊎◌, inl, inr, nat_eq, Some, List, [], length, All, refl, sym, ap, subst, ◌∙◌, arith}
use Rattle.std.proofs.Math.ListN.{set}
use Rattle.std.specs.Prelude.{slice_get}
use Rattle.std.proofs.lemmas.Bool.{cases_eq}
use Rattle.std.proofs.lemmas.List.Elements.{All-weaker}
use Rattle.ve_theory.specs.Combinations.{difference, IsReducedOf}
use Rattle.ve_theory.specs.Answers.{Row}
use Rattle.ve_lemmas.proofs.Lists.{All-slice_get}
use Rattle.ve_table.specs.Tables.{ActionTable, presented}
use Rattle.ve_table.proofs.Entries.{same_some}
use Rattle.ve_machine.specs.Forwards.{Forwards}
use Rattle.ve_machine.specs.Jobs.{HasForward, IsUnderWay, relator_value, submodule_value}
use Rattle.ve_machine.specs.Seats.{Desk, Job, State, empty_desk, image_job, present, relator_job, submodule_job, with_job, with_relation}
use Rattle.ve_machine.specs.SharedJobs.{ComesFrom, IsOfLevel, IsVectorOn}
use Rattle.ve_machine.specs.SharedLaws.{KeepsKnown}
use Rattle.ve_machine.specs.Covered.{IsCovered, IsSoundDesk, IsSoundState}
use Rattle.ve_machine.specs.Hands.{Found, Hand, Reading, beginning_hand, empty_hand, next_hand, parts_of, read_ids, summed_hand, tracing_hand, unread}
use Rattle.ve_machine.specs.HandSteps.{Applies, Repairs, begins_forward, begins_image, multiplies, read_hand, repaired, repairs_part, repairs_sum, sums}
use Rattle.ve_machine.specs.ImageHands.{IsHandOfRelation, IsLifted, IsRightHand}
use Rattle.ve_machine.specs.Machines.{AreRightHands}
use Rattle.ve_machine.proofs.Forwardings.{are_falling, forwarded_on, positive_prime}
use Rattle.ve_machine.proofs.ReducedSums.{reduced_keys}
use Rattle.ve_machine.proofs.SharedLists.{set_else, set_here}
use Rattle.ve_machine.proofs.KeptKnown.{forwarding_turned}
use Rattle.ve_machine.proofs.FoundVectors.{found_right, read_kept, reduced_forwarding, repaired_forwarding, repaired_ids}
use Rattle.ve_machine.proofs.ElementHands as element
use Rattle.ve_machine.proofs.ElementJobs.{element_kept, element_read, relator_taken, submodule_taken}
use Rattle.ve_machine.proofs.ImageJobs as image
use Rattle.ve_machine.proofs.ImageJobs.{image_hand_kept, image_read, image_taken}

abbrev IsEmptyHand : Hand → Type 0
IsEmptyHand empty_hand = Unit {0}
IsEmptyHand (beginning_hand sum part parts reading) = ⊥
IsEmptyHand (tracing_hand sum coefficient parts vector left reading) = ⊥
IsEmptyHand (summed_hand vector reading) = ⊥

-- deaths

module _ (O : ActionTable) (old new : Forwards) (keeps : KeepsKnown O old new) (positive : 0 < (presented O).prime) where
  relation_kept : (relation : Row) (hand : Hand) → IsHandOfRelation O old relation hand → IsHandOfRelation O new relation hand
  relation_kept relation empty_hand right = absurd right
  relation_kept relation (beginning_hand sum part parts reading) right = absurd right
  relation_kept relation (tracing_hand sum coefficient parts vector left reading) right = absurd right
  relation_kept relation (summed_hand vector reading) right = record {
    vector_on = right.vector_on;
    same = keeps.forwardings (difference (presented O).prime vector relation) right.same;
    read = read_kept O old new keeps [] vector reading right.read;
  }

  pub hand_kept : (desk : Desk) (hand : Hand) → IsSoundDesk O old desk → IsRightHand O old desk hand → IsRightHand O new desk hand
  hand_kept empty_desk hand sound right = right
  hand_kept (with_job (relator_job b number)) hand sound right = element_kept O old new keeps (relator_value O b number) hand right
  hand_kept (with_job (submodule_job number)) hand sound right = element_kept O old new keeps (submodule_value O number) hand right
  hand_kept (with_job (image_job b x)) hand sound right = image_hand_kept O old new keeps positive b x sound hand right
  hand_kept (with_relation v) hand sound right = relation_kept v hand right

-- what a seat does in its hand

module _ (S : State) (sound : IsSoundState S) (covered : IsCovered S) where
  abbrev O : ActionTable
  O = S.opening

  abbrev p : ℕ
  p = (presented O).prime

  positive : 0 < p
  positive = positive_prime O sound.opening

  under : IsUnderWay O (present S)
  under = record { draft = refl; level = refl; words = refl; images = refl; sound = sound.table; rows = covered.rows }

  pub taken_right : (job : Job) → IsOfLevel O S.forwards job → IsRightHand O S.forwards (with_job job) (next_hand [] (parts_of O job))
  taken_right (relator_job b number) level = relator_taken O S.forwards S.rows sound.opening sound.table b number level
  taken_right (submodule_job number) level = submodule_taken O S.forwards S.rows sound.opening sound.table number level
  taken_right (image_job b x) level = image_taken O S.forwards b x

  relation_read : (relation : Row) (hand : Hand) → IsHandOfRelation O S.forwards relation hand → IsHandOfRelation O S.forwards relation (read_hand S hand)
  relation_read relation empty_hand right = absurd right
  relation_read relation (beginning_hand sum part parts reading) right = absurd right
  relation_read relation (tracing_hand sum coefficient parts vector left reading) right = absurd right
  relation_read relation (summed_hand vector reading) right = record {
    vector_on = right.vector_on;
    same = right.same;
    read = found_right S sound.opening under [] vector
        (All-weaker (λ (t : ℕ × ℕ). t.0 < length O.words) (λ (t : ℕ × ℕ). t.0 < length S.forwards) (λ t is. omega (arith, is, sound.table.one_forward_each)) vector right.vector_on.1);
  }

  pub read_right : (desk : Desk) (hand : Hand) → IsSoundDesk O S.forwards desk → IsRightHand O S.forwards desk hand → IsRightHand O S.forwards desk (read_hand S hand)
  read_right empty_desk hand there right = ap (read_hand S) right
  read_right (with_job (relator_job b number)) hand there right = element_read S sound.opening under sound.table.one_forward_each (relator_value O b number) hand right
  read_right (with_job (submodule_job number)) hand there right = element_read S sound.opening under sound.table.one_forward_each (submodule_value O number) hand right
  read_right (with_job (image_job b x)) hand there right = image_read S sound.opening under sound.table.one_forward_each b x there hand right
  read_right (with_relation v) hand there right = relation_read v hand right

  relation_repaired : (relation : Row) (vector next : Row) (founds : List Found) → IsLifted O S.forwards relation vector (read_ids founds) → IsReducedOf ◌<◌ nat_eq p next (repaired founds vector)
      → IsLifted O S.forwards relation next unread
  relation_repaired relation vector next founds right reduced = record {
    vector_on = (reduced.reduced, reduced_keys IsPlace p next (repaired founds vector) reduced (repaired_ids O S.forwards positive IsPlace lower [] vector founds right.read right.vector_on.1));
    same = forwarded_on p S.forwards next vector relation positive
        (forwarding_turned p S.forwards vector next positive (reduced_forwarding p S.forwards vector (repaired founds vector) next reduced (repaired_forwarding O S.forwards positive [] vector founds right.read)))
        right.same;
    read = tt;
  }
    where
      IsPlace : ℕ → Type 0
      IsPlace n = n < length O.words

      lower : (b : ℕ) (f : Row) → b < length O.words → HasForward S.forwards b f → All (λ s. s.0 < length O.words) f
      lower b f within dead = All-weaker (λ (s : ℕ × ℕ). s.0 < b) (λ (s : ℕ × ℕ). s.0 < length O.words) (λ s less. omega (arith, less, within)) f (are_falling (present S) sound.table b f dead)

  pub repairs_right : (desk : Desk) (hand next : Hand) → IsSoundDesk O S.forwards desk → Repairs p hand next → IsRightHand O S.forwards desk hand → IsRightHand O S.forwards desk next
  repairs_right empty_desk hand next there (repairs_part sum coefficient parts vector after left founds some reduced) right = absurd (subst IsEmptyHand (sym right) tt)
  repairs_right empty_desk hand next there (repairs_sum vector after founds some reduced) right = absurd (subst IsEmptyHand (sym right) tt)
  repairs_right (with_job (relator_job b number)) hand next there repairs right = element.repairs_right O S.forwards S.rows sound.opening sound.table (relator_value O b number) hand next repairs right
  repairs_right (with_job (submodule_job number)) hand next there repairs right = element.repairs_right O S.forwards S.rows sound.opening sound.table (submodule_value O number) hand next repairs right
  repairs_right (with_job (image_job b x)) hand next there repairs right = image.repairs_right O S.forwards S.rows sound.opening sound.table b x there hand next repairs right
  repairs_right (with_relation v) hand next there (repairs_part sum coefficient parts vector after left founds some reduced) right = absurd right
  repairs_right (with_relation v) hand next there (repairs_sum vector after founds some reduced) right = relation_repaired v vector after founds right reduced

  pub applies_right : (desk : Desk) (hand next : Hand) → IsSoundDesk O S.forwards desk → Applies p hand next → IsRightHand O S.forwards desk hand → IsRightHand O S.forwards desk next
  applies_right empty_desk hand next there (begins_image sum part parts image) right = absurd (subst IsEmptyHand (sym right) tt)
  applies_right empty_desk hand next there (begins_forward sum after vector part parts row forward first second) right = absurd (subst IsEmptyHand (sym right) tt)
  applies_right empty_desk hand next there (multiplies sum coefficient parts vector after x left founds rows_found reduced) right = absurd (subst IsEmptyHand (sym right) tt)
  applies_right empty_desk hand next there (sums sum after coefficient parts vector reading reduced) right = absurd (subst IsEmptyHand (sym right) tt)
  applies_right (with_job (relator_job b number)) hand next there applies right = element.applies_right O S.forwards S.rows sound.opening sound.table (relator_value O b number) hand next applies right
  applies_right (with_job (submodule_job number)) hand next there applies right = element.applies_right O S.forwards S.rows sound.opening sound.table (submodule_value O number) hand next applies right
  applies_right (with_job (image_job b x)) hand next there applies right = image.applies_right O S.forwards S.rows sound.opening sound.table b x there hand next applies right
  applies_right (with_relation v) hand next there (begins_image sum part parts image) right = absurd right
  applies_right (with_relation v) hand next there (begins_forward sum after vector part parts row forward first second) right = absurd right
  applies_right (with_relation v) hand next there (multiplies sum coefficient parts vector after x left founds rows_found reduced) right = absurd right
  applies_right (with_relation v) hand next there (sums sum after coefficient parts vector reading reduced) right = absurd right

  -- what a finished hand gives
  pub summed_comes : (job : Job) (v : Row) (reading : Reading) → IsRightHand O S.forwards (with_job job) (summed_hand v reading) → IsVectorOn O v × ComesFrom O S.forwards job v
  summed_comes (relator_job b number) v reading right = (right.vector_on, right.known)
  summed_comes (submodule_job number) v reading right = (right.vector_on, right.known)
  summed_comes (image_job b x) v reading right = (right.vector_on, right.known)

-- lists of hands

pub hand_at : (O : ActionTable) (forwards : Forwards) (desks : List Desk) (hands : List Hand) → AreRightHands O forwards desks hands → (seat : ℕ) (desk : Desk) (hand : Hand)
    → slice_get desks seat ≡ Some desk → slice_get hands seat ≡ Some hand → IsRightHand O forwards desk hand
hand_at O forwards desks hands right seat desk hand on_desk in_hand =
    let there = right seat desk on_desk in
    subst (IsRightHand O forwards desk) (same_some there.0 hand (sym there.1 ∙ in_hand)) there.2

-- a desk and its hand change, and ids may die
pub desk_and_hand : (O : ActionTable) (old new : Forwards) → KeepsKnown O old new → 0 < (presented O).prime → (desks : List Desk) (hands : List Hand) → All (IsSoundDesk O old) desks
    → AreRightHands O old desks hands → (seat : ℕ) (before desk : Desk) (hand : Hand) → slice_get desks seat ≡ Some before → IsRightHand O new desk hand
    → AreRightHands O new (set desks seat desk) (set hands seat hand)
desk_and_hand O old new keeps positive desks hands sound right seat before desk hand was is other found found_is = cases (cases_eq other seat)
  where
    cases : (other ≡ seat) ⊎ (other ≢ seat) → (h : Hand) × (slice_get (set hands seat hand) other ≡ Some h) × IsRightHand O new found h
    cases (inl same) =
        let found_here : slice_get (set desks seat desk) seat ≡ Some found = subst (λ n. slice_get (set desks seat desk) n ≡ Some found) same found_is in (
          hand,
          subst (λ n. slice_get (set hands seat hand) n ≡ Some hand) (sym same) (set_here hands seat (right seat before was).0 hand (right seat before was).1),
          subst (λ d. IsRightHand O new d hand) (same_some desk found (sym (set_here desks seat before desk was) ∙ found_here)) is,
        )
    cases (inr differ) =
        let on_desk : slice_get desks other ≡ Some found = sym (set_else desks seat other desk differ) ∙ found_is in
        let there = right other found on_desk in
        (there.0, set_else hands seat other hand differ ∙ there.1, hand_kept O old new keeps positive found there.0 (All-slice_get (IsSoundDesk O old) desks other found on_desk sound) there.2)

-- a hand alone changes
pub hand_alone : (O : ActionTable) (forwards : Forwards) (desks : List Desk) (hands : List Hand) → AreRightHands O forwards desks hands → (seat : ℕ) (before hand : Hand) → slice_get hands seat ≡ Some before
    → ((desk : Desk) → slice_get desks seat ≡ Some desk → IsRightHand O forwards desk hand) → AreRightHands O forwards desks (set hands seat hand)
hand_alone O forwards desks hands right seat before hand was is other found found_is = cases (cases_eq other seat)
  where
    cases : (other ≡ seat) ⊎ (other ≢ seat) → (h : Hand) × (slice_get (set hands seat hand) other ≡ Some h) × IsRightHand O forwards found h
    cases (inl same) = (
      hand,
      subst (λ n. slice_get (set hands seat hand) n ≡ Some hand) (sym same) (set_here hands seat before hand was),
      is found (subst (λ n. slice_get desks n ≡ Some found) same found_is),
    )
    cases (inr differ) = let there = right other found found_is in (there.0, set_else hands seat other hand differ ∙ there.1, there.2)
