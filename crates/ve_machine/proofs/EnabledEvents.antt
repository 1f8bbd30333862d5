-- An event is enabled exactly where it is allowed.
use Rattle.std.proofs.Common.{◌≡◌, ◌≢◌, ℕ, suc, ◌+◌, ◌-◌, ◌*◌, ◌%◌, ◌<◌, nat_eq, Some, None, [], ◌∷◌, ◌++◌, All, refl, sym, ap, subst, ◌∙◌, arith}
use Rattle.std.specs.Prelude.{slice_get}
use Rattle.std.proofs.lemmas.List.Elements.{All-cons, All-nil, All-weaker}
use Rattle.ve_theory.specs.Residues.{Congruent}
use Rattle.ve_theory.specs.Combinations.{IsReduced, IsReducedOf, extended, scaled}
use Rattle.ve_theory.specs.Answers.{Row}
use Rattle.ve_theory.specs.Laws.{HasInverses}
use Rattle.ve_theory.proofs.Sums.{Alike_from_weights, congruent-add, congruent-mul, weigh, weigh-append, weigh-scaled}
use Rattle.ve_theory.proofs.Independence.{congruent_by}
use Rattle.ve_table.specs.Tables.{ActionTable, presented}
use Rattle.ve_table.specs.Sound.{IsSound}
use Rattle.ve_machine.specs.Forwards.{AreLive, IsDrawnFrom, stand_in}
use Rattle.ve_machine.specs.Seats.{Desk, HasDesk, empty_desk, with_job, with_relation}
use Rattle.ve_machine.specs.Hands.{Hand, Reading, beginning_hand, empty_hand, next_hand, read_forward, read_ids, read_image, summed_hand, tracing_hand, unread}
use Rattle.ve_machine.specs.HandSteps.{Applies, Repairs, begins_forward, begins_image, multiplied_by, multiplies, repaired, repairs_part, repairs_sum, sums}
use Rattle.ve_machine.specs.ImageHands.{IsHandOfRelation}
use Rattle.ve_machine.specs.Machines.{Event, HasHand, IsEnabled, IsRightMachine, Machine, Move, applies, deletes, drops, lifts, reads, repairs, returns_job, returns_relation, rewrites, submits, takes, to_apply, to_conclude, to_lift, to_read, to_repair, to_return, to_rewrite, to_submit, to_take}
use Rattle.ve_machine.specs.Allowed.{CanApply, CanRepair, EventsAreEnabledWhereAllowed, IsAllowed}
use Rattle.ve_machine.proofs.Forwardings.{positive_prime}
use Rattle.ve_machine.proofs.ReducedSums.{reduced_same, reduced_sum}
use Rattle.ve_machine.proofs.RightHands.{hand_at}

-- each sum has a reduced list

bounded : (v : Row) → (n : ℕ) × All (λ t. t.0 < n) v
bounded [] = (0, All-nil (λ (t : ℕ × ℕ). t.0 < 0))
bounded (t ∷ v) =
    let rest = bounded v in (
      suc (t.0 + rest.0),
      All-cons (λ (s : ℕ × ℕ). s.0 < suc (t.0 + rest.0)) t v (omega arith)
          (All-weaker (λ (s : ℕ × ℕ). s.0 < rest.0) (λ (s : ℕ × ℕ). s.0 < suc (t.0 + rest.0)) (λ s less. omega (arith, less)) v rest.1),
    )

reduced_exists : (p : ℕ) (v : Row) → 0 < p → (w : Row) × IsReducedOf ◌<◌ nat_eq p w v
reduced_exists p v positive = let bound = bounded v in reduced_sum p v positive bound.0 bound.1

-- a vector's greatest id has a forward

-- c times the negative of w over c, and w
opposite_weight : (m c i w : ℕ) → Congruent (suc m) (c * i) 1 → Congruent (suc m) (c * (m * i * w) + w) 0
opposite_weight m c i w inverse =
    ap (λ n. n % suc m) (regrouped m c i w)
    ∙ congruent-add (suc m) (c * i * (m * w)) (1 * (m * w)) w w (congruent-mul (suc m) (c * i) 1 (m * w) (m * w) inverse refl) refl
    ∙ congruent_by (suc m) (1 * (m * w) + w) 0 0 w (omega arith)
  where
    regrouped : (m c i w : ℕ) → c * (m * i * w) + w ≡ c * i * (m * w) + w
    regrouped m c i w = omega arith

drawn_exists : HasInverses → (T : ActionTable) → IsSound T → (id c : ℕ) (others : Row) → IsReduced ◌<◌ (presented T).prime ((id, c) ∷ others)
    → (forward : Row) × IsDrawnFrom (presented T).prime ((id, c) ∷ others) id forward
unfolding IsReduced weigh
drawn_exists inverses T sound id c others reduced = (
  found.0,
  record {
    coefficient = c;
    others = others;
    first = refl;
    reduced = found.1.reduced;
    sum = Alike_from_weights nat_eq (record {
      at = λ h.
          let parts : weigh h (scaled c found.0 ++ others) ≡ c * weigh h found.0 + weigh h others = weigh-append h (scaled c found.0) others ∙ ap (λ n. n + weigh h others) (weigh-scaled h c found.0) in
          let forward_is : Congruent p (weigh h found.0) ((p - 1) * inverse.0 * weigh h others) =
          (reduced_same p found.0 (scaled ((p - 1) * inverse.0) others) found.1).at h ∙ ap (λ n. n % p) (weigh-scaled h ((p - 1) * inverse.0) others) in
          ap (λ n. n % p) parts
          ∙ congruent-add p (c * weigh h found.0) (c * ((p - 1) * inverse.0 * weigh h others)) (weigh h others) (weigh h others)
          (congruent-mul p c c (weigh h found.0) ((p - 1) * inverse.0 * weigh h others) refl forward_is) refl
          ∙ subst (λ q. Congruent q (c * ((p - 1) * inverse.0 * weigh h others) + weigh h others) 0) prime_is
          (opposite_weight (p - 1) c inverse.0 (weigh h others) (subst (λ q. Congruent q (c * inverse.0) 1) (sym prime_is) inverse.2));
    });
  },
)
  where
    p : ℕ
    p = (presented T).prime

    prime_is : suc ((presented T).prime - 1) ≡ (presented T).prime
    prime_is = omega (arith, positive_prime T sound)

    inverse : (i : ℕ) × (i < (presented T).prime) × Congruent (presented T).prime (c * i) 1
    inverse = inverses (presented T).prime c sound.valid.presentation.field reduced.0 reduced.1

    found : (w : Row) × IsReducedOf ◌<◌ nat_eq (presented T).prime w (scaled (((presented T).prime - 1) * inverse.0) others)
    found = reduced_exists (presented T).prime (scaled (((presented T).prime - 1) * inverse.0) others) (positive_prime T sound)

-- hands

repair_exists : (p : ℕ) → 0 < p → (hand : Hand) → CanRepair hand → (next : Hand) × Repairs p hand next
repair_exists p positive empty_hand can = absurd can
repair_exists p positive (beginning_hand sum part parts reading) can = absurd can
repair_exists p positive (tracing_hand sum coefficient parts vector left unread) can = absurd can
repair_exists p positive (tracing_hand sum coefficient parts vector left (read_image image)) can = absurd can
repair_exists p positive (tracing_hand sum coefficient parts vector left (read_forward row forward)) can = absurd can
repair_exists p positive (tracing_hand sum coefficient parts vector left (read_ids founds)) can =
    let found = reduced_exists p (repaired founds vector) positive in
    (tracing_hand sum coefficient parts found.0 left unread, repairs_part sum coefficient parts vector found.0 left founds can found.1)
repair_exists p positive (summed_hand vector unread) can = absurd can
repair_exists p positive (summed_hand vector (read_image image)) can = absurd can
repair_exists p positive (summed_hand vector (read_forward row forward)) can = absurd can
repair_exists p positive (summed_hand vector (read_ids founds)) can =
    let found = reduced_exists p (repaired founds vector) positive in
    (summed_hand found.0 unread, repairs_sum vector found.0 founds can found.1)

apply_exists : (p : ℕ) → 0 < p → (hand : Hand) → CanApply hand → (next : Hand) × Applies p hand next
apply_exists p positive empty_hand can = absurd can
apply_exists p positive (beginning_hand sum part parts unread) can = absurd can
apply_exists p positive (beginning_hand sum part parts (read_image image)) can = (tracing_hand sum part.coefficient parts image part.letters unread, begins_image sum part parts image)
apply_exists p positive (beginning_hand sum part parts (read_forward row forward)) can =
    let first = reduced_exists p (sum ++ row) positive in
    let second = reduced_exists p (scaled (p - 1) forward) positive in
    (tracing_hand first.0 part.coefficient parts second.0 part.letters unread, begins_forward sum first.0 second.0 part parts row forward first.1 second.1)
apply_exists p positive (beginning_hand sum part parts (read_ids founds)) can = absurd can
apply_exists p positive (tracing_hand sum coefficient parts vector [] reading) can =
    let found = reduced_exists p (sum ++ scaled coefficient vector) positive in
    (next_hand found.0 parts, sums sum found.0 coefficient parts vector reading found.1)
apply_exists p positive (tracing_hand sum coefficient parts vector (x ∷ left) unread) can = absurd can
apply_exists p positive (tracing_hand sum coefficient parts vector (x ∷ left) (read_image image)) can = absurd can
apply_exists p positive (tracing_hand sum coefficient parts vector (x ∷ left) (read_forward row forward)) can = absurd can
apply_exists p positive (tracing_hand sum coefficient parts vector (x ∷ left) (read_ids founds)) can =
    let found = reduced_exists p (multiplied_by founds vector) positive in
    (tracing_hand sum coefficient parts found.0 left unread, multiplies sum coefficient parts vector found.0 x left founds can found.1)
apply_exists p positive (summed_hand vector reading) can = absurd can

pub repair_allowed : (p : ℕ) (hand next : Hand) → Repairs p hand next → CanRepair hand
repair_allowed p hand next (repairs_part sum coefficient parts vector after left founds some reduced) = some
repair_allowed p hand next (repairs_sum vector after founds some reduced) = some

pub apply_allowed : (p : ℕ) (hand next : Hand) → Applies p hand next → CanApply hand
apply_allowed p hand next (begins_image sum part parts image) = tt
apply_allowed p hand next (begins_forward sum after vector part parts row forward first second) = tt
apply_allowed p hand next (multiplies sum coefficient parts vector after x left founds rows_found reduced) = rows_found
apply_allowed p hand next (sums sum after coefficient parts vector reading reduced) = tt

-- what is enabled is allowed
allowed : (M : Machine) (event : Event) (N : Machine) → Move M event N → IsAllowed M event
allowed M event N (takes seat job can) = can
allowed M event N (reads seat hand can has) = can
allowed M event N (submits seat job v reading on_desk has) = (job, on_desk, (v, (reading, has)))
allowed M event N (lifts seat place v can) = (can.idle, (v, can.queued))
allowed M event N (drops seat relation reading on_desk has) = (relation, on_desk, ([], (reading, has), All-nil (λ (t : ℕ × ℕ). slice_get M.shared.forwards t.0 ≡ Some None)))
allowed M event N (deletes seat relation v reading id forward on_desk has live drawn) = (relation, on_desk, (v, (reading, has), live))
allowed M event N (rewrites b x next can) = (can.row, can.is_row, can.stale)
allowed M event N (returns_job seat job on_desk) = record { desk = with_job job; on_desk = on_desk; busy = λ empty. cc }
allowed M event N (returns_relation seat relation v reading on_desk has) = record { desk = with_relation relation; on_desk = on_desk; busy = λ empty. cc }
allowed M event N (repairs seat hand next has repairs_it) = (hand, has, repair_allowed (presented M.shared.opening).prime hand next repairs_it)
allowed M event N (applies seat hand next has applies_it) = (hand, has, apply_allowed (presented M.shared.opening).prime hand next applies_it)

-- and the other way round

module _ (inverses : HasInverses) (M : Machine) (right : IsRightMachine M) where
  abbrev p : ℕ
  p = (presented M.shared.opening).prime

  positive : 0 < p
  positive = positive_prime M.shared.opening right.sound.opening

  concluded : (seat : ℕ) (relation v : Row) (reading : Reading) → IsReduced ◌<◌ p v → HasDesk M.shared seat (with_relation relation) → HasHand M seat (summed_hand v reading) → AreLive M.shared.forwards v
      → IsEnabled M (to_conclude seat)
  concluded seat relation [] reading reduced on_desk has live = (_, drops seat relation reading on_desk has)
  concluded seat relation (t ∷ others) reading reduced on_desk has live =
      let drawn = drawn_exists inverses M.shared.opening right.sound.opening t.0 t.1 others reduced in
      (_, deletes seat relation (t ∷ others) reading t.0 drawn.0 on_desk has live drawn.1)

  -- the hand of a relation has a vector
  relation_vector : (relation : Row) (hand : Hand) → IsHandOfRelation M.shared.opening M.shared.forwards relation hand → (v : Row) × (reading : Reading) × (hand ≡ summed_hand v reading)
  relation_vector relation empty_hand is = absurd is
  relation_vector relation (beginning_hand sum part parts reading) is = absurd is
  relation_vector relation (tracing_hand sum coefficient parts vector left reading) is = absurd is
  relation_vector relation (summed_hand v reading) is = (v, reading, refl)

  returned : (seat : ℕ) (desk : Desk) → HasDesk M.shared seat desk → desk ≢ empty_desk → IsEnabled M (to_return seat)
  returned seat empty_desk on_desk differ = absurd (differ refl)
  returned seat (with_job job) on_desk differ = (_, returns_job seat job on_desk)
  returned seat (with_relation relation) on_desk differ =
      let hand = right.right seat (with_relation relation) on_desk in
      let vector = relation_vector relation hand.0 hand.2 in
      (_, returns_relation seat relation vector.0 vector.1 on_desk (hand.1 ∙ ap Some vector.2))

  enabled : (event : Event) → IsAllowed M event → IsEnabled M event
  enabled (to_take seat job) can = (_, takes seat job can)
  enabled (to_read seat) can = let hand = right.right seat can.desk can.on_desk in (_, reads seat hand.0 can hand.1)
  enabled (to_submit seat) can = (_, submits seat can.0 can.2.0 can.2.1.0 can.1 can.2.1.1)
  enabled (to_lift seat place) can = (_, lifts seat place can.1.0 (record { idle = can.0; queued = can.1.1 }))
  enabled (to_conclude seat) can =
      let v : Row = can.2.0 in
      let on_hand = hand_at M.shared.opening M.shared.forwards M.shared.desks M.hands right.right seat (with_relation can.0) (summed_hand v can.2.1.0) can.1 can.2.1.1 in
      concluded seat can.0 v can.2.1.0 on_hand.vector_on.0 can.1 can.2.1.1 can.2.2
  enabled (to_rewrite b x) can =
      let next = reduced_exists p (extended (stand_in M.shared.forwards) can.0) positive in
      (_, rewrites b x next.0 (record { row = can.0; is_row = can.1; stale = can.2; rewritten = next.1 }))
  enabled (to_return seat) can = returned seat can.desk can.on_desk can.busy
  enabled (to_repair seat) can = let next = repair_exists p positive can.0 can.2 in (_, repairs seat can.0 next.0 can.1 next.1)
  enabled (to_apply seat) can = let next = apply_exists p positive can.0 can.2 in (_, applies seat can.0 next.0 can.1 next.1)

pub events_are_enabled_where_allowed : HasInverses → EventsAreEnabledWhereAllowed
events_are_enabled_where_allowed inverses M event right = (λ is. allowed M event is.0 is.1, enabled inverses M right event)
