-- Combinations of lower ids, each less the vector that stands for it, and what a letter makes of them.
use Rattle.std.proofs.Common.{◌≡◌, ℕ, ◌<◌, nat_eq, Some, None, [], ◌∷◌, ◌++◌, All, refl, sym, ap, subst, ◌∙◌, arith}
use Rattle.std.specs.Prelude.{List, Option, slice_get}
use Rattle.std.proofs.lemmas.List.Elements.{All-append, All-head, All-nil, All-tail}
use Rattle.ve_theory.specs.Combinations.{difference, extended, scaled, unit}
use Rattle.ve_theory.specs.Answers.{Row}
use Rattle.ve_theory.proofs.Sums.{SameWeights, SameWeights-append, SameWeights-difference, SameWeights-extended, SameWeights-refl, SameWeights-scaled, SameWeights-sym, SameWeights-trans, SameWeights_of, Alike_from_weights, Decides-nat_eq, difference_vanishes, extended-append, extended-difference, extended-extended, extended-scaled, extended-unit, scaled-one, weigh-append, weigh-scaled, weights_from_Alike}
use Rattle.ve_theory.proofs.Members.{All-scaled}
use Rattle.ve_theory.proofs.Remainders.{All-unit}
use Rattle.ve_theory.proofs.DerivedElements.{SameWeights-equal}
use Rattle.ve_vec.specs.Tracing.{row_or_zero, vector_times}
use Rattle.ve_table.specs.Tables.{ActionTable, IsDue, presented, row_at}
use Rattle.ve_machine.specs.Forwards.{Forwards, stand_in}
use Rattle.ve_machine.specs.Jobs.{HasForward, IsKnownBelow, alike, by_forwards, by_lower, combined}
use Rattle.ve_machine.specs.SharedLaws.{KeepsKnown}
use Rattle.ve_machine.specs.Hands.{Found, forward_found, none_found, row_found}
use Rattle.ve_machine.specs.HandSteps.{repaired}
use Rattle.ve_machine.specs.RightHands.{AreFoundFor}
use Rattle.ve_machine.specs.ImageHands.{IsForwardingBelow}
use Rattle.ve_machine.proofs.Forwardings.{IsForwarding-nothing, dead_stands, less, live_stands, past_stands}
use Rattle.ve_machine.proofs.FoundVectors.{differences_joined, term_replaced}

-- they are a space

module _ (p : ℕ) (forwards : Forwards) (b : ℕ) where
  shown : (v : Row) (below : IsForwardingBelow p forwards b v) → SameWeights p v (extended (less p forwards) below.by)
  shown v below = weights_from_Alike nat_eq Decides-nat_eq p v (extended (less p forwards) below.by) below.sum

  pub below-alike : {u v : Row} → SameWeights p u v → IsForwardingBelow p forwards b u → IsForwardingBelow p forwards b v
  below-alike {u} {v} same below = record { by = below.by; below = below.below; sum = Alike_from_weights nat_eq (SameWeights-trans (SameWeights-sym same) (shown u below)) }

  pub below-nothing : IsForwardingBelow p forwards b []
  unfolding extended
  below-nothing = record { by = []; below = All-nil (λ (t : ℕ × ℕ). t.0 < b); sum = Alike_from_weights nat_eq (SameWeights-refl p []) }

  pub below-append : {u v : Row} → IsForwardingBelow p forwards b u → IsForwardingBelow p forwards b v → IsForwardingBelow p forwards b (u ++ v)
  below-append {u} {v} one other = record {
    by = one.by ++ other.by;
    below = All-append (λ (t : ℕ × ℕ). t.0 < b) one.by other.by one.below other.below;
    sum = Alike_from_weights nat_eq
        (SameWeights-trans (SameWeights-append (shown u one) (shown v other)) (SameWeights_of (sym (extended-append (less p forwards) one.by other.by))));
  }

  below-scaled : (c : ℕ) {v : Row} → IsForwardingBelow p forwards b v → IsForwardingBelow p forwards b (scaled c v)
  below-scaled c {v} one = record {
    by = scaled c one.by;
    below = All-scaled (λ n. n < b) c one.by one.below;
    sum = Alike_from_weights nat_eq (SameWeights-trans (SameWeights-scaled c (shown v one)) (SameWeights-sym (extended-scaled p (less p forwards) c one.by)));
  }

  below-extended : (f : ℕ → Row) (v : Row) → ((c : ℕ) → c < b → IsForwardingBelow p forwards b (f c)) → All (λ t. t.0 < b) v → IsForwardingBelow p forwards b (extended f v)
  unfolding extended
  below-extended f [] each all = below-nothing
  below-extended f (t ∷ v) each all =
      below-append (below-scaled t.1 (each t.0 (All-head (λ (s : ℕ × ℕ). s.0 < b) t v all))) (below-extended f v each (All-tail (λ (s : ℕ × ℕ). s.0 < b) t v all))

  lower_id : (c : ℕ) → c < b → IsForwardingBelow p forwards b (less p forwards c)
  lower_id c lower = record { by = unit c; below = All-unit (λ n. n < b) c lower; sum = Alike_from_weights nat_eq (SameWeights-sym (extended-unit p (less p forwards) c)) }

  pub below-vanishing : (u v : Row) → 0 < p → SameWeights p u v → IsForwardingBelow p forwards b (difference p u v)
  below-vanishing u v positive same = below-alike (SameWeights-sym (difference_vanishes p u v positive same)) below-nothing

-- a vector of lower ids, less the vector repaired
module _ (O : ActionTable) (forwards : Forwards) (b : ℕ) (positive : 0 < (presented O).prime) where
  abbrev p : ℕ
  p = (presented O).prime

  joined : (u v w x : Row) → IsForwardingBelow p forwards b (difference p u v) → IsForwardingBelow p forwards b (difference p w x) → IsForwardingBelow p forwards b (difference p (u ++ w) (v ++ x))
  joined u v w x one other = below-alike p forwards b (differences_joined p u v w x) (below-append p forwards b one other)

  same_term : (t : ℕ × ℕ) → IsForwardingBelow p forwards b (difference p (t ∷ []) (t ∷ []))
  same_term t = below-vanishing p forwards b (t ∷ []) (t ∷ []) positive (SameWeights-refl p (t ∷ []))

  dead_term : (t : ℕ × ℕ) (f : Row) → t.0 < b → HasForward forwards t.0 f → IsForwardingBelow p forwards b (difference p (t ∷ []) (scaled t.1 f))
  dead_term t f lower dead =
      below-alike p forwards b (term_replaced p t.1 t.0 f)
      (below-scaled p forwards b t.1 (subst (λ v. IsForwardingBelow p forwards b (difference p (unit t.0) v)) (dead_stands forwards t.0 f dead) (lower_id p forwards b t.0 lower)))

  pub repaired_below : (left : List ℕ) (vector : Row) (founds : List Found) → AreFoundFor O forwards left vector founds → All (λ t. t.0 < b) vector
      → IsForwardingBelow p forwards b (difference p vector (repaired founds vector))
  repaired_below left [] [] are all = below-vanishing p forwards b [] [] positive (SameWeights-refl p [])
  repaired_below left [] (found ∷ founds) are all = absurd are
  repaired_below left (t ∷ vector) [] are all = absurd are
  repaired_below left (t ∷ vector) (row_found row ∷ founds) are all =
      joined (t ∷ []) (t ∷ []) vector (repaired founds vector) (same_term t) (repaired_below left vector founds are.1 (All-tail (λ (s : ℕ × ℕ). s.0 < b) t vector all))
  repaired_below left (t ∷ vector) (none_found ∷ founds) are all =
      joined (t ∷ []) (t ∷ []) vector (repaired founds vector) (same_term t) (repaired_below left vector founds are.1 (All-tail (λ (s : ℕ × ℕ). s.0 < b) t vector all))
  repaired_below left (t ∷ vector) (forward_found forward ∷ founds) are all =
      joined (t ∷ []) (scaled t.1 forward) vector (repaired founds vector) (dead_term t forward (All-head (λ (s : ℕ × ℕ). s.0 < b) t vector all) are.0)
      (repaired_below left vector founds are.1 (All-tail (λ (s : ℕ × ℕ). s.0 < b) t vector all))

-- they stay where ids die
module _ (O : ActionTable) (old new : Forwards) (keeps : KeepsKnown O old new) (b : ℕ) (positive : 0 < (presented O).prime) where
  lower_kept : (c : ℕ) → c < b → IsForwardingBelow (presented O).prime new b (less (presented O).prime old c)
  lower_kept c lower = cases (slice_get old c) refl
    where
      p : ℕ
      p = (presented O).prime

      itself : stand_in old c ≡ unit c → IsForwardingBelow (presented O).prime new b (less (presented O).prime old c)
      itself is = below-vanishing (presented O).prime new b (unit c) (stand_in old c) positive (SameWeights_of (sym is))

      cases : (o : Option (Option Row)) → slice_get old c ≡ o → IsForwardingBelow (presented O).prime new b (less (presented O).prime old c)
      cases None is = itself (past_stands old c is)
      cases (Some None) is = itself (live_stands old c is)
      cases (Some (Some f)) is =
          subst (λ v. IsForwardingBelow (presented O).prime new b (difference (presented O).prime (unit c) v)) (dead_stands new c f (keeps.dead c f is) ∙ sym (dead_stands old c f is)) (lower_id (presented O).prime new b c lower)

  pub below_stays : (v : Row) → IsForwardingBelow (presented O).prime old b v → IsForwardingBelow (presented O).prime new b v
  below_stays v below =
      below-alike (presented O).prime new b (SameWeights-sym (shown (presented O).prime old b v below))
      (below-extended (presented O).prime new b (less (presented O).prime old) below.by lower_kept below.below)

-- what is known by what is below

module _ (O : ActionTable) (forwards : Forwards) (b x : ℕ) (positive : 0 < (presented O).prime) (due : (c : ℕ) → c < b → IsDue O c x) where
  abbrev q : ℕ
  q = (presented O).prime

  abbrev R : ℕ → Row
  R c = row_or_zero (row_at O) x c

  pub known-alike : {u v : Row} → SameWeights q u v → IsKnownBelow O forwards b x u → IsKnownBelow O forwards b x v
  known-alike {u} {v} same known = alike u v (Alike_from_weights nat_eq same) known

  known-nothing : IsKnownBelow O forwards b x []
  known-nothing = by_forwards [] (IsForwarding-nothing q forwards)

  pub known-append : {u v : Row} → IsKnownBelow O forwards b x u → IsKnownBelow O forwards b x v → IsKnownBelow O forwards b x (u ++ v)
  known-append {u} {v} one other = known-alike (SameWeights-append (scaled-one q u) (scaled-one q v)) (combined 1 1 u v one other)

  known-scaled : (c : ℕ) {v : Row} → IsKnownBelow O forwards b x v → IsKnownBelow O forwards b x (scaled c v)
  known-scaled c {v} one = known-alike (SameWeights-equal (λ h. simp (weigh-append, weigh-scaled) (omega arith))) (combined c 0 v v one one)

  known-extended : (f : ℕ → Row) (v : Row) → ((c : ℕ) → c < b → IsKnownBelow O forwards b x (f c)) → All (λ t. t.0 < b) v → IsKnownBelow O forwards b x (extended f v)
  unfolding extended
  known-extended f [] each all = known-nothing
  known-extended f (t ∷ v) each all =
      known-append (known-scaled t.1 (each t.0 (All-head (λ (s : ℕ × ℕ). s.0 < b) t v all))) (known-extended f v each (All-tail (λ (s : ℕ × ℕ). s.0 < b) t v all))

  -- a lower id less what stands for it, times the letter
  lower_times : (c : ℕ) → c < b → IsKnownBelow O forwards b x (extended R (less q forwards c))
  lower_times c lower = cases (slice_get forwards c) refl
    where
      times_is : SameWeights q (extended R (less q forwards c)) (difference q (R c) (extended R (stand_in forwards c)))
      times_is =
          SameWeights-trans (extended-difference q R (unit c) (stand_in forwards c))
          (SameWeights-difference (extended-unit q R c) (SameWeights-refl q (extended R (stand_in forwards c))))

      itself : stand_in forwards c ≡ unit c → IsKnownBelow O forwards b x (extended R (less q forwards c))
      itself is =
          known-alike
          (SameWeights-sym (SameWeights-trans times_is
          (difference_vanishes q (R c) (extended R (stand_in forwards c)) positive
          (SameWeights-sym (SameWeights-trans (SameWeights_of (ap (extended R) is)) (extended-unit q R c))))))
          known-nothing

      cases : (o : Option (Option Row)) → slice_get forwards c ≡ o → IsKnownBelow O forwards b x (extended R (less q forwards c))
      cases None is = itself (past_stands forwards c is)
      cases (Some None) is = itself (live_stands forwards c is)
      cases (Some (Some f)) is = known-alike (SameWeights-sym times_is) (by_lower c lower (record { forward = f; dead = is; due = due c lower }))

  pub below_times : (v : Row) → IsForwardingBelow q forwards b v → IsKnownBelow O forwards b x (vector_times (row_at O) v x)
  below_times v below =
      known-alike
      (SameWeights-sym (SameWeights-trans (SameWeights-extended R (shown q forwards b v below)) (extended-extended q R (less q forwards) below.by)))
      (known-extended (λ c. extended R (less q forwards c)) below.by lower_times below.below)
