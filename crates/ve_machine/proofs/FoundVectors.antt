-- Vectors repaired and multiplied by what was read for their ids.
use Rattle.std.proofs.Common.{◌≡◌, ℕ, ◌<◌, nat_eq, Some, None, List, [], ◌∷◌, ◌++◌, length, All, refl, ap, subst, ◌∙◌, arith}
use Rattle.std.specs.Prelude.{Option, slice_index_or}
use Rattle.std.proofs.lemmas.Option.{slice_get-get_or}
use Rattle.std.proofs.lemmas.List.Elements.{All-append, All-cons, All-head, All-nil, All-tail}
use Rattle.ve_theory.specs.Combinations.{difference, extended, scaled, unit, IsReducedOf}
use Rattle.ve_theory.specs.Answers.{Row}
use Rattle.ve_theory.proofs.Sums.{SameWeights, SameWeights-difference, SameWeights-refl, SameWeights-sym, weigh, weigh-append, weigh-scaled}
use Rattle.ve_theory.proofs.Members.{All-scaled}
use Rattle.ve_theory.proofs.DerivedElements.{SameWeights-equal}
use Rattle.ve_vec.specs.Tracing.{row_or_zero, vector_times}
use Rattle.ve_table.specs.Tables.{ActionTable, presented, row_at}
use Rattle.ve_table.specs.Sound.{IsSound}
use Rattle.ve_machine.specs.Forwards.{Forwards, IsForwarding}
use Rattle.ve_machine.specs.Jobs.{HasForward, IsUnderWay}
use Rattle.ve_machine.specs.Seats.{State, present}
use Rattle.ve_machine.specs.SharedLaws.{KeepsKnown}
use Rattle.ve_machine.specs.Hands.{Found, Reading, forward_found, none_found, read_forward, read_ids, read_image, row_found, unread}
use Rattle.ve_machine.specs.HandSteps.{IsRowFound, found_at, found_for, multiplied_by, repaired}
use Rattle.ve_machine.specs.RightHands.{AreFoundFor, IsFoundFor, IsReadFor}
use Rattle.ve_machine.proofs.Forwardings.{IsForwarding-alike, IsForwarding-append, IsForwarding-scaled, dead_stands, id_less_stand_in, nothing_forwarded}
use Rattle.ve_machine.proofs.ReducedSums.{reduced_same}
use Rattle.ve_machine.proofs.RowsAtWork.{product_ids, rows_forwarded}

-- sums of differences

pub differences_joined : (p : ℕ) (u v w x : Row) → SameWeights p (difference p u v ++ difference p w x) (difference p (u ++ w) (v ++ x))
differences_joined p u v w x = SameWeights-equal (λ h. simp (weigh-append, weigh-scaled) (omega arith))

difference_scaled : (p c : ℕ) (u v : Row) → SameWeights p (scaled c (difference p u v)) (difference p (scaled c u) (scaled c v))
difference_scaled p c u v = SameWeights-equal (λ h. simp (weigh-append, weigh-scaled) (omega arith))

-- one id, and the vector in its place
pub term_replaced : (p c b : ℕ) (f : Row) → SameWeights p (scaled c (difference p (unit b) f)) (difference p ((b, c) ∷ []) (scaled c f))
unfolding weigh
term_replaced p c b f = SameWeights-equal (λ h. simp (weigh-append, weigh-scaled) (omega arith))

pub reduced_forwarding : (p : ℕ) (forwards : Forwards) (u v next : Row) → IsReducedOf ◌<◌ nat_eq p next v → IsForwarding p forwards (difference p u v) → IsForwarding p forwards (difference p u next)
reduced_forwarding p forwards u v next reduced forwarding =
    IsForwarding-alike p forwards (SameWeights-difference (SameWeights-refl p u) (SameWeights-sym (reduced_same p next v reduced))) forwarding

module _ (O : ActionTable) (forwards : Forwards) (positive : 0 < (presented O).prime) where
  abbrev p : ℕ
  p = (presented O).prime

  -- a part of a vector and the rest of it
  pub both_forwarded : (u v w x : Row) → IsForwarding p forwards (difference p u v) → IsForwarding p forwards (difference p w x) → IsForwarding p forwards (difference p (u ++ w) (v ++ x))
  both_forwarded u v w x one other = IsForwarding-alike p forwards (differences_joined p u v w x) (IsForwarding-append p forwards one other)

  same_term : (t : ℕ × ℕ) → IsForwarding p forwards (difference p (t ∷ []) (t ∷ []))
  same_term t = nothing_forwarded p forwards (t ∷ []) (t ∷ []) positive (SameWeights-refl p (t ∷ []))

  dead_term : (t : ℕ × ℕ) (f : Row) → HasForward forwards t.0 f → IsForwarding p forwards (difference p (t ∷ []) (scaled t.1 f))
  dead_term t f dead =
      IsForwarding-alike p forwards (term_replaced p t.1 t.0 f)
      (IsForwarding-scaled p forwards t.1 (subst (λ v. IsForwarding p forwards (difference p (unit t.0) v)) (dead_stands forwards t.0 f dead) (id_less_stand_in p forwards t.0)))

  pub repaired_forwarding : (left : List ℕ) (vector : Row) (founds : List Found) → AreFoundFor O forwards left vector founds → IsForwarding p forwards (difference p vector (repaired founds vector))
  repaired_forwarding left [] [] are = nothing_forwarded p forwards [] [] positive (SameWeights-refl p [])
  repaired_forwarding left [] (found ∷ founds) are = absurd are
  repaired_forwarding left (t ∷ vector) [] are = absurd are
  repaired_forwarding left (t ∷ vector) (row_found row ∷ founds) are = both_forwarded (t ∷ []) (t ∷ []) vector (repaired founds vector) (same_term t) (repaired_forwarding left vector founds are.1)
  repaired_forwarding left (t ∷ vector) (none_found ∷ founds) are = both_forwarded (t ∷ []) (t ∷ []) vector (repaired founds vector) (same_term t) (repaired_forwarding left vector founds are.1)
  repaired_forwarding left (t ∷ vector) (forward_found forward ∷ founds) are =
      both_forwarded (t ∷ []) (scaled t.1 forward) vector (repaired founds vector) (dead_term t forward are.0) (repaired_forwarding left vector founds are.1)

  pub repaired_ids : (Q : ℕ → Type 0) → ((b : ℕ) (f : Row) → Q b → HasForward forwards b f → All (λ s. Q s.0) f) → (left : List ℕ) (vector : Row) (founds : List Found)
      → AreFoundFor O forwards left vector founds → All (λ t. Q t.0) vector → All (λ t. Q t.0) (repaired founds vector)
  repaired_ids Q lower left [] [] are all = all
  repaired_ids Q lower left [] (found ∷ founds) are all = absurd are
  repaired_ids Q lower left (t ∷ vector) [] are all = absurd are
  repaired_ids Q lower left (t ∷ vector) (row_found row ∷ founds) are all =
      All-cons (λ (s : ℕ × ℕ). Q s.0) t (repaired founds vector) (All-head (λ (s : ℕ × ℕ). Q s.0) t vector all) (repaired_ids Q lower left vector founds are.1 (All-tail (λ (s : ℕ × ℕ). Q s.0) t vector all))
  repaired_ids Q lower left (t ∷ vector) (none_found ∷ founds) are all =
      All-cons (λ (s : ℕ × ℕ). Q s.0) t (repaired founds vector) (All-head (λ (s : ℕ × ℕ). Q s.0) t vector all) (repaired_ids Q lower left vector founds are.1 (All-tail (λ (s : ℕ × ℕ). Q s.0) t vector all))
  repaired_ids Q lower left (t ∷ vector) (forward_found forward ∷ founds) are all =
      All-append (λ (s : ℕ × ℕ). Q s.0) (scaled t.1 forward) (repaired founds vector)
      (All-scaled Q t.1 forward (lower t.0 forward (All-head (λ (s : ℕ × ℕ). Q s.0) t vector all) are.0))
      (repaired_ids Q lower left vector founds are.1 (All-tail (λ (s : ℕ × ℕ). Q s.0) t vector all))

  -- only rows were read
  pub multiplied_forwarding : (x : ℕ) (left : List ℕ) (vector : Row) (founds : List Found) → AreFoundFor O forwards (x ∷ left) vector founds → All IsRowFound founds
      → IsForwarding p forwards (difference p (vector_times (row_at O) vector x) (multiplied_by founds vector))
  unfolding extended
  multiplied_forwarding x left [] [] are rows = nothing_forwarded p forwards [] [] positive (SameWeights-refl p [])
  multiplied_forwarding x left [] (found ∷ founds) are rows = absurd are
  multiplied_forwarding x left (t ∷ vector) [] are rows = absurd are
  multiplied_forwarding x left (t ∷ vector) (row_found row ∷ founds) are rows =
      both_forwarded (scaled t.1 (row_or_zero (row_at O) x t.0)) (scaled t.1 row) (extended (row_or_zero (row_at O) x) vector) (multiplied_by founds vector)
      (IsForwarding-alike p forwards (difference_scaled p t.1 (row_or_zero (row_at O) x t.0) row) (IsForwarding-scaled p forwards t.1 are.0.0))
      (multiplied_forwarding x left vector founds are.1 (All-tail IsRowFound (row_found row) founds rows))
  multiplied_forwarding x left (t ∷ vector) (none_found ∷ founds) are rows = absurd (All-head IsRowFound none_found founds rows)
  multiplied_forwarding x left (t ∷ vector) (forward_found forward ∷ founds) are rows = absurd (All-head IsRowFound (forward_found forward) founds rows)

  pub multiplied_ids : (Q R : ℕ → Type 0) (x : ℕ) (left : List ℕ) → ((b : ℕ) (row : Row) → Q b → IsFoundFor O forwards (x ∷ left) b (row_found row) → All (λ s. R s.0) row)
      → (vector : Row) (founds : List Found) → AreFoundFor O forwards (x ∷ left) vector founds → All (λ t. Q t.0) vector → All (λ t. R t.0) (multiplied_by founds vector)
  multiplied_ids Q R x left further [] [] are all = All-nil (λ (s : ℕ × ℕ). R s.0)
  multiplied_ids Q R x left further [] (found ∷ founds) are all = absurd are
  multiplied_ids Q R x left further (t ∷ vector) [] are all = absurd are
  multiplied_ids Q R x left further (t ∷ vector) (row_found row ∷ founds) are all =
      All-append (λ (s : ℕ × ℕ). R s.0) (scaled t.1 row) (multiplied_by founds vector)
      (All-scaled R t.1 row (further t.0 row (All-head (λ (s : ℕ × ℕ). Q s.0) t vector all) are.0))
      (multiplied_ids Q R x left further vector founds are.1 (All-tail (λ (s : ℕ × ℕ). Q s.0) t vector all))
  multiplied_ids Q R x left further (t ∷ vector) (none_found ∷ founds) are all = multiplied_ids Q R x left further vector founds are.1 (All-tail (λ (s : ℕ × ℕ). Q s.0) t vector all)
  multiplied_ids Q R x left further (t ∷ vector) (forward_found forward ∷ founds) are all = multiplied_ids Q R x left further vector founds are.1 (All-tail (λ (s : ℕ × ℕ). Q s.0) t vector all)

-- what a read finds is right

pub found_right : (S : State) → IsSound S.opening → IsUnderWay S.opening (present S) → (left : List ℕ) (vector : Row) → All (λ t. t.0 < length S.forwards) vector
    → AreFoundFor S.opening S.forwards left vector (found_for S left vector)
found_right S sound under left [] within = tt
found_right S sound under left (t ∷ vector) within =
    (one left (slice_index_or S.forwards t.0 None) refl, found_right S sound under left vector (All-tail (λ (s : ℕ × ℕ). s.0 < length S.forwards) t vector within))
  where
    here : t.0 < length S.forwards
    here = All-head (λ (s : ℕ × ℕ). s.0 < length S.forwards) t vector within

    one : (left : List ℕ) (o : Option Row) → slice_index_or S.forwards t.0 None ≡ o → IsFoundFor S.opening S.forwards left t.0 (found_at S left t.0 o)
    one left (Some forward) is = slice_get-get_or S.forwards t.0 None here ∙ ap Some is
    one [] None is = tt
    one (x ∷ left) None is = (rows_forwarded S.opening (present S) sound under x t.0, product_ids S.opening (present S) sound under x t.0)

-- and stays so where ids die

module _ (O : ActionTable) (old new : Forwards) (keeps : KeepsKnown O old new) where
  found_kept : (left : List ℕ) (b : ℕ) (found : Found) → IsFoundFor O old left b found → IsFoundFor O new left b found
  found_kept left b none_found is = tt
  found_kept left b (forward_found forward) is = keeps.dead b forward is
  found_kept [] b (row_found row) is = absurd is
  found_kept (x ∷ left) b (row_found row) is = (keeps.forwardings (difference (presented O).prime (row_or_zero (row_at O) x b) row) is.0, is.1)

  founds_kept : (left : List ℕ) (vector : Row) (founds : List Found) → AreFoundFor O old left vector founds → AreFoundFor O new left vector founds
  founds_kept left [] [] are = tt
  founds_kept left [] (found ∷ founds) are = absurd are
  founds_kept left (t ∷ vector) [] are = absurd are
  founds_kept left (t ∷ vector) (found ∷ founds) are = (found_kept left t.0 found are.0, founds_kept left vector founds are.1)

  pub read_kept : (left : List ℕ) (vector : Row) (reading : Reading) → IsReadFor O old left vector reading → IsReadFor O new left vector reading
  read_kept left vector unread is = tt
  read_kept left vector (read_image image) is = absurd is
  read_kept left vector (read_forward row forward) is = absurd is
  read_kept left vector (read_ids founds) is = founds_kept left vector founds is
