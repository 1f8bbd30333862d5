-- The hand of an image job: taken, read for, repaired and multiplied.
use Rattle.std.proofs.Common.{◌≡◌, ℕ, suc, ◌+◌, ◌-◌, ◌*◌, ◌%◌, ◌<◌, ◌≤◌, nat_eq, List, [], ◌∷◌, ◌++◌, length, All, refl, sym, ap, subst, ◌∙◌, arith}
use Rattle.std.specs.Prelude.{Option}
use Rattle.std.proofs.lemmas.List.Elements.{All-append, All-weaker}
use Rattle.ve_theory.specs.Residues.{Congruent}
use Rattle.ve_theory.specs.Combinations.{difference, extended, scaled, IsReducedOf}
use Rattle.ve_theory.specs.Presentations.{reach, step}
use Rattle.ve_theory.specs.Answers.{Row}
use Rattle.ve_theory.proofs.Sums.{SameWeights, SameWeights-append, SameWeights-difference, SameWeights-refl, SameWeights-sym, SameWeights-trans, SameWeights_of, differences-append, extended-difference, extended-scaled, scaled-one, weigh, weigh-append, weigh-difference, weigh-scaled}
use Rattle.ve_theory.proofs.Independence.{congruent_by}
use Rattle.ve_theory.proofs.Members.{All-scaled}
use Rattle.ve_vec.specs.Tracing.{row_or_zero, vector_times}
use Rattle.ve_table.specs.Tables.{ActionTable, IsDue, presented, row_at, word_at}
use Rattle.ve_table.specs.Sound.{IsSound}
use Rattle.ve_machine.specs.Forwards.{Forwards, IsForwarding, stand_in}
use Rattle.ve_machine.specs.Jobs.{HasForward, IsImageJob, IsKnownBelow, IsUnderWay, by_forwards, image_value}
use Rattle.ve_machine.specs.Seats.{State, image_job, present}
use Rattle.ve_machine.specs.SharedLaws.{KeepsKnown}
use Rattle.ve_machine.specs.Hands.{Found, Hand, Part, Reading, beginning_hand, empty_hand, from_forward, next_hand, parts_of, read_forward, read_ids, read_image, row_found, summed_hand, tracing_hand, unread}
use Rattle.ve_machine.specs.HandSteps.{Applies, IsRowFound, Repairs, begins_forward, begins_image, found_for, multiplied_by, multiplies, read_for, read_hand, repaired, repairs_part, repairs_sum, sums}
use Rattle.ve_machine.specs.RightHands.{AreFoundFor, IsFoundFor, IsReadFor}
use Rattle.ve_machine.specs.ImageHands.{IsBeforeLetter, IsForwardRead, IsForwardingBelow, IsHandOfImage, IsImageBeginning, IsImageSoFar, IsImageSummed, IsImageTracing, IsSumOn}
use Rattle.ve_machine.proofs.Forwardings.{are_falling, dead_stands, nothing_forwarded, positive_prime}
use Rattle.ve_machine.proofs.ReducedSums.{reduced_keys, reduced_same}
use Rattle.ve_machine.proofs.RowsAtWork.{product_ids, rows_forwarded}
use Rattle.ve_machine.proofs.KeptKnown.{below_on, comes_kept}
use Rattle.ve_machine.proofs.DerivedComings.{forwarded, forwarded_sound, ids_below}
use Rattle.ve_machine.proofs.FoundVectors.{both_forwarded, found_right, multiplied_forwarding, multiplied_ids, read_kept, reduced_forwarding, repaired_forwarding, repaired_ids}
use Rattle.ve_machine.proofs.LowerForwardings.{below-alike, below-append, below-vanishing, below_stays, below_times, known-alike, known-append, repaired_below}

-- the value less a sum and a vector, from the row less the sum, the forward's product less the vector's, and the vector's less the next
letter_weight : (m r f s v n : ℕ) → Congruent (suc m) (r + m * s + (m * f + m * v + (v + m * n))) (r + m * f + m * (s + n))
letter_weight m r f s v n = congruent_by (suc m) (r + m * s + (m * f + m * v + (v + m * n))) (r + m * f + m * (s + n)) 0 v (omega arith)

letter_same : (p : ℕ) (r f s v n : Row) → 0 < p
    → SameWeights p (difference p r s ++ (difference p (scaled (p - 1) f) v ++ difference p v n)) (difference p (difference p r f) (s ++ n))
letter_same p r f s v n positive = record {
  at = λ h.
      let m : ℕ = p - 1 in
      let second : weigh h (difference p (scaled m f) v) ≡ m * weigh h f + m * weigh h v = weigh-difference h p (scaled m f) v ∙ ap (λ k. k + m * weigh h v) (weigh-scaled h m f) in
      let left : weigh h (difference p r s ++ (difference p (scaled m f) v ++ difference p v n)) ≡ weigh h r + m * weigh h s + (m * weigh h f + m * weigh h v + (weigh h v + m * weigh h n)) =
      weigh-append h (difference p r s) (difference p (scaled m f) v ++ difference p v n)
      ∙ omega (arith, weigh-difference h p r s, weigh-append h (difference p (scaled m f) v) (difference p v n), second, weigh-difference h p v n) in
      let right : weigh h (difference p (difference p r f) (s ++ n)) ≡ weigh h r + m * weigh h f + m * (weigh h s + weigh h n) =
      weigh-difference h p (difference p r f) (s ++ n) ∙ omega (arith, weigh-difference h p r f, ap (λ k. m * k) (weigh-append h s n)) in
      ap (λ k. k % p) left
      ∙ subst (λ q. Congruent q (weigh h r + m * weigh h s + (m * weigh h f + m * weigh h v + (weigh h v + m * weigh h n))) (weigh h r + m * weigh h f + m * (weigh h s + weigh h n)))
      (omega (arith, positive)) (letter_weight m (weigh h r) (weigh h f) (weigh h s) (weigh h v) (weigh h n))
      ∙ ap (λ k. k % p) (sym right);
}

pub image_taken : (O : ActionTable) (forwards : Forwards) (b x : ℕ) → IsHandOfImage O forwards b x (next_hand [] (parts_of O (image_job b x)))
image_taken O forwards b x = record { none_summed = refl; is_part = refl; only = refl; read = tt }

module _ (O : ActionTable) (forwards : Forwards) (rows : List (List (Option Row))) (sound : IsSound O) (now : IsSound (record O { forwards = forwards; rows = rows })) (b x : ℕ) (job : IsImageJob O forwards b x) where
  abbrev p : ℕ
  p = (presented O).prime

  positive : 0 < p
  positive = positive_prime O sound

  abbrev T : ActionTable
  T = forwarded O forwards rows sound now

  abbrev R : ℕ → Row
  R c = row_or_zero (row_at O) x c

  abbrev IsPlace : ℕ → Type 0
  IsPlace n = n < length O.words

  lower_due : (c : ℕ) → c < b → IsDue O c x
  lower_due c less = let below = ids_below O forwards rows sound now b c less job.due.0 in (below.0, job.due.1, omega (arith, below.1, job.due.2))

  forward_lower : (c : ℕ) (f : Row) → HasForward forwards c f → All (λ s. s.0 < c) f
  forward_lower c f dead = are_falling T (forwarded_sound O forwards rows sound now) c f dead

  -- the beginning

  begun : (next vector row forward : Row) → IsForwardRead O forwards b x (read_forward row forward) → IsReducedOf ◌<◌ nat_eq p next ([] ++ row) → IsReducedOf ◌<◌ nat_eq p vector (scaled (p - 1) forward)
      → IsImageTracing O forwards b x next 1 [] vector (x ∷ []) unread
  begun next vector row forward read next_is vector_is =
      let lower : All (λ (t : ℕ × ℕ). t.0 < b) vector = reduced_keys (λ n. n < b) p vector (scaled (p - 1) forward) vector_is (All-scaled (λ n. n < b) (p - 1) forward (forward_lower b forward read.2)) in record {
        once = refl;
        only = refl;
        sum_on = reduced_keys IsPlace p next row next_is read.1;
        vector_on = All-weaker (λ (t : ℕ × ℕ). t.0 < b) (λ (t : ℕ × ℕ). IsPlace t.0) (λ t less. omega (arith, less, job.due.0)) vector lower;
        so_far = record {
          letter = refl;
          sum_is_row = reduced_forwarding p forwards (R b) row next next_is read.0;
          lower = lower;
          is_negative = below-vanishing p forwards b (scaled (p - 1) (stand_in forwards b)) vector positive
              (SameWeights-trans (SameWeights_of (ap (scaled (p - 1)) (dead_stands forwards b forward read.2))) (SameWeights-sym (reduced_same p vector (scaled (p - 1) forward) vector_is)));
        };
        read = tt;
      }

  begun_right : (sum next vector : Row) (part : Part) (parts : List Part) (row forward : Row) → IsImageBeginning O forwards b x sum part parts (read_forward row forward)
      → IsReducedOf ◌<◌ nat_eq p next (sum ++ row) → IsReducedOf ◌<◌ nat_eq p vector (scaled (p - 1) forward) → IsImageTracing O forwards b x next part.coefficient parts vector part.letters unread
  begun_right sum next vector part parts row forward right next_is vector_is =
      subst (λ (q : Part). IsImageTracing O forwards b x next q.coefficient parts vector q.letters unread) (sym right.is_part)
      (subst (λ ps. IsImageTracing O forwards b x next 1 ps vector (x ∷ []) unread) (sym right.only)
      (begun next vector row forward right.read (subst (λ s. IsReducedOf ◌<◌ nat_eq p next (s ++ row)) right.none_summed next_is) vector_is))

  -- the letter

  after_letter : (sum vector next : Row) (founds : List Found) → IsBeforeLetter O forwards b x sum vector x → AreFoundFor O forwards (x ∷ []) vector founds → All IsRowFound founds
      → IsReducedOf ◌<◌ nat_eq p next (multiplied_by founds vector) → IsKnownBelow O forwards b x (difference p (image_value O forwards b x) (sum ++ next))
  after_letter sum vector next founds before are rows_found reduced =
      known-alike O forwards b x positive lower_due (letter_same p (R b) (extended R f) sum (extended R vector) next positive)
      (known-append O forwards b x positive lower_due (by_forwards (difference p (R b) sum) before.sum_is_row)
      (known-append O forwards b x positive lower_due
      (known-alike O forwards b x positive lower_due product (below_times O forwards b x positive lower_due (difference p (scaled (p - 1) f) vector) before.is_negative))
      (by_forwards (difference p (extended R vector) next)
      (reduced_forwarding p forwards (extended R vector) (multiplied_by founds vector) next reduced (multiplied_forwarding O forwards positive x [] vector founds are rows_found)))))
    where
      f : Row
      f = stand_in forwards b

      product : SameWeights p (vector_times (row_at O) (difference p (scaled (p - 1) (stand_in forwards b)) vector) x) (difference p (scaled (p - 1) (extended R (stand_in forwards b))) (extended R vector))
      product =
          SameWeights-trans (extended-difference p R (scaled (p - 1) (stand_in forwards b)) vector)
          (SameWeights-difference (extended-scaled p R (p - 1) (stand_in forwards b)) (SameWeights-refl p (extended R vector)))

  further_ids : (y : ℕ) (left : List ℕ) (c : ℕ) (row : Row) → IsPlace c → IsFoundFor O forwards (y ∷ left) c (row_found row) → All (λ s. IsPlace s.0) row
  further_ids y left c row within found =
      All-weaker (λ (s : ℕ × ℕ). (s.0 < length O.words) × (reach (presented O) (word_at O s.0) ≤ reach (presented O) (word_at O c) + step (presented O) y)) (λ (s : ℕ × ℕ). IsPlace s.0) (λ s is. is.0) row found.1

  multiplied_right : (sum : Row) (coefficient : ℕ) (parts : List Part) (vector next : Row) (y : ℕ) (left : List ℕ) (founds : List Found)
      → IsImageTracing O forwards b x sum coefficient parts vector (y ∷ left) (read_ids founds) → All IsRowFound founds → IsReducedOf ◌<◌ nat_eq p next (multiplied_by founds vector)
      → IsImageTracing O forwards b x sum coefficient parts next left unread
  multiplied_right sum coefficient parts vector next y [] founds right rows_found reduced =
      let y_is : y ≡ x = right.so_far.letter in record {
        once = right.once;
        only = right.only;
        sum_on = right.sum_on;
        vector_on = reduced_keys IsPlace p next (multiplied_by founds vector) reduced
            (multiplied_ids O forwards positive IsPlace IsPlace y [] (further_ids y []) vector founds right.read right.vector_on);
        so_far = after_letter sum vector next founds (subst (IsBeforeLetter O forwards b x sum vector) y_is right.so_far)
            (subst (λ z. AreFoundFor O forwards (z ∷ []) vector founds) y_is right.read) rows_found reduced;
        read = tt;
      }
  multiplied_right sum coefficient parts vector next y (z ∷ left) founds right rows_found reduced = absurd right.so_far

  -- the sum

  summed : (sum next : Row) (vector : Row) → IsSumOn O sum → IsSumOn O vector → IsKnownBelow O forwards b x (difference p (image_value O forwards b x) (sum ++ vector))
      → IsReducedOf ◌<◌ nat_eq p next (sum ++ scaled 1 vector) → IsImageSummed O forwards b x next unread
  summed sum next vector sum_on vector_on known reduced = record {
    vector_on = (
      reduced.reduced,
      reduced_keys IsPlace p next (sum ++ scaled 1 vector) reduced
          (All-append (λ (t : ℕ × ℕ). IsPlace t.0) sum (scaled 1 vector) sum_on (All-scaled IsPlace 1 vector vector_on)),
    );
    known = known-alike O forwards b x positive lower_due
        (SameWeights-difference (SameWeights-refl p (image_value O forwards b x))
        (SameWeights-trans (SameWeights-append (SameWeights-refl p sum) (SameWeights-sym (scaled-one p vector))) (SameWeights-sym (reduced_same p next (sum ++ scaled 1 vector) reduced))))
        known;
    read = tt;
  }

  summed_right : (sum next : Row) (coefficient : ℕ) (parts : List Part) (vector : Row) (reading : Reading) → IsImageTracing O forwards b x sum coefficient parts vector [] reading
      → IsReducedOf ◌<◌ nat_eq p next (sum ++ scaled coefficient vector) → IsHandOfImage O forwards b x (next_hand next parts)
  summed_right sum next coefficient parts vector reading right reduced =
      subst (λ ps. IsHandOfImage O forwards b x (next_hand next ps)) (sym right.only)
      (summed sum next vector right.sum_on right.vector_on right.so_far (subst (λ c. IsReducedOf ◌<◌ nat_eq p next (sum ++ scaled c vector)) right.once reduced))

  -- repairs

  place_lower : (c : ℕ) (f : Row) → IsPlace c → HasForward forwards c f → All (λ s. IsPlace s.0) f
  place_lower c f within dead = All-weaker (λ (s : ℕ × ℕ). s.0 < c) (λ (s : ℕ × ℕ). IsPlace s.0) (λ s less. omega (arith, less, within)) f (forward_lower c f dead)

  below_lower : (c : ℕ) (f : Row) → c < b → HasForward forwards c f → All (λ s. s.0 < b) f
  below_lower c f below dead = All-weaker (λ (s : ℕ × ℕ). s.0 < c) (λ (s : ℕ × ℕ). s.0 < b) (λ s less. omega (arith, less, below)) f (forward_lower c f dead)

  changed : (left : List ℕ) (vector next : Row) (founds : List Found) → AreFoundFor O forwards left vector founds → IsReducedOf ◌<◌ nat_eq p next (repaired founds vector)
      → IsForwarding p forwards (difference p vector next)
  changed left vector next founds are reduced = reduced_forwarding p forwards vector (repaired founds vector) next reduced (repaired_forwarding O forwards positive left vector founds are)

  so_far_repaired : (sum vector next : Row) (left : List ℕ) (founds : List Found) → AreFoundFor O forwards left vector founds → IsReducedOf ◌<◌ nat_eq p next (repaired founds vector)
      → IsImageSoFar O forwards b x sum vector left → IsImageSoFar O forwards b x sum next left
  so_far_repaired sum vector next [] founds are reduced so_far =
      below_on O forwards b x (image_value O forwards b x) (sum ++ vector) (sum ++ next) positive so_far
      (both_forwarded O forwards positive sum sum vector next (nothing_forwarded p forwards sum sum positive (SameWeights-refl p sum)) (changed [] vector next founds are reduced))
  so_far_repaired sum vector next (y ∷ []) founds are reduced so_far = record {
    letter = so_far.letter;
    sum_is_row = so_far.sum_is_row;
    lower = reduced_keys (λ n. n < b) p next (repaired founds vector) reduced (repaired_ids O forwards positive (λ n. n < b) below_lower (y ∷ []) vector founds are so_far.lower);
    is_negative = below-alike p forwards b (differences-append p (scaled (p - 1) (stand_in forwards b)) vector next positive)
        (below-append p forwards b so_far.is_negative
        (below-alike p forwards b (SameWeights-difference (SameWeights-refl p vector) (SameWeights-sym (reduced_same p next (repaired founds vector) reduced)))
        (repaired_below O forwards b positive (y ∷ []) vector founds are so_far.lower)));
  }
  so_far_repaired sum vector next (y ∷ z ∷ left) founds are reduced so_far = absurd so_far

  repaired_right : (sum : Row) (coefficient : ℕ) (parts : List Part) (vector next : Row) (left : List ℕ) (founds : List Found)
      → IsImageTracing O forwards b x sum coefficient parts vector left (read_ids founds) → IsReducedOf ◌<◌ nat_eq p next (repaired founds vector)
      → IsImageTracing O forwards b x sum coefficient parts next left unread
  repaired_right sum coefficient parts vector next left founds right reduced = record {
    once = right.once;
    only = right.only;
    sum_on = right.sum_on;
    vector_on = reduced_keys IsPlace p next (repaired founds vector) reduced (repaired_ids O forwards positive IsPlace place_lower left vector founds right.read right.vector_on);
    so_far = so_far_repaired sum vector next left founds right.read reduced right.so_far;
    read = tt;
  }

  summed_repaired : (vector next : Row) (founds : List Found) → IsImageSummed O forwards b x vector (read_ids founds) → IsReducedOf ◌<◌ nat_eq p next (repaired founds vector) → IsImageSummed O forwards b x next unread
  summed_repaired vector next founds right reduced = record {
    vector_on = (reduced.reduced, reduced_keys IsPlace p next (repaired founds vector) reduced (repaired_ids O forwards positive IsPlace place_lower [] vector founds right.read right.vector_on.1));
    known = below_on O forwards b x (image_value O forwards b x) vector next positive right.known (changed [] vector next founds right.read reduced);
    read = tt;
  }

  -- what seats do in their hands

  pub repairs_right : (hand next : Hand) → Repairs p hand next → IsHandOfImage O forwards b x hand → IsHandOfImage O forwards b x next
  repairs_right hand next (repairs_part sum coefficient parts vector after left founds some reduced) right = repaired_right sum coefficient parts vector after left founds right reduced
  repairs_right hand next (repairs_sum vector after founds some reduced) right = summed_repaired vector after founds right reduced

  pub applies_right : (hand next : Hand) → Applies p hand next → IsHandOfImage O forwards b x hand → IsHandOfImage O forwards b x next
  applies_right hand next (begins_image sum part parts image) right = absurd right.read
  applies_right hand next (begins_forward sum after vector part parts row forward first second) right = begun_right sum after vector part parts row forward right first second
  applies_right hand next (multiplies sum coefficient parts vector after y left founds rows_found reduced) right = multiplied_right sum coefficient parts vector after y left founds right rows_found reduced
  applies_right hand next (sums sum after coefficient parts vector reading reduced) right = summed_right sum after coefficient parts vector reading right reduced

-- reads

module _ (S : State) (sound : IsSound S.opening) (under : IsUnderWay S.opening (present S)) (count : length S.forwards ≡ length S.opening.words) (b x : ℕ) (job : IsImageJob S.opening S.forwards b x) where
  placed : (left : List ℕ) (vector : Row) → IsSumOn S.opening vector → IsReadFor S.opening S.forwards left vector (read_ids (found_for S left vector))
  placed left vector on =
      found_right S sound under left vector
      (All-weaker (λ (t : ℕ × ℕ). t.0 < length S.opening.words) (λ (t : ℕ × ℕ). t.0 < length S.forwards) (λ t is. omega (arith, is, count)) vector on)

  read_before : IsForwardRead S.opening S.forwards b x (read_for S (from_forward b x))
  read_before = (
    rows_forwarded S.opening (present S) sound under x b,
    All-weaker (λ (s : ℕ × ℕ). (s.0 < length S.opening.words) × (reach (presented S.opening) (word_at S.opening s.0) ≤ reach (presented S.opening) (word_at S.opening b) + step (presented S.opening) x))
        (λ (s : ℕ × ℕ). s.0 < length S.opening.words) (λ s is. is.0) (row_or_zero (row_at (present S)) x b) (product_ids S.opening (present S) sound under x b),
    subst (HasForward S.forwards b) (sym (dead_stands S.forwards b job.forward job.dead)) job.dead,
  )

  pub image_read : (hand : Hand) → IsHandOfImage S.opening S.forwards b x hand → IsHandOfImage S.opening S.forwards b x (read_hand S hand)
  image_read empty_hand right = absurd right
  image_read (beginning_hand sum part parts reading) right = record {
    none_summed = right.none_summed;
    is_part = right.is_part;
    only = right.only;
    read = subst (λ (q : Part). IsForwardRead S.opening S.forwards b x (read_for S q.beginning)) (sym right.is_part) read_before;
  }
  image_read (tracing_hand sum coefficient parts vector left reading) right = record {
    once = right.once;
    only = right.only;
    sum_on = right.sum_on;
    vector_on = right.vector_on;
    so_far = right.so_far;
    read = placed left vector right.vector_on;
  }
  image_read (summed_hand vector reading) right = record { vector_on = right.vector_on; known = right.known; read = placed [] vector right.vector_on.1 }

-- deaths

module _ (O : ActionTable) (old new : Forwards) (keeps : KeepsKnown O old new) (positive : 0 < (presented O).prime) (b x : ℕ) (job : IsImageJob O old b x) where
  forward_read_kept : (reading : Reading) → IsForwardRead O old b x reading → IsForwardRead O new b x reading
  forward_read_kept unread read = tt
  forward_read_kept (read_image image) read = absurd read
  forward_read_kept (read_forward row forward) read = (keeps.forwardings (difference (presented O).prime (row_or_zero (row_at O) x b) row) read.0, read.1, keeps.dead b forward read.2)
  forward_read_kept (read_ids founds) read = absurd read

  so_far_kept : (sum vector : Row) (left : List ℕ) → IsImageSoFar O old b x sum vector left → IsImageSoFar O new b x sum vector left
  so_far_kept sum vector [] so_far = comes_kept O old new keeps (image_job b x) (sum ++ vector) job so_far
  so_far_kept sum vector (y ∷ []) so_far = record {
    letter = so_far.letter;
    sum_is_row = keeps.forwardings (difference (presented O).prime (row_or_zero (row_at O) x b) sum) so_far.sum_is_row;
    lower = so_far.lower;
    is_negative = subst (λ f. IsForwardingBelow (presented O).prime new b (difference (presented O).prime (scaled ((presented O).prime - 1) f) vector))
        (dead_stands old b job.forward job.dead ∙ sym (dead_stands new b job.forward (keeps.dead b job.forward job.dead)))
        (below_stays O old new keeps b positive (difference (presented O).prime (scaled ((presented O).prime - 1) (stand_in old b)) vector) so_far.is_negative);
  }
  so_far_kept sum vector (y ∷ z ∷ left) so_far = absurd so_far

  pub image_hand_kept : (hand : Hand) → IsHandOfImage O old b x hand → IsHandOfImage O new b x hand
  image_hand_kept empty_hand right = absurd right
  image_hand_kept (beginning_hand sum part parts reading) right = record { none_summed = right.none_summed; is_part = right.is_part; only = right.only; read = forward_read_kept reading right.read }
  image_hand_kept (tracing_hand sum coefficient parts vector left reading) right = record {
    once = right.once;
    only = right.only;
    sum_on = right.sum_on;
    vector_on = right.vector_on;
    so_far = so_far_kept sum vector left right.so_far;
    read = read_kept O old new keeps left vector reading right.read;
  }
  image_hand_kept (summed_hand vector reading) right = record {
    vector_on = right.vector_on;
    known = comes_kept O old new keeps (image_job b x) vector job right.known;
    read = read_kept O old new keeps [] vector reading right.read;
  }
