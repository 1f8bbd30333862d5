-- The hand of a relator or a submodule relation: reads, repairs and letters keep it right.
use Rattle.std.proofs.Common.{◌≡◌, ℕ, suc, ◌+◌, ◌-◌, ◌*◌, ◌%◌, ◌<◌, ◌≤◌, nat_eq, List, [], ◌∷◌, ◌++◌, length, All, refl, sym, ap, subst, ◌∙◌, append-nil, arith}
use Rattle.std.specs.Prelude.{Option}
use Rattle.std.proofs.lemmas.List.Elements.{All-append, All-head, All-tail, All-weaker}
use Rattle.ve_theory.specs.Residues.{Congruent}
use Rattle.ve_theory.specs.Combinations.{difference, scaled, unit, IsReducedOf}
use Rattle.ve_theory.specs.Words.{Word, generator, times, times_all}
use Rattle.ve_theory.specs.Elements.{Element}
use Rattle.ve_theory.specs.Presentations.{Presentation, letter_count, reach, step}
use Rattle.ve_theory.specs.Answers.{Row}
use Rattle.ve_theory.proofs.Sums.{SameWeights, SameWeights-append, SameWeights-difference, SameWeights-extended, SameWeights-refl, SameWeights-sym, SameWeights-trans, SameWeights_of, extended-append, extended-scaled, weigh, weigh-append, weigh-difference, weigh-scaled}
use Rattle.ve_theory.proofs.Independence.{congruent_by}
use Rattle.ve_theory.proofs.Members.{All-scaled}
use Rattle.ve_theory.proofs.Orders.{reach-times}
use Rattle.ve_theory.proofs.RelatorReaches.{reach-times_all}
use Rattle.ve_vec.specs.Tracing.{vector_times}
use Rattle.ve_table.specs.Tables.{ActionTable, element_of, presented, row_at, word_at}
use Rattle.ve_table.specs.Sound.{IsSound}
use Rattle.ve_machine.specs.Forwards.{Forwards}
use Rattle.ve_machine.specs.Known.{Known}
use Rattle.ve_machine.specs.Jobs.{HasForward, IsUnderWay}
use Rattle.ve_machine.specs.SharedJobs.{IsVectorOn}
use Rattle.ve_machine.specs.Hands.{Beginning, Found, Hand, Part, Reading, begun_with, from_forward, from_id, from_image, next_hand, read_forward, read_ids, read_image, row_found, tracing_hand, unread}
use Rattle.ve_machine.specs.HandSteps.{Applies, IsRowFound, Repairs, begins_forward, begins_image, multiplied_by, multiplies, repaired, repairs_part, repairs_sum, sums}
use Rattle.ve_machine.specs.RightHands.{HasBeginning, IsFoundFor, IsHandOfElement, IsPart, IsReadBefore, IsSumSoFar, IsSummed, IsTracing, beginning_word, part_word, parts_value}
use Rattle.ve_machine.proofs.Forwardings.{are_falling, positive_prime}
use Rattle.ve_machine.proofs.KnownElements.{Known-alike, Known-append, Known-scaled, known_forwarded, known_on}
use Rattle.ve_machine.proofs.ReducedSums.{reduced_keys, reduced_same}
use Rattle.ve_machine.proofs.Tracing.{IsIdUpTo, IsTraced, id_traced, image_traced, next_traced}
use Rattle.ve_machine.proofs.DerivedComings.{forwarded, forwarded_sound, forwarded_under_way, ids_below}
use Rattle.ve_machine.proofs.FoundVectors.{multiplied_forwarding, multiplied_ids, reduced_forwarding, repaired_forwarding, repaired_ids}

-- the element less what is summed and a term, and the term's word less its vector
summed_weight : (m e s w v r c : ℕ) → Congruent (suc m) (e + m * (s + (c * w + r)) + c * (w + m * v)) (e + m * (s + c * v + (0 + r)))
summed_weight m e s w v r c = congruent_by (suc m) (e + m * (s + (c * w + r)) + c * (w + m * v)) (e + m * (s + c * v + (0 + r))) 0 (c * w) (omega arith)

summed_same : (p : ℕ) (e s v r : Element) (w : Word) (c : ℕ) → 0 < p
    → SameWeights p (difference p e (s ++ (((w, c) ∷ []) ++ r)) ++ scaled c (difference p (unit w) v)) (difference p e ((s ++ scaled c v) ++ ([] ++ r)))
unfolding weigh
summed_same p e s v r w c positive = record {
  at = λ h.
      let m : ℕ = p - 1 in
      let first : weigh h (difference p e (s ++ (((w, c) ∷ []) ++ r))) ≡ weigh h e + m * (weigh h s + (c * h w + weigh h r)) =
      weigh-difference h p e (s ++ (((w, c) ∷ []) ++ r)) ∙ ap (λ n. weigh h e + m * n) (weigh-append h s (((w, c) ∷ []) ++ r)) in
      let second : weigh h (scaled c (difference p (unit w) v)) ≡ c * (h w + m * weigh h v) =
      weigh-scaled h c (difference p (unit w) v) ∙ ap (λ n. c * n) (weigh-difference h p (unit w) v ∙ omega arith) in
      let left : weigh h (difference p e (s ++ (((w, c) ∷ []) ++ r)) ++ scaled c (difference p (unit w) v)) ≡ weigh h e + m * (weigh h s + (c * h w + weigh h r)) + c * (h w + m * weigh h v) =
      weigh-append h (difference p e (s ++ (((w, c) ∷ []) ++ r))) (scaled c (difference p (unit w) v)) ∙ omega (arith, first, second) in
      let right : weigh h (difference p e ((s ++ scaled c v) ++ ([] ++ r))) ≡ weigh h e + m * (weigh h s + c * weigh h v + (0 + weigh h r)) =
      weigh-difference h p e ((s ++ scaled c v) ++ ([] ++ r))
      ∙ ap (λ n. weigh h e + m * n) (weigh-append h (s ++ scaled c v) ([] ++ r) ∙ omega (arith, weigh-append h s (scaled c v), weigh-scaled h c v)) in
      ap (λ n. n % p) left
      ∙ subst (λ q. Congruent q (weigh h e + m * (weigh h s + (c * h w + weigh h r)) + c * (h w + m * weigh h v)) (weigh h e + m * (weigh h s + c * weigh h v + (0 + weigh h r))))
      (omega (arith, positive)) (summed_weight m (weigh h e) (weigh h s) (h w) (weigh h v) (weigh h r) c)
      ∙ ap (λ n. n % p) (sym right);
}

module _ (O : ActionTable) (forwards : Forwards) (rows : List (List (Option Row))) (sound : IsSound O) (now : IsSound (record O { forwards = forwards; rows = rows })) (e : Element) where
  abbrev P : Presentation
  P = presented O

  abbrev p : ℕ
  p = P.prime

  positive : 0 < p
  positive = positive_prime O sound

  abbrev T : ActionTable
  T = forwarded O forwards rows sound now

  under : IsUnderWay O T
  under = forwarded_under_way O forwards rows sound now

  abbrev IsPlace : ℕ → Type 0
  IsPlace n = n < length O.words

  -- parts begin

  begins_at : (sum : Row) (part : Part) (parts : List Part) → IsSumSoFar O forwards e sum ((part_word O part, part.coefficient) ∷ []) parts → IsPart O part
      → (beginning : Beginning) → part.beginning ≡ beginning → IsHandOfElement O forwards e (begun_with sum part parts beginning)
  begins_at sum part parts so_far here (from_id b) is =
      let word_is : part_word O part ≡ times_all (word_at O b) part.letters = ap (λ s. times_all (beginning_word O s) part.letters) is in
      let traced = id_traced O T sound under b (subst (HasBeginning O) is here.there) in record {
        word = word_at O b;
        traced = traced.known;
        ids = traced.ids;
        letters = here.letters;
        within = subst (λ w. reach P w ≤ O.level) word_is here.within;
        so_far = subst (λ w. IsSumSoFar O forwards e sum ((w, part.coefficient) ∷ []) parts) word_is so_far;
        read = tt;
      }
  begins_at sum part parts so_far here (from_image i) is = record { so_far = so_far; here = here; read = unread_before part.beginning }
    where
      unread_before : (beginning : Beginning) → IsReadBefore O beginning unread
      unread_before (from_id b) = tt
      unread_before (from_image i) = tt
      unread_before (from_forward b x) = tt
  begins_at sum part parts so_far here (from_forward b x) is = absurd (subst (HasBeginning O) is here.there)

  -- all parts below are summed
  pub next_right : (sum : Row) (parts : List Part) → (next : IsSumSoFar O forwards e sum [] parts) → IsVectorOn O sum → IsHandOfElement O forwards e (next_hand sum parts)
  next_right sum [] next on = record {
    vector_on = on;
    known = Known-alike O forwards (SameWeights_of (ap (λ s. difference p e s) (append-nil (element_of O sum)))) next.known;
    read = tt;
  }
  next_right sum (part ∷ parts) next on =
      begins_at sum part parts
      (record { ids = next.ids; known = next.known; can_trace = All-tail (IsPart O) part parts next.can_trace })
      (All-head (IsPart O) part parts next.can_trace) part.beginning refl

  -- an image was read

  begun_right : (sum : Row) (part : Part) (parts : List Part) (image : Row) → IsSumSoFar O forwards e sum ((part_word O part, part.coefficient) ∷ []) parts → IsPart O part
      → (beginning : Beginning) → part.beginning ≡ beginning → IsReadBefore O beginning (read_image image)
      → IsHandOfElement O forwards e (tracing_hand sum part.coefficient parts image part.letters unread)
  begun_right sum part parts image so_far here (from_id b) is read = absurd read
  begun_right sum part parts image so_far here (from_image i) is read =
      let word_is : part_word O part ≡ times_all (generator i) part.letters = ap (λ s. times_all (beginning_word O s) part.letters) is in
      let traced : IsTraced O forwards (generator i) image = subst (IsTraced O forwards (generator i)) (sym read) (image_traced O T sound under i (subst (HasBeginning O) is here.there)) in record {
        word = generator i;
        traced = traced.known;
        ids = traced.ids;
        letters = here.letters;
        within = subst (λ w. reach P w ≤ O.level) word_is here.within;
        so_far = subst (λ w. IsSumSoFar O forwards e sum ((w, part.coefficient) ∷ []) parts) word_is so_far;
        read = tt;
      }
  begun_right sum part parts image so_far here (from_forward b x) is read = absurd read

  -- letters

  further_ids : (w : Word) (x : ℕ) (left : List ℕ) (b : ℕ) (row : Row) → IsIdUpTo O w b → IsFoundFor O forwards (x ∷ left) b (row_found row) → All (λ s. IsIdUpTo O (times w x) s.0) row
  further_ids w x left b row fits found =
      All-weaker (λ (s : ℕ × ℕ). (s.0 < length O.words) × (reach P (word_at O s.0) ≤ reach P (word_at O b) + step P x)) (λ (s : ℕ × ℕ). IsIdUpTo O (times w x) s.0)
      (λ s is. (is.0, omega (arith, is.1, fits.1, reach-times P w x))) row found.1

  multiplied_right : (sum : Row) (coefficient : ℕ) (parts : List Part) (vector next : Row) (x : ℕ) (left : List ℕ) (founds : List Found)
      → IsTracing O forwards e sum coefficient parts vector (x ∷ left) (read_ids founds) → All IsRowFound founds → IsReducedOf ◌<◌ nat_eq p next (multiplied_by founds vector)
      → IsTracing O forwards e sum coefficient parts next left unread
  unfolding times_all
  multiplied_right sum coefficient parts vector next x left founds tracing rows_found reduced =
      let w : Word = tracing.word in
      let letter : x < letter_count P = All-head (λ y. y < letter_count P) x left tracing.letters in
      let within : reach P (times w x) ≤ O.level = omega (arith, reach-times_all P (times w x) left, tracing.within) in
      let traced : IsTraced O forwards (times w x) (vector_times (row_at O) vector x) =
      next_traced O T sound under w vector x letter within (record { known = tracing.traced; ids = tracing.ids }) in record {
        word = times w x;
        traced = known_on O forwards (unit (times w x)) (element_of O (vector_times (row_at O) vector x)) (element_of O next) positive traced.known
            (known_forwarded O forwards (vector_times (row_at O) vector x) next
            (reduced_forwarding p forwards (vector_times (row_at O) vector x) (multiplied_by founds vector) next reduced
            (multiplied_forwarding O forwards positive x left vector founds tracing.read rows_found)));
        ids = reduced_keys (IsIdUpTo O (times w x)) p next (multiplied_by founds vector) reduced
            (multiplied_ids O forwards positive (IsIdUpTo O w) (IsIdUpTo O (times w x)) x left (further_ids w x left) vector founds tracing.read tracing.ids);
        letters = All-tail (λ y. y < letter_count P) x left tracing.letters;
        within = tracing.within;
        so_far = tracing.so_far;
        read = tt;
      }

  -- sums

  summed_right : (sum next : Row) (coefficient : ℕ) (parts : List Part) (vector : Row) (reading : Reading) → IsTracing O forwards e sum coefficient parts vector [] reading
      → IsReducedOf ◌<◌ nat_eq p next (sum ++ scaled coefficient vector) → IsHandOfElement O forwards e (next_hand next parts)
  unfolding times_all
  summed_right sum next coefficient parts vector reading tracing reduced =
      next_right next parts (record { ids = ids; known = known; can_trace = tracing.so_far.can_trace }) (reduced.reduced, ids)
    where
      ids : All (λ t. t.0 < length O.words) next
      ids =
          reduced_keys IsPlace p next (sum ++ scaled coefficient vector) reduced
          (All-append (λ (t : ℕ × ℕ). IsPlace t.0) sum (scaled coefficient vector) tracing.so_far.ids
          (All-scaled IsPlace coefficient vector (All-weaker (λ (t : ℕ × ℕ). IsIdUpTo O tracing.word t.0) (λ (t : ℕ × ℕ). IsPlace t.0) (λ t is. is.0) vector tracing.ids)))

      element_is : SameWeights p (element_of O sum ++ scaled coefficient (element_of O vector)) (element_of O next)
      element_is =
          SameWeights-trans (SameWeights-append (SameWeights-refl p (element_of O sum)) (SameWeights-sym (extended-scaled p (λ j. unit (word_at O j)) coefficient vector)))
          (SameWeights-trans (SameWeights_of (sym (extended-append (λ j. unit (word_at O j)) sum (scaled coefficient vector))))
          (SameWeights-extended (λ j. unit (word_at O j)) (SameWeights-sym (reduced_same p next (sum ++ scaled coefficient vector) reduced))))

      known : Known O forwards (difference p e (element_of O next ++ ([] ++ parts_value O parts)))
      known =
          Known-alike O forwards
          (SameWeights-trans (summed_same p e (element_of O sum) (element_of O vector) (parts_value O parts) tracing.word coefficient positive)
          (SameWeights-difference (SameWeights-refl p e) (SameWeights-append element_is (SameWeights-refl p ([] ++ parts_value O parts)))))
          (Known-append O forwards tracing.so_far.known (Known-scaled O forwards coefficient tracing.traced))

  -- repairs

  repaired_right : (sum : Row) (coefficient : ℕ) (parts : List Part) (vector next : Row) (left : List ℕ) (founds : List Found)
      → IsTracing O forwards e sum coefficient parts vector left (read_ids founds) → IsReducedOf ◌<◌ nat_eq p next (repaired founds vector)
      → IsTracing O forwards e sum coefficient parts next left unread
  repaired_right sum coefficient parts vector next left founds tracing reduced = record {
    word = tracing.word;
    traced = known_on O forwards (unit tracing.word) (element_of O vector) (element_of O next) positive tracing.traced
        (known_forwarded O forwards vector next (reduced_forwarding p forwards vector (repaired founds vector) next reduced (repaired_forwarding O forwards positive left vector founds tracing.read)));
    ids = reduced_keys (IsIdUpTo O tracing.word) p next (repaired founds vector) reduced
        (repaired_ids O forwards positive (IsIdUpTo O tracing.word) lower left vector founds tracing.read tracing.ids);
    letters = tracing.letters;
    within = tracing.within;
    so_far = tracing.so_far;
    read = tt;
  }
    where
      lower : (b : ℕ) (f : Row) → IsIdUpTo O tracing.word b → HasForward forwards b f → All (λ s. IsIdUpTo O tracing.word s.0) f
      lower b f fits dead =
          All-weaker (λ (s : ℕ × ℕ). s.0 < b) (λ (s : ℕ × ℕ). IsIdUpTo O tracing.word s.0)
          (λ s less. let fit = ids_below O forwards rows sound now b s.0 less fits.0 in (fit.0, omega (arith, fit.1, fits.1))) f
          (are_falling T (forwarded_sound O forwards rows sound now) b f dead)

  summed_repaired : (vector next : Row) (founds : List Found) → IsSummed O forwards e vector (read_ids founds) → IsReducedOf ◌<◌ nat_eq p next (repaired founds vector) → IsSummed O forwards e next unread
  summed_repaired vector next founds summed reduced = record {
    vector_on = (reduced.reduced, reduced_keys IsPlace p next (repaired founds vector) reduced (repaired_ids O forwards positive IsPlace lower [] vector founds summed.read summed.vector_on.1));
    known = known_on O forwards e (element_of O vector) (element_of O next) positive summed.known
        (known_forwarded O forwards vector next (reduced_forwarding p forwards vector (repaired founds vector) next reduced (repaired_forwarding O forwards positive [] vector founds summed.read)));
    read = tt;
  }
    where
      lower : (b : ℕ) (f : Row) → IsPlace b → HasForward forwards b f → All (λ s. IsPlace s.0) f
      lower b f within dead =
          All-weaker (λ (s : ℕ × ℕ). s.0 < b) (λ (s : ℕ × ℕ). IsPlace s.0) (λ s less. omega (arith, less, within)) f
          (are_falling T (forwarded_sound O forwards rows sound now) b f dead)

  -- what seats do in their hands

  pub repairs_right : (hand next : Hand) → Repairs p hand next → IsHandOfElement O forwards e hand → IsHandOfElement O forwards e next
  repairs_right hand next (repairs_part sum coefficient parts vector after left founds some reduced) right = repaired_right sum coefficient parts vector after left founds right reduced
  repairs_right hand next (repairs_sum vector after founds some reduced) right = summed_repaired vector after founds right reduced

  pub applies_right : (hand next : Hand) → Applies p hand next → IsHandOfElement O forwards e hand → IsHandOfElement O forwards e next
  applies_right hand next (begins_image sum part parts image) right = begun_right sum part parts image right.so_far right.here part.beginning refl right.read
  applies_right hand next (begins_forward sum after vector part parts row forward first second) right = absurd (no_forward part.beginning right.read)
    where
      no_forward : (beginning : Beginning) → IsReadBefore O beginning (read_forward row forward) → ⊥
      no_forward (from_id b) is = is
      no_forward (from_image i) is = is
      no_forward (from_forward b x) is = is
  applies_right hand next (multiplies sum coefficient parts vector after x left founds rows_found reduced) right =
      multiplied_right sum coefficient parts vector after x left founds right rows_found reduced
  applies_right hand next (sums sum after coefficient parts vector reading reduced) right = summed_right sum after coefficient parts vector reading right reduced
