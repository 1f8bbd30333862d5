-- What is traced along rows that were read comes from the job.
use Rattle.std.proofs.Common.{ℕ, ◌+◌, ◌<◌, ◌≤◌, nat_eq, List, [], ◌∷◌, length, All, refl, sym, subst, arith}
use Rattle.std.specs.Prelude.{Option, slice_index_or}
use Rattle.std.proofs.lemmas.List.Elements.{All-head, All-tail, All-weaker}
use Rattle.ve_theory.specs.Combinations.{Combination, difference, extended, unit}
use Rattle.ve_theory.specs.Words.{Word, generator, letters, letters_weight, spelled_back, start, times, times_all}
use Rattle.ve_theory.specs.Elements.{Element}
use Rattle.ve_theory.specs.Presentations.{HasLetters, IsWord, Presentation, letter_count, reach, relator, relator_reach, step, submodule_relation}
use Rattle.ve_theory.specs.Answers.{Row}
use Rattle.ve_theory.proofs.Sums.{SameWeights, SameWeights-difference, SameWeights-extended, SameWeights-refl, SameWeights-sym, SameWeights-trans, Decides-nat_eq, differences-extended, extended-by_units, extended-extended, weights_from_Alike}
use Rattle.ve_theory.proofs.Remainders.{All-extended}
use Rattle.ve_theory.proofs.DerivationTrees.{All-greatest}
use Rattle.ve_theory.proofs.Orders.{reach-times}
use Rattle.ve_theory.proofs.RelatorReaches.{reach-times_all}
use Rattle.ve_vec.specs.Tracing.{PartialTable, row_or_zero, vector_of, vector_of_word, vector_times, vector_times_element, vector_times_letters}
use Rattle.ve_table.specs.Tables.{ActionTable, IsDue, element_of, presented, row_at, word_at}
use Rattle.ve_table.specs.Sound.{IsSound}
use Rattle.ve_machine.specs.Forwards.{Forwards, IsForwarding, stand_in}
use Rattle.ve_machine.specs.Known.{Known}
use Rattle.ve_machine.specs.Jobs.{IsImageJob, IsUnderWay, by_forwards, image_value, relator_value, submodule_value}
use Rattle.ve_machine.specs.Seats.{image_job, present, relator_job, submodule_job}
use Rattle.ve_machine.specs.SharedJobs.{ComesFrom, IsOfLevel}
use Rattle.ve_machine.specs.Readings.{AreReadRows, ReadingsLast, ReadingsTrace}
use Rattle.ve_machine.proofs.Forwardings.{IsForwarding-alike, IsForwarding-extended, IsForwarding-difference, positive_prime}
use Rattle.ve_machine.proofs.KnownElements.{Known-alike, Known-extended, known_forwarded, known_on}
use Rattle.ve_machine.proofs.RelatorLetters.{relator_letters}
use Rattle.ve_machine.proofs.RowsAtWork.{differences_crossed, product_ids, rows_forwarded}
use Rattle.ve_machine.proofs.Tracing.{IsIdUpTo, IsTraced, id_traced, image_traced, next_traced, times_all-extended}
use Rattle.ve_machine.proofs.KeptKnown.{comes_kept}
use Rattle.ve_machine.proofs.DerivedComings.{forwarded, forwarded_under_way, stand_in_up_to}

module _ (O : ActionTable) (forwards : Forwards) (rows : List (List (Option Row))) (sound : IsSound O) (now : IsSound (record O { forwards = forwards; rows = rows })) (read : PartialTable) (are : AreReadRows O forwards read) where
  abbrev P : Presentation
  P = presented O

  abbrev p : ℕ
  p = P.prime

  positive : 0 < p
  positive = positive_prime O sound

  abbrev T : ActionTable
  T = forwarded O forwards rows sound now

  under : IsUnderWay O T
  under = forwarded_under_way O forwards rows sound now

  abbrev R : ℕ → ℕ → Row
  R x b = row_or_zero read x b

  -- a letter

  due_id : (w : Word) (x b : ℕ) → x < letter_count P → reach P (times w x) ≤ O.level → IsIdUpTo O w b → IsDue O b x
  due_id w x b letter within fits = (fits.0, letter, omega (arith, fits.1, reach-times P w x, within))

  products_forwarded : (v : Row) (x : ℕ) → All (λ t. IsDue O t.0 x) v → IsForwarding p forwards (difference p (vector_times (row_at O) v x) (vector_times read v x))
  products_forwarded v x all =
      IsForwarding-alike p forwards (differences-extended p (row_or_zero (row_at O) x) (R x) v)
      (IsForwarding-extended p forwards (λ b. difference p (row_or_zero (row_at O) x b) (R x b)) v
      (All-weaker (λ (t : ℕ × ℕ). IsDue O t.0 x) (λ (t : ℕ × ℕ). IsForwarding p forwards (difference p (row_or_zero (row_at O) x t.0) (R x t.0))) (λ t is. (are t.0 x is).same) v all))

  next_read : (w : Word) (v : Row) (x : ℕ) → x < letter_count P → reach P (times w x) ≤ O.level → IsTraced O forwards w v → IsTraced O forwards (times w x) (vector_times read v x)
  next_read w v x letter within traced =
      let each_due : All (λ (t : ℕ × ℕ). IsDue O t.0 x) v =
      All-weaker (λ (t : ℕ × ℕ). IsIdUpTo O w t.0) (λ (t : ℕ × ℕ). IsDue O t.0 x) (λ t fit. due_id w x t.0 letter within fit) v traced.ids in record {
        known = known_on O forwards (unit (times w x)) (element_of O (vector_times (row_at O) v x)) (element_of O (vector_times read v x)) positive
            (next_traced O T sound under w v x letter within traced).known
            (known_forwarded O forwards (vector_times (row_at O) v x) (vector_times read v x) (products_forwarded v x each_due));
        ids = All-extended (λ b. IsIdUpTo O (times w x) b) (R x) v
            (All-weaker (λ (t : ℕ × ℕ). IsIdUpTo O w t.0) (λ (t : ℕ × ℕ). All (λ (s : ℕ × ℕ). IsIdUpTo O (times w x) s.0) (R x t.0))
            (λ t fit.
            All-weaker (λ (s : ℕ × ℕ). (s.0 < length O.words) × (reach P (word_at O s.0) ≤ reach P (word_at O t.0) + step P x)) (λ (s : ℕ × ℕ). IsIdUpTo O (times w x) s.0)
            (λ s is. (is.0, omega (arith, is.1, fit.1, reach-times P w x))) (R x t.0) (are t.0 x (due_id w x t.0 letter within fit)).ids)
            v traced.ids);
      }

  letters_read : (w : Word) (v : Row) (u : List ℕ) → HasLetters P u → reach P (times_all w u) ≤ O.level → IsTraced O forwards w v → IsTraced O forwards (times_all w u) (vector_times_letters read v u)
  unfolding times_all vector_times_letters
  letters_read w v [] has within traced = traced
  letters_read w v (x ∷ u) has within traced =
      letters_read (times w x) (vector_times read v x) u (All-tail (λ y. y < letter_count P) x u has) within
      (next_read w v x (All-head (λ y. y < letter_count P) x u has) (omega (arith, reach-times_all P (times w x) u, within)) traced)

  word_read : (w : Word) → IsWord P w → reach P w ≤ O.level → IsTraced O forwards w (vector_of_word read O.images w)
  word_read w is_word within =
      subst (λ u. IsTraced O forwards u (vector_of_word read O.images w)) (spelled_back w)
      (letters_read (generator (start w)) (slice_index_or O.images (start w) []) (letters w) is_word.1 (subst (λ u. reach P u ≤ O.level) (sym (spelled_back w)) within)
      (image_traced O T sound under (start w) is_word.0))

  -- sums

  sum_read : {K : Type 0} (f : K → Word) (g : K → Row) (r : Combination K) (e : Element) (v : Row) → All (λ t. IsTraced O forwards (f t.0) (g t.0)) r
      → SameWeights p (extended (λ k. unit (f k)) r) e → SameWeights p v (extended g r) → Known O forwards (difference p e (element_of O v))
  sum_read {K} f g r e v traced e_is v_is =
      Known-alike O forwards
      (SameWeights-trans (differences-extended p (λ k. unit (f k)) (λ k. element_of O (g k)) r)
      (SameWeights-difference e_is
      (SameWeights-trans (SameWeights-sym (extended-extended p (λ b. unit (word_at O b)) g r)) (SameWeights-extended (λ b. unit (word_at O b)) (SameWeights-sym v_is)))))
      (Known-extended O forwards (λ k. difference p (unit (f k)) (element_of O (g k))) r
      (All-weaker (λ (t : K × ℕ). IsTraced O forwards (f t.0) (g t.0)) (λ (t : K × ℕ). Known O forwards (difference p (unit (f t.0)) (element_of O (g t.0)))) (λ t is. is.known) r traced))

  relator_read : (b number : ℕ) (v : Row) → IsOfLevel O forwards (relator_job b number) → SameWeights p v (vector_times_element read (unit b) (relator P number)) → ComesFrom O forwards (relator_job b number) v
  relator_read b number v level same =
      sum_read (times_all (word_at O b)) (vector_times_letters read (unit b)) (relator P number) (relator_value O b number) v
      (λ k d l.
      let u : List ℕ = (slice_index_or (relator P number) k d).0 in
      letters_read (word_at O b) (unit b) u (relator_letters P sound.valid.presentation number level.1 k d l)
      (omega (arith, reach-times_all P (word_at O b) u, All-greatest (letters_weight P.weights) (relator P number) (relator_reach P (relator P number)) (omega arith) k d l, level.2))
      (id_traced O T sound under b level.0))
      (times_all-extended O T sound under (word_at O b) (relator P number)) same

  submodule_read : (number : ℕ) (v : Row) → IsOfLevel O forwards (submodule_job number) → SameWeights p v (vector_of read O.images (submodule_relation P number)) → ComesFrom O forwards (submodule_job number) v
  submodule_read number v level same =
      sum_read (λ w. w) (vector_of_word read O.images) (submodule_relation P number) (submodule_value O number) v
      (λ k d l.
      word_read (slice_index_or (submodule_relation P number) k d).0 ((sound.valid.presentation.submodule number [] level.is_relation).1 k d l)
      (All-greatest (reach P) (submodule_relation P number) O.level (omega (arith, level.due)) k d l))
      (extended-by_units p (submodule_relation P number)) same

  -- image jobs

  image_come : (b x : ℕ) (v : Row) → IsImageJob O forwards b x → SameWeights p v (difference p (R x b) (vector_times read (stand_in forwards b) x)) → ComesFrom O forwards (image_job b x) v
  image_come b x v job same =
      by_forwards (difference p (image_value O forwards b x) v)
      (IsForwarding-alike p forwards
      (SameWeights-trans (differences_crossed p (row_or_zero (row_at O) x b) (R x b) (vector_times (row_at O) f x) (vector_times read f x))
      (SameWeights-difference (SameWeights-refl p (image_value O forwards b x)) (SameWeights-sym same)))
      (IsForwarding-difference p forwards (are b x job.due).same (products_forwarded f x each_due)))
    where
      f : Row
      f = stand_in forwards b

      each_due : All (λ (t : ℕ × ℕ). IsDue O t.0 x) (stand_in forwards b)
      each_due =
          All-weaker (λ (t : ℕ × ℕ). IsIdUpTo O (word_at O b) t.0) (λ (t : ℕ × ℕ). IsDue O t.0 x) (λ t fit. (fit.0, job.due.1, omega (arith, fit.1, job.due.2))) (stand_in forwards b)
          (stand_in_up_to O forwards rows sound now b job.due.0)

pub readings_trace : ReadingsTrace
readings_trace S read sound are = record {
  relators = λ b number v level same.
      relator_read S.opening S.forwards S.rows sound.opening sound.table read are b number v level
      (weights_from_Alike nat_eq Decides-nat_eq (presented S.opening).prime v (vector_times_element read (unit b) (relator (presented S.opening) number)) same);
  submodule = λ number v level same.
      submodule_read S.opening S.forwards S.rows sound.opening sound.table read are number v level
      (weights_from_Alike nat_eq Decides-nat_eq (presented S.opening).prime v (vector_of read S.opening.images (submodule_relation (presented S.opening) number)) same);
  images = λ b x v job same.
      image_come S.opening S.forwards S.rows sound.opening sound.table read are b x v job
      (weights_from_Alike nat_eq Decides-nat_eq (presented S.opening).prime v (difference (presented S.opening).prime (row_or_zero read x b) (vector_times read (stand_in S.forwards b) x)) same);
}

pub readings_last : ReadingsLast
readings_last = record {
  of_table = λ S b x sound covered.
      let under : IsUnderWay S.opening (present S) = record { draft = refl; level = refl; words = refl; images = refl; sound = sound.table; rows = covered.rows } in
      record { same = rows_forwarded S.opening (present S) sound.opening under x b; ids = product_ids S.opening (present S) sound.opening under x b };
  later = λ O old new b x row keeps is. record { same = keeps.forwardings (difference (presented O).prime (row_or_zero (row_at O) x b) row) is.same; ids = is.ids };
  comings = λ O old new job v keeps level comes. comes_kept O old new keeps job v level comes;
}
