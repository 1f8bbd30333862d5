-- The hand of a relator or a submodule relation: taken, read for, and kept where ids die.
use Rattle.std.proofs.Common.{◌≡◌, ℕ, ◌<◌, ◌≤◌, List, [], ◌∷◌, ◌++◌, length, map, All, refl, sym, ap, ap₂, subst, arith}
use Rattle.std.specs.Prelude.{Option, slice_index_or}
use Rattle.std.proofs.lemmas.List.Elements.{All-map, All-nil, All-weaker}
use Rattle.ve_theory.specs.Combinations.{IsReduced, difference, extended, unit}
use Rattle.ve_theory.specs.Words.{Word, letters, letters_weight, spelled_back, start, times_all}
use Rattle.ve_theory.specs.Elements.{AlgebraElement, Element, word_times}
use Rattle.ve_theory.specs.Presentations.{Presentation, reach, relator, relator_reach, submodule_relation}
use Rattle.ve_theory.specs.Answers.{Row}
use Rattle.ve_theory.proofs.Sums.{SameWeights, SameWeights-refl, SameWeights-sym, difference_vanishes}
use Rattle.ve_theory.proofs.DerivationTrees.{All-greatest}
use Rattle.ve_theory.proofs.RelatorReaches.{reach-times_all}
use Rattle.ve_table.specs.Tables.{ActionTable, element_of, presented, word_at}
use Rattle.ve_table.specs.Sound.{IsSound}
use Rattle.ve_machine.specs.Forwards.{Forwards}
use Rattle.ve_machine.specs.Jobs.{IsUnderWay, relator_value, submodule_value}
use Rattle.ve_machine.specs.Seats.{State, present, relator_job, submodule_job}
use Rattle.ve_machine.specs.SharedJobs.{IsOfLevel}
use Rattle.ve_machine.specs.SharedLaws.{KeepsKnown}
use Rattle.ve_machine.specs.Hands.{Beginning, Hand, Part, beginning_hand, empty_hand, from_forward, from_id, from_image, next_hand, parts_of, summed_hand, tracing_hand}
use Rattle.ve_machine.specs.HandSteps.{read_for, read_hand}
use Rattle.ve_machine.specs.RightHands.{HasBeginning, IsHandOfElement, IsPart, IsReadBefore, IsSumSoFar, parts_value}
use Rattle.ve_machine.proofs.Forwardings.{positive_prime}
use Rattle.ve_machine.proofs.KnownElements.{Known-alike, Known-nothing}
use Rattle.ve_machine.proofs.RelatorLetters.{relator_letters}
use Rattle.ve_machine.proofs.FoundVectors.{found_right, read_kept}
use Rattle.ve_machine.proofs.ElementHands.{next_right}

-- parts of jobs

relator_part : ℕ → List ℕ × ℕ → Part
relator_part b t = record { beginning = from_id b; letters = t.0; coefficient = t.1 }

relation_part : Word × ℕ → Part
relation_part t = record { beginning = from_image (start t.0); letters = letters t.0; coefficient = t.1 }

relator_parts : (O : ActionTable) (b : ℕ) (r : AlgebraElement) → parts_value O (map (relator_part b) r) ≡ word_times (word_at O b) r
unfolding relator_part word_times
relator_parts O b [] = refl
relator_parts O b (t ∷ r) = ap (λ v. (times_all (word_at O b) t.0, t.1) ∷ v) (relator_parts O b r)

relation_parts : (O : ActionTable) (q : Element) → parts_value O (map relation_part q) ≡ q
unfolding relation_part
relation_parts O [] = refl
relation_parts O (t ∷ q) = ap₂ (λ w v. (w, t.1) ∷ v) (spelled_back t.0) (relation_parts O q)

module _ (O : ActionTable) (forwards : Forwards) (rows : List (List (Option Row))) (sound : IsSound O) (now : IsSound (record O { forwards = forwards; rows = rows })) where
  abbrev P : Presentation
  P = presented O

  abbrev p : ℕ
  p = P.prime

  all_to_sum : (e : Element) (parts : List Part) → parts_value O parts ≡ e → All (IsPart O) parts → IsHandOfElement O forwards e (next_hand [] parts)
  unfolding IsReduced extended
  all_to_sum e parts is can =
      next_right O forwards rows sound now e [] parts
      (record {
        ids = All-nil (λ (t : ℕ × ℕ). t.0 < length O.words);
        known = Known-alike O forwards
            (SameWeights-sym (subst (λ v. SameWeights p (difference p e v) []) (sym is) (difference_vanishes p e e (positive_prime O sound) (SameWeights-refl p e))))
            (Known-nothing O forwards);
        can_trace = can;
      })
      (tt, All-nil (λ (t : ℕ × ℕ). t.0 < length O.words))

  pub relator_taken : (b number : ℕ) → IsOfLevel O forwards (relator_job b number) → IsHandOfElement O forwards (relator_value O b number) (next_hand [] (parts_of O (relator_job b number)))
  unfolding relator_part
  relator_taken b number level =
      all_to_sum (relator_value O b number) (parts_of O (relator_job b number)) (relator_parts O b (relator P number))
      (All-map (IsPart O) (relator_part b) (relator P number)
      (λ k d l.
      let u : List ℕ = (slice_index_or (relator P number) k d).0 in record {
        there = level.0;
        letters = relator_letters P sound.valid.presentation number level.1 k d l;
        within = omega (
          arith,
          reach-times_all P (word_at O b) u,
          All-greatest (letters_weight P.weights) (relator P number) (relator_reach P (relator P number)) (omega arith) k d l,
          level.2,
        );
      }))

  pub submodule_taken : (number : ℕ) → IsOfLevel O forwards (submodule_job number) → IsHandOfElement O forwards (submodule_value O number) (next_hand [] (parts_of O (submodule_job number)))
  unfolding relation_part
  submodule_taken number level =
      all_to_sum (submodule_value O number) (parts_of O (submodule_job number)) (relation_parts O (submodule_relation P number))
      (All-map (IsPart O) relation_part (submodule_relation P number)
      (λ k d l.
      let w : Word = (slice_index_or (submodule_relation P number) k d).0 in
      let is_word = (sound.valid.presentation.submodule number [] level.is_relation).1 k d l in record {
        there = is_word.0;
        letters = is_word.1;
        within = subst (λ u. reach P u ≤ O.level) (sym (spelled_back w)) (All-greatest (reach P) (submodule_relation P number) O.level (omega (arith, level.due)) k d l);
      }))

-- what is read for a beginning
read_before : (S : State) (beginning : Beginning) → HasBeginning S.opening beginning → IsReadBefore S.opening beginning (read_for S beginning)
read_before S (from_id b) there = tt
read_before S (from_image i) there = refl
read_before S (from_forward b x) there = absurd there

pub element_read : (S : State) → IsSound S.opening → IsUnderWay S.opening (present S) → length S.forwards ≡ length S.opening.words → (e : Element) (hand : Hand)
    → IsHandOfElement S.opening S.forwards e hand → IsHandOfElement S.opening S.forwards e (read_hand S hand)
element_read S sound under count e empty_hand right = absurd right
element_read S sound under count e (beginning_hand sum part parts reading) right = record { so_far = right.so_far; here = right.here; read = read_before S part.beginning right.here.there }
element_read S sound under count e (tracing_hand sum coefficient parts vector left reading) right = record {
  word = right.word;
  traced = right.traced;
  ids = right.ids;
  letters = right.letters;
  within = right.within;
  so_far = right.so_far;
  read = found_right S sound under left vector
      (All-weaker (λ (t : ℕ × ℕ). (t.0 < length S.opening.words) × (reach (presented S.opening) (word_at S.opening t.0) ≤ reach (presented S.opening) right.word)) (λ (t : ℕ × ℕ). t.0 < length S.forwards)
      (λ t is. omega (arith, is.0, count)) vector right.ids);
}
element_read S sound under count e (summed_hand vector reading) right = record {
  vector_on = right.vector_on;
  known = right.known;
  read = found_right S sound under [] vector
      (All-weaker (λ (t : ℕ × ℕ). t.0 < length S.opening.words) (λ (t : ℕ × ℕ). t.0 < length S.forwards) (λ t is. omega (arith, is, count)) vector right.vector_on.1);
}

module _ (O : ActionTable) (old new : Forwards) (keeps : KeepsKnown O old new) (e : Element) where
  sum_kept : (sum : Row) (rest : Element) (parts : List Part) → IsSumSoFar O old e sum rest parts → IsSumSoFar O new e sum rest parts
  sum_kept sum rest parts so_far = record { ids = so_far.ids; known = keeps.known (difference (presented O).prime e (element_of O sum ++ (rest ++ parts_value O parts))) so_far.known; can_trace = so_far.can_trace }

  pub element_kept : (hand : Hand) → IsHandOfElement O old e hand → IsHandOfElement O new e hand
  element_kept empty_hand right = absurd right
  element_kept (beginning_hand sum part parts reading) right = record { so_far = sum_kept sum _ parts right.so_far; here = right.here; read = right.read }
  element_kept (tracing_hand sum coefficient parts vector left reading) right = record {
    word = right.word;
    traced = keeps.known (difference (presented O).prime (unit right.word) (element_of O vector)) right.traced;
    ids = right.ids;
    letters = right.letters;
    within = right.within;
    so_far = sum_kept sum _ parts right.so_far;
    read = read_kept O old new keeps left vector reading right.read;
  }
  element_kept (summed_hand vector reading) right = record {
    vector_on = right.vector_on;
    known = keeps.known (difference (presented O).prime e (element_of O vector)) right.known;
    read = read_kept O old new keeps [] vector reading right.read;
  }
