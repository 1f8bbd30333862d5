-- What is known is derived within the level, and so are the values of jobs, and the vectors that come from them.
use Rattle.std.proofs.Common.{◌≡◌, ℕ, ◌+◌, ◌-◌, ◌*◌, ◌<◌, ◌≤◌, ◌⊎◌, inl, inr, nat_eq, List, [], ◌++◌, length, All, refl, sym, ap₂, subst, ◌∙◌, arith}
use Rattle.std.specs.Prelude.{Option}
use Rattle.std.proofs.lemmas.Bool.{cases_lt}
use Rattle.std.proofs.lemmas.List.Elements.{All-weaker}
use Rattle.ve_theory.specs.Combinations.{Combination, difference, scaled, unit}
use Rattle.ve_theory.specs.Words.{generator, same_word, times}
use Rattle.ve_theory.specs.Elements.{Element}
use Rattle.ve_theory.specs.Presentations.{Presentation, reach}
use Rattle.ve_theory.specs.Derivations.{DerivedWithin}
use Rattle.ve_theory.specs.Answers.{Row}
use Rattle.ve_theory.specs.Laws.{LevelsAreClosed}
use Rattle.ve_theory.proofs.Sums.{SameWeights, SameWeights-append, SameWeights-difference, SameWeights-extended, SameWeights-refl, SameWeights-sym, SameWeights-trans, SameWeights_of, Decides-nat_eq, Decides-same_word, difference-nil, extended-append, extended-difference, extended-scaled, extended-unit, weigh, weigh-append, weigh-difference, weigh-scaled, weights_from_Alike}
use Rattle.ve_theory.proofs.DerivedElements.{DerivedWithin-alike, DerivedWithin-combined, DerivedWithin-times, SameWeights-equal}
use Rattle.ve_theory.proofs.UniqueAnswers.{difference_of_differences}
use Rattle.ve_theory.proofs.Orders.{before_reach, reach-times}
use Rattle.ve_vec.specs.Tracing.{row_or_zero, vector_times}
use Rattle.ve_table.specs.Tables.{ActionTable, element_of, presented, row_at, word_at}
use Rattle.ve_table.specs.Sound.{IsSound}
use Rattle.ve_table.proofs.Entries.{same_some}
use Rattle.ve_machine.specs.Forwards.{Forwards, stand_in}
use Rattle.ve_machine.specs.Known.{Known, by_image, by_row, multiplied}
use Rattle.ve_machine.specs.Jobs.{IsImageJob, IsKnownBelow, IsUnderWay, by_lower, image_value}
use Rattle.ve_machine.specs.Jobs as Jobs
use Rattle.ve_machine.specs.Seats.{Job, image_job, relator_job, submodule_job}
use Rattle.ve_machine.specs.SharedJobs.{ComesFrom, IsOfLevel}
use Rattle.ve_machine.proofs.Forwardings.{are_falling, id_less_stand_in, nothing_forwarded, positive_prime, stands_below}
use Rattle.ve_machine.proofs.KnownElements.{Known-alike, Known-difference, known_forwarded}
use Rattle.ve_machine.proofs.ResolvedVectors.{forwarding_derived}
use Rattle.ve_machine.proofs.RowsAtWork.{product_known}
use Rattle.ve_machine.proofs.Tracing.{IsIdUpTo, IsTraced, next_traced}

-- differences

differences_apart : {K : Type 0} (p : ℕ) (u v w : Combination K) → 0 < p → SameWeights p (difference p (difference p u w) (difference p u v)) (difference p v w)
differences_apart {K} p u v w positive =
    SameWeights-trans (SameWeights-equal (λ h. weigh-difference h p (difference p u w) (difference p u v) ∙ in_turn ((p - 1) * weigh h (difference p u v)) (weigh h (difference p u w)) ∙ sym (turned h)))
    (difference_of_differences p u v w positive)
  where
    in_turn : (a b : ℕ) → b + a ≡ a + 1 * b
    in_turn a b = omega arith

    turned : (h : K → ℕ) → weigh h (scaled (p - 1) (difference p u v) ++ scaled 1 (difference p u w)) ≡ (p - 1) * weigh h (difference p u v) + 1 * weigh h (difference p u w)
    turned h =
        weigh-append h (scaled (p - 1) (difference p u v)) (scaled 1 (difference p u w))
        ∙ ap₂ (λ a b. a + b) (weigh-scaled h (p - 1) (difference p u v)) (weigh-scaled h 1 (difference p u w))

-- what is left of a derived element less a derived one
pub derived_rest : (P : Presentation) (k : ℕ) (u v : Element) → 0 < P.prime → DerivedWithin P k u → DerivedWithin P k (difference P.prime u v) → DerivedWithin P k v
derived_rest P k u v positive one other =
    DerivedWithin-alike P k (SameWeights-trans (difference_of_differences P.prime u v [] positive) (difference-nil P.prime v))
    (DerivedWithin-combined P k (P.prime - 1) 1 other (DerivedWithin-alike P k (SameWeights-sym (difference-nil P.prime u)) one))

-- a table whose forwards, and rows, are those of a sound one with the same words
module _ (O : ActionTable) (forwards : Forwards) (rows : List (List (Option Row))) (sound : IsSound O) (now : IsSound (record O { forwards = forwards; rows = rows })) where
  abbrev P : Presentation
  P = presented O

  abbrev p : ℕ
  p = P.prime

  positive : 0 < p
  positive = positive_prime O sound

  abbrev pub forwarded : ActionTable
  forwarded = record O { forwards = forwards }

  pub forwarded_sound : IsSound forwarded
  forwarded_sound = record {
    valid = sound.valid;
    words = sound.words;
    rising = sound.rising;
    prefixes = sound.prefixes;
    one_forward_each = now.one_forward_each;
    one_row_list_each = sound.one_row_list_each;
    one_place_each = sound.one_place_each;
    one_image_each = sound.one_image_each;
    forwards = λ b v is. let one = now.forwards b v is in record { stands = record { row = one.stands.row; derived = one.stands.derived }; below = one.below };
    due = sound.due;
    rows = λ b x v is. let one = sound.rows b x v is in record { stands = record { row = one.stands.row; derived = one.stands.derived }; not_after = one.not_after };
    images = λ i v is. let one = sound.images i v is in record { stands = record { row = one.stands.row; derived = one.stands.derived }; not_after = one.not_after };
  }

  pub forwarded_under_way : IsUnderWay O forwarded
  forwarded_under_way = record {
    draft = refl;
    level = refl;
    words = refl;
    images = refl;
    sound = forwarded_sound;
    rows = λ b x u v is also. nothing_forwarded p forwards u v positive (SameWeights_of (same_some u v (sym is ∙ also)));
  }

  -- what is known

  pub known_derived : {v : Element} → Known O forwards v → DerivedWithin P O.level v
  known_derived (Known.by_forwards v forwarding) = forwarding_derived forwarded forwarded_sound v forwarding
  known_derived (by_row b x v is) = (sound.rows b x v is).stands.derived
  known_derived (by_image i v is) = (sound.images i v is).stands.derived
  known_derived (Known.alike u v same known) = DerivedWithin-alike P O.level (weights_from_Alike same_word Decides-same_word p u v same) (known_derived known)
  known_derived (Known.combined c d u v one other) = DerivedWithin-combined P O.level c d (known_derived one) (known_derived other)
  known_derived (multiplied v x letter within known) = DerivedWithin-times P O.level x letter within (known_derived known)

  -- the values of image jobs

  -- a lower id reaches no further
  pub ids_below : (b c : ℕ) → c < b → b < length O.words → (c < length O.words) × (reach P (word_at O c) ≤ reach P (word_at O b))
  ids_below b c less known = (omega (arith, less, known), before_reach P (word_at O c) (word_at O b) (sound.rising c b (generator 0) less known))

  pub stand_in_up_to : (b : ℕ) → b < length O.words → All (λ t. IsIdUpTo O (word_at O b) t.0) (stand_in forwards b)
  stand_in_up_to b known =
      All-weaker (λ (t : ℕ × ℕ). t.0 ≤ b) (λ (t : ℕ × ℕ). IsIdUpTo O (word_at O b) t.0) (λ t le. lower t.0 le (cases_lt t.0 b)) (stand_in forwards b)
      (stands_below forwards (are_falling forwarded forwarded_sound) b)
    where
      lower : (c : ℕ) → c ≤ b → (c < b) ⊎ (b ≤ c) → IsIdUpTo O (word_at O b) c
      lower c le (inl less) = ids_below b c less known
      lower c le (inr past) = let same : c ≡ b = omega (arith, le, past) in subst (λ n. IsIdUpTo O (word_at O b) n) (sym same) (known, omega arith)

  stand_in_traced : (b : ℕ) → b < length O.words → IsTraced O forwards (word_at O b) (stand_in forwards b)
  stand_in_traced b known = record {
    known = Known-alike O forwards (SameWeights-difference (extended-unit p (λ j. unit (word_at O j)) b) (SameWeights-refl p (element_of O (stand_in forwards b))))
        (known_forwarded O forwards (unit b) (stand_in forwards b) (id_less_stand_in p forwards b));
    ids = stand_in_up_to b known;
  }

  image_known : (b x : ℕ) → IsImageJob O forwards b x → Known O forwards (element_of O (image_value O forwards b x))
  image_known b x job =
      let within : reach P (times (word_at O b) x) ≤ O.level = omega (arith, reach-times P (word_at O b) x, job.due.2) in
      Known-alike O forwards
      (SameWeights-trans
      (differences_apart p (unit (times (word_at O b) x)) (element_of O (row_or_zero (row_at O) x b)) (element_of O (vector_times (row_at O) (stand_in forwards b) x)) positive)
      (SameWeights-sym (extended-difference p (λ j. unit (word_at O j)) (row_or_zero (row_at O) x b) (vector_times (row_at O) (stand_in forwards b) x))))
      (Known-difference O forwards
      (next_traced O forwarded sound forwarded_under_way (word_at O b) (stand_in forwards b) x job.due.1 within (stand_in_traced b job.due.0)).known
      (product_known O forwarded sound forwarded_under_way x b job.due))

  below_known : (b x : ℕ) {v : Row} → IsKnownBelow O forwards b x v → Known O forwards (element_of O v)
  below_known b x (Jobs.by_forwards v forwarding) = Known.by_forwards v forwarding
  below_known b x (by_lower c less job) = image_known c x job
  below_known b x (Jobs.alike u v same known) = Known-alike O forwards (SameWeights-extended (λ j. unit (word_at O j)) (weights_from_Alike nat_eq Decides-nat_eq p u v same)) (below_known b x known)
  below_known b x (Jobs.combined c d u v one other) =
      Known-alike O forwards
      (SameWeights-sym (SameWeights-trans (SameWeights_of (extended-append (λ j. unit (word_at O j)) (scaled c u) (scaled d v)))
      (SameWeights-append (extended-scaled p (λ j. unit (word_at O j)) c u) (extended-scaled p (λ j. unit (word_at O j)) d v))))
      (Known.combined c d (element_of O u) (element_of O v) (below_known b x one) (below_known b x other))

  -- what comes from a job
  pub coming_derived : LevelsAreClosed → (job : Job) (v : Row) → IsOfLevel O forwards job → ComesFrom O forwards job v → DerivedWithin P O.level (element_of O v)
  coming_derived closed (relator_job b number) v level comes =
      derived_rest P O.level _ (element_of O v) positive
      ((closed P O.level).by_relators (word_at O b) number (sound.words b (generator 0) level.0).0 level.1 (omega (arith, level.2))) (known_derived comes)
  coming_derived closed (submodule_job number) v level comes =
      derived_rest P O.level _ (element_of O v) positive ((closed P O.level).by_submodule number level.is_relation (omega (arith, level.due))) (known_derived comes)
  coming_derived closed (image_job b x) v level comes =
      derived_rest P O.level (element_of O (image_value O forwards b x)) (element_of O v) positive (known_derived (image_known b x level))
      (DerivedWithin-alike P O.level (extended-difference p (λ j. unit (word_at O j)) (image_value O forwards b x) v) (known_derived (below_known b x comes)))
