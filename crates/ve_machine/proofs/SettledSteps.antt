-- Where nothing is left to do, letters act on the resolved forms of all ids, dead ones too, as they act on live ids. So what is
-- known evaluates to zero.
use Rattle.std.proofs.Common.{◌≡◌, ℕ, zero, suc, ◌<◌, nat_eq, Some, None, List, [], ◌++◌, length, All, refl, sym, ap, subst, ◌∙◌, arith}
use Rattle.std.specs.Prelude.{Option, IsSome, slice_get, slice_index_or, unwrap_or}
use Rattle.std.proofs.lemmas.Option.{none-some, slice_get-get_or, slice_get_within}
use Rattle.std.proofs.lemmas.List.Elements.{All-weaker}
use Rattle.ve_theory.specs.Combinations.{unit, scaled, difference, extended}
use Rattle.ve_theory.specs.Words.{Word, generator, times, same_word}
use Rattle.ve_theory.specs.Elements.{Element}
use Rattle.ve_theory.specs.Presentations.{Presentation}
use Rattle.ve_theory.specs.Answers.{Row, Action, image_row, matrix_row, row_times, word_row, evaluation}
use Rattle.ve_theory.proofs.Sums.{SameWeights, SameWeights-sym, SameWeights-trans, SameWeights-append, SameWeights-scaled, SameWeights-extended, SameWeights-extended_by, SameWeights_of, extended-append, extended-scaled, extended-unit, extended-extended, extended-difference, difference_vanishes, same_from_difference, weights_from_Alike, Decides-nat_eq, Decides-same_word}
use Rattle.ve_theory.proofs.Orders.{before_reach}
use Rattle.ve_theory.proofs.Evaluation.{evaluation-times_letter}
use Rattle.ve_vec.specs.Tracing.{row_or_zero, vector_times}
use Rattle.ve_table.specs.Tables.{ActionTable, presented, word_at, row_at, element_of, IsLive, IsDue, live_below}
use Rattle.ve_table.specs.Sound.{IsSound}
use Rattle.ve_table.specs.Changes.{renumbered}
use Rattle.ve_machine.specs.Forwards.{stand_in, IsForwarding, IsResolved}
use Rattle.ve_machine.specs.Known.{Known, by_row, by_image, multiplied}
use Rattle.ve_machine.specs.Jobs.{IsKnownBelow, by_lower, IsImageJob, IsSettled, image_value}
use Rattle.ve_machine.specs.Jobs as Jobs
use Rattle.ve_machine.specs.Finished.{IsActionOf}
use Rattle.ve_machine.proofs.Forwardings.{positive_prime, dead_stands, are_falling, stands_by}
use Rattle.ve_machine.proofs.CarriedRows.{carried, carried_live, carried_stands, carried_forwarding, carried_same, carried_resolved, forwarding_vanishes}
use Rattle.ve_machine.proofs.LiveActions.{number, renumbered_sum}

-- an id, in the new numbers of live ids; a combination of ids
abbrev pub settled : ActionTable → ℕ → Row
settled T b = carried T.forwards (number T) (length T.forwards) b

abbrev pub settled_row : ActionTable → Row → Row
settled_row T v = extended (settled T) v

pub forwarding_settled : (T : ActionTable) → IsSound T → (v : Row) → IsForwarding (presented T).prime T.forwards v → SameWeights (presented T).prime (settled_row T v) []
forwarding_settled T sound v forwarding = carried_forwarding (presented T).prime T.forwards (number T) (positive_prime T sound) (are_falling T sound) (length T.forwards) v (omega arith) forwarding

pub stand_in_settled : (T : ActionTable) → IsSound T → (b : ℕ) → SameWeights (presented T).prime (settled T b) (settled_row T (stand_in T.forwards b))
stand_in_settled T sound b = carried_stands (presented T).prime T.forwards (number T) (positive_prime T sound) (are_falling T sound) (length T.forwards) b (omega arith)

pub live_settled : (T : ActionTable) (b : ℕ) → IsLive T b → SameWeights (presented T).prime (settled T b) (unit (live_below T b))
live_settled T b live = carried_live (presented T).prime T.forwards (number T) (length T.forwards) b live

pub resolved_settled : (T : ActionTable) → IsSound T → (v w : Row) → IsResolved (presented T).prime T.forwards v w → SameWeights (presented T).prime (settled_row T v) (renumbered T w)
resolved_settled T sound v w resolved =
    SameWeights-trans (carried_resolved (presented T).prime T.forwards (number T) (positive_prime T sound) (are_falling T sound) (length T.forwards) v w (omega arith) resolved)
    (SameWeights-sym (renumbered_sum (presented T).prime T w))

-- sums

scaled_vanishes : {J : Type 0} (p c : ℕ) {u : List (J × ℕ)} → SameWeights p u [] → SameWeights p (scaled c u) []
unfolding scaled
scaled_vanishes p c none = SameWeights-scaled c none

sum_vanishes : {J K : Type 0} (p : ℕ) (f : J → List (K × ℕ)) (c d : ℕ) (u v : List (J × ℕ)) → SameWeights p (extended f u) [] → SameWeights p (extended f v) [] → SameWeights p (extended f (scaled c u ++ scaled d v)) []
sum_vanishes p f c d u v one other =
    SameWeights-trans (SameWeights_of (extended-append f (scaled c u) (scaled d v)))
    (SameWeights-append {v = []} {s = []}
    (SameWeights-trans (extended-scaled p f c u) (scaled_vanishes p c one))
    (SameWeights-trans (extended-scaled p f d v) (scaled_vanishes p d other)))

none_some : (o : Option Row) → o ≡ None → IsSome o → ⊥
none_some None is some = cc
none_some (Some v) is some = absurd (none-some v (sym is))

pub row_there : (o : Option Row) → IsSome o → (v : Row) × (o ≡ Some v)
row_there None some = absurd (none_some None refl some)
row_there (Some v) some = (v, refl)

pub row_found : (T : ActionTable) (b x : ℕ) (v : Row) → row_at T b x ≡ Some v → row_or_zero (row_at T) x b ≡ v
row_found T b x v is = ap (λ o. unwrap_or o []) is

module _ (T : ActionTable) (fs : List (Option Row)) (rs : List (List (Option Row))) where
  -- an opening of the table's words
  abbrev pub opening : ActionTable
  opening = record { draft = T.draft; level = T.level; words = T.words; forwards = fs; rows = rs; images = T.images }

module _ (T : ActionTable) (fs : List (Option Row)) (rs : List (List (Option Row))) (A : Action) (sound : IsSound T) (sound_opening : IsSound (opening T fs rs)) (of : IsActionOf T A)
    (rows : (b x : ℕ) (u v : Row) → row_at (opening T fs rs) b x ≡ Some u → row_at T b x ≡ Some v → IsForwarding (presented T).prime T.forwards (difference (presented T).prime u v)) where
  abbrev O : ActionTable
  O = opening T fs rs

  abbrev P : Presentation
  P = presented T

  abbrev p : ℕ
  p = P.prime

  pub image_settled : (i : ℕ) (v : Row) → slice_get T.images i ≡ Some v → SameWeights p (settled_row T v) (image_row A i)
  image_settled i v found = let form = of.images i v found in SameWeights-trans (resolved_settled T sound v form.0 form.1) (SameWeights_of (sym form.2))

  -- a letter at a live id
  live_step : (b x : ℕ) → IsLive T b → IsDue O b x → SameWeights p (settled_row T (row_or_zero (row_at O) x b)) (row_times A (settled T b) x)
  live_step b x live due =
      let u = row_there (row_at O b x) ((sound_opening.due b x).1 due) in
      let v = row_there (row_at T b x) ((sound.due b x).1 due) in
      let form = of.matrices b x v.0 live v.1 in
      SameWeights-trans (SameWeights_of (ap (settled_row T) (row_found O b x u.0 u.1)))
      (SameWeights-trans
      (carried_same p T.forwards (number T) (positive_prime T sound) (are_falling T sound) (length T.forwards) u.0 v.0 (omega arith) (rows b x u.0 v.0 u.1 v.1))
      (SameWeights-trans (resolved_settled T sound v.0 form.0 form.1)
      (SameWeights-trans (SameWeights_of (sym form.2))
      (SameWeights-trans (SameWeights-sym (extended-unit p (matrix_row A x) (live_below T b)))
      (SameWeights-extended (matrix_row A x) (SameWeights-sym (live_settled T b live)))))))

  lower_due : (b c x : ℕ) → c < b → IsDue O b x → IsDue O c x
  lower_due b c x less due =
      (omega (arith, less, due.0), due.1, omega (arith, due.2, before_reach P (word_at T c) (word_at T b) (sound.rising c b (generator 0) less due.0)))

  module _ (settles : IsSettled O T.forwards) where
    known_below_vanishes : (b x : ℕ) → ((c : ℕ) → c < b → IsImageJob O T.forwards c x → SameWeights p (settled_row T (image_value O T.forwards c x)) [])
        → {v : Row} → IsKnownBelow O T.forwards b x v → SameWeights p (settled_row T v) []
    known_below_vanishes b x lower (Jobs.by_forwards v forwarding) = forwarding_settled T sound v forwarding
    known_below_vanishes b x lower (by_lower c less job) = lower c less job
    known_below_vanishes b x lower (Jobs.alike u v same known) =
        SameWeights-trans (SameWeights-sym (SameWeights-extended (settled T) (weights_from_Alike nat_eq Decides-nat_eq p u v same))) (known_below_vanishes b x lower known)
    known_below_vanishes b x lower (Jobs.combined c d u v one other) =
        sum_vanishes p (settled T) c d u v (known_below_vanishes b x lower one) (known_below_vanishes b x lower other)

    image_vanishes : (n b x : ℕ) → b < n → IsImageJob O T.forwards b x → SameWeights p (settled_row T (image_value O T.forwards b x)) []
    image_vanishes zero b x less job = absurd (omega (arith, less))
    image_vanishes (suc n) b x less job = known_below_vanishes b x (λ c lower here. image_vanishes n c x (omega (arith, less, lower)) here) (settles.images b x job)

    step_below : (n b x : ℕ) → b < n → IsDue O b x → SameWeights p (settled_row T (row_or_zero (row_at O) x b)) (row_times A (settled T b) x)
    step_below zero b x less due = absurd (omega (arith, less))
    step_below (suc n) b x less due = cases (slice_get T.forwards b) refl (λ c lower. step_below n c x (omega (arith, less, lower)))
      where
        cases : (o : Option (Option Row)) → slice_get T.forwards b ≡ o
            → ((c : ℕ) → c < b → IsDue O c x → SameWeights p (settled_row T (row_or_zero (row_at O) x c)) (row_times A (settled T c) x))
            → SameWeights p (settled_row T (row_or_zero (row_at O) x b)) (row_times A (settled T b) x)
        cases None is lower = absurd (none-some (slice_index_or T.forwards b None) (sym is ∙ slice_get-get_or T.forwards b None (omega (arith, due.0, sound.one_forward_each))))
        cases (Some None) is lower = live_step b x is due
        cases (Some (Some f)) is lower =
            let below : All (λ (t : ℕ × ℕ). t.0 < b) (stand_in T.forwards b) = subst (λ v. All (λ (t : ℕ × ℕ). t.0 < b) v) (sym (dead_stands T.forwards b f is)) (are_falling T sound b f is) in
            SameWeights-trans
            (same_from_difference p (settled_row T (row_or_zero (row_at O) x b)) (settled_row T (vector_times (row_at O) (stand_in T.forwards b) x)) (positive_prime T sound)
            (SameWeights-trans (SameWeights-sym (extended-difference p (settled T) (row_or_zero (row_at O) x b) (vector_times (row_at O) (stand_in T.forwards b) x)))
            (image_vanishes (suc n) b x less (record { forward = f; dead = is; due = due }))))
            (SameWeights-trans (extended-extended p (settled T) (row_or_zero (row_at O) x) (stand_in T.forwards b))
            (SameWeights-trans
            (SameWeights-extended_by (λ c. settled_row T (row_or_zero (row_at O) x c)) (λ c. row_times A (settled T c) x) (stand_in T.forwards b)
            (All-weaker (λ (t : ℕ × ℕ). t.0 < b) (λ (t : ℕ × ℕ). SameWeights p (settled_row T (row_or_zero (row_at O) x t.0)) (row_times A (settled T t.0) x))
            (λ t le. lower t.0 le (lower_due b t.0 x le due)) (stand_in T.forwards b) below))
            (SameWeights-trans (SameWeights-sym (extended-extended p (matrix_row A x) (settled T) (stand_in T.forwards b)))
            (SameWeights-extended (matrix_row A x) (SameWeights-sym (stand_in_settled T sound b))))))

    -- a letter at any id
    pub step_settled : (b x : ℕ) (v : Row) → row_at O b x ≡ Some v → SameWeights p (settled_row T v) (row_times A (settled T b) x)
    step_settled b x v found =
        SameWeights-trans (SameWeights_of (ap (settled_row T) (sym (row_found O b x v found)))) (step_below (suc b) b x (omega arith) ((sound_opening.due b x).0 (rw found refl)))

    -- what is known evaluates to zero, where each id's word has the id's row
    module _ (own : (b : ℕ) → b < length T.words → SameWeights p (word_row A (word_at T b)) (settled T b)) where
      vector_evaluates : (v : Row) → All (λ t. t.0 < length T.words) v → SameWeights p (evaluation A (element_of T v)) (settled_row T v)
      vector_evaluates v within =
          SameWeights-trans (extended-extended p (word_row A) (λ j. unit (word_at T j)) v)
          (SameWeights-extended_by (λ j. extended (word_row A) (unit (word_at T j))) (settled T) v
          (All-weaker (λ (t : ℕ × ℕ). t.0 < length T.words) (λ (t : ℕ × ℕ). SameWeights p (extended (word_row A) (unit (word_at T t.0))) (settled T t.0))
          (λ t lt. SameWeights-trans (extended-unit p (word_row A) (word_at T t.0)) (own t.0 lt)) v within))

      difference_evaluates : (w : Word) (v : Row) → All (λ t. t.0 < length T.words) v → SameWeights p (settled_row T v) (word_row A w) → SameWeights p (evaluation A (difference p (unit w) (element_of T v))) []
      difference_evaluates w v within same =
          SameWeights-trans (extended-difference p (word_row A) (unit w) (element_of T v))
          (difference_vanishes p (evaluation A (unit w)) (evaluation A (element_of T v)) (positive_prime T sound)
          (SameWeights-trans (extended-unit p (word_row A) w) (SameWeights-trans (SameWeights-sym same) (SameWeights-sym (vector_evaluates v within)))))

      forwarding_evaluates : (v : Row) → IsForwarding p T.forwards v → SameWeights p (evaluation A (element_of T v)) []
      forwarding_evaluates v forwarding =
          SameWeights-trans (word_rows v) (forwarding_vanishes p T.forwards (λ b. word_row A (word_at T b)) v (positive_prime T sound) stands forwarding)
        where
          word_rows : (v : Row) → SameWeights p (evaluation A (element_of T v)) (extended (λ b. word_row A (word_at T b)) v)
          word_rows v =
              SameWeights-trans (extended-extended p (word_row A) (λ j. unit (word_at T j)) v)
              (SameWeights-extended_by (λ j. extended (word_row A) (unit (word_at T j))) (λ b. word_row A (word_at T b)) v
              (λ k t lt. extended-unit p (word_row A) (word_at T (slice_index_or v k t).0)))

          stands : (b : ℕ) → SameWeights p (word_row A (word_at T b)) (extended (λ b. word_row A (word_at T b)) (stand_in T.forwards b))
          stands b =
              stands_by (λ v. SameWeights p (word_row A (word_at T b)) (extended (λ b. word_row A (word_at T b)) v)) T.forwards b (SameWeights-sym (extended-unit p (λ b. word_row A (word_at T b)) b))
              (λ f is.
              let place : b < length T.words = omega (arith, slice_get_within T.forwards b (Some f) is, sound.one_forward_each) in
              SameWeights-trans (own b place)
              (SameWeights-trans (stand_in_settled T sound b)
              (SameWeights-trans (SameWeights_of (ap (settled_row T) (dead_stands T.forwards b f is)))
              (SameWeights-extended_by (settled T) (λ b. word_row A (word_at T b)) f
              (All-weaker (λ (t : ℕ × ℕ). t.0 < b) (λ (t : ℕ × ℕ). SameWeights p (settled T t.0) (word_row A (word_at T t.0)))
              (λ t less. SameWeights-sym (own t.0 (omega (arith, less, place)))) f (are_falling T sound b f is))))))

      pub known_vanishes : {v : Element} → Known O T.forwards v → SameWeights p (evaluation A v) []
      unfolding extended word_row
      known_vanishes (Known.by_forwards v forwarding) = forwarding_evaluates v forwarding
      known_vanishes (by_row b x v found) =
          difference_evaluates (times (word_at T b) x) v (sound_opening.rows b x v found).stands.row.1
          (SameWeights-trans (step_settled b x v found) (SameWeights-extended (matrix_row A x) (SameWeights-sym (own b ((sound_opening.due b x).0 (rw found refl)).0))))
      known_vanishes (by_image i v found) = difference_evaluates (generator i) v (sound_opening.images i v found).stands.row.1 (image_settled i v found)
      known_vanishes (Known.alike u v same known) =
          SameWeights-trans (SameWeights-sym (SameWeights-extended (word_row A) (weights_from_Alike same_word Decides-same_word p u v same))) (known_vanishes known)
      known_vanishes (Known.combined c d u v one other) = sum_vanishes p (word_row A) c d u v (known_vanishes one) (known_vanishes other)
      known_vanishes (multiplied v x letter within known) =
          SameWeights-trans (evaluation-times_letter p A v x) (SameWeights-extended (matrix_row A x) (known_vanishes known))
