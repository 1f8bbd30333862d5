-- The rows of a table under way: they stand where the opening's do, differ from them by forwards, and reach no further than their products.
use Rattle.std.proofs.Common.{◌≡◌, ℕ, ◌+◌, ◌<◌, ◌≤◌, Some, None, [], length, All, refl, sym, subst, ◌∙◌, slice_index_or, arith}
use Rattle.std.specs.Prelude.{Option, IsSome, unwrap_or}
use Rattle.std.proofs.lemmas.List.Elements.{All-nil, All-weaker}
use Rattle.ve_theory.specs.Combinations.{unit, difference, extended}
use Rattle.ve_theory.specs.Words.{Word, times}
use Rattle.ve_theory.specs.Presentations.{reach, step}
use Rattle.ve_theory.specs.Answers.{Row, IsNotAfter, IsRowUpTo}
use Rattle.ve_theory.proofs.Sums.{weigh-append, weigh-scaled, SameWeights, SameWeights-refl, differences-extended}
use Rattle.ve_theory.proofs.DerivedElements.{SameWeights-equal}
use Rattle.ve_theory.proofs.Orders.{reach-times}
use Rattle.ve_theory.proofs.OrderedRows.{IsNotAfter-reach}
use Rattle.ve_vec.specs.Tracing.{row_or_zero}
use Rattle.ve_table.specs.Tables.{ActionTable, presented, word_at, row_at, on_words, element_of, IsDue}
use Rattle.ve_table.specs.Sound.{IsSound}
use Rattle.ve_table.proofs.Setting.{none_is_some}
use Rattle.ve_machine.specs.Forwards.{stand_in, IsForwarding, image_difference}
use Rattle.ve_machine.specs.Known.{Known, by_row}
use Rattle.ve_machine.specs.Jobs.{IsUnderWay}
use Rattle.ve_machine.proofs.Forwardings.{IsForwarding-alike, IsForwarding-chained, IsForwarding-extended, IsForwarding-difference, nothing_forwarded}
use Rattle.ve_machine.proofs.KnownElements.{known_on, known_forwarded}
use Rattle.ve_machine.proofs.UnderWay.{under_way_positive, at_work_sound}

-- the ids of a vector up to a word
pub ids_up_to : (O : ActionTable) (w : Word) (v : Row) → IsRowUpTo (presented O) (on_words O.words) w v
    → All (λ t. (t.0 < length O.words) × (reach (presented O) (word_at O t.0) ≤ reach (presented O) w)) v
ids_up_to O w v up_to =
    All-weaker (λ (t : ℕ × ℕ). (t.0 < length O.words) × IsNotAfter (presented O) (word_at O t.0) w) (λ (t : ℕ × ℕ). (t.0 < length O.words) × (reach (presented O) (word_at O t.0) ≤ reach (presented O) w))
    (λ t is. (is.0, IsNotAfter-reach (presented O) (word_at O t.0) w is.1)) v up_to

-- differences of differences
pub differences_crossed : (p : ℕ) (a b c d : Row) → SameWeights p (difference p (difference p a b) (difference p c d)) (difference p (difference p a c) (difference p b d))
differences_crossed p a b c d = SameWeights-equal (λ h. simp (weigh-append, weigh-scaled) (omega arith))

module _ (O T : ActionTable) (sound : IsSound O) (under : IsUnderWay O T) where
  abbrev p : ℕ
  p = (presented O).prime

  abbrev before : ℕ → ℕ → Row
  before x b = row_or_zero (row_at O) x b

  abbrev now : ℕ → ℕ → Row
  now x b = row_or_zero (row_at T) x b

  pub rows_forwarded : (x b : ℕ) → IsForwarding p T.forwards (difference p (before x b) (now x b))
  rows_forwarded x b = cases (row_at O b x) (row_at T b x) refl refl
    where
      cases : (o n : Option Row) → row_at O b x ≡ o → row_at T b x ≡ n → IsForwarding p T.forwards (difference p (unwrap_or (row_at O b x) []) (unwrap_or (row_at T b x) []))
      cases None None was is =
          nothing_forwarded p T.forwards (unwrap_or (row_at O b x) []) (unwrap_or (row_at T b x) []) (under_way_positive O T under)
          (subst (λ o. SameWeights p (unwrap_or (row_at O b x) []) (unwrap_or o [])) (was ∙ sym is) (SameWeights-refl p (unwrap_or (row_at O b x) [])))
      cases (Some u) (Some v) was is =
          subst (λ o. IsForwarding p T.forwards (difference p (unwrap_or o []) (unwrap_or (row_at T b x) []))) (sym was)
          (subst (λ n. IsForwarding p T.forwards (difference p u (unwrap_or n []))) (sym is) (under.rows b x u v was is))
      cases None (Some v) was is = absurd (none_is_some (row_at O b x) was ((sound.due b x).1 (((at_work_sound O T under).due b x).0 (subst IsSome (sym is) refl))))
      cases (Some u) None was is = absurd (none_is_some (row_at T b x) is (((at_work_sound O T under).due b x).1 ((sound.due b x).0 (subst IsSome (sym was) refl))))

  -- the product of a due id and letter, less its row now
  pub product_known : (x b : ℕ) → IsDue O b x → Known O T.forwards (difference p (unit (times (word_at O b) x)) (element_of O (now x b)))
  product_known x b due = cases (row_at O b x) refl ((sound.due b x).1 due)
    where
      cases : (o : Option Row) → row_at O b x ≡ o → IsSome o → Known O T.forwards (difference p (unit (times (word_at O b) x)) (element_of O (now x b)))
      cases (Some u) is some =
          known_on O T.forwards (unit (times (word_at O b) x)) (element_of O u) (element_of O (now x b)) (under_way_positive O T under) (by_row b x u is)
          (known_forwarded O T.forwards u (now x b) (subst (λ o. IsForwarding p T.forwards (difference p (unwrap_or o []) (now x b))) is (rows_forwarded x b)))
      cases None is some = absurd cc

  -- which stands for nothing beyond the product
  pub product_ids : (x b : ℕ) → All (λ t. (t.0 < length O.words) × (reach (presented O) (word_at O t.0) ≤ reach (presented O) (word_at O b) + step (presented O) x)) (now x b)
  product_ids x b = cases (row_at T b x) refl
    where
      Fits : ℕ → Type 0
      Fits n = (n < length O.words) × (reach (presented O) (word_at O n) ≤ reach (presented O) (word_at O b) + step (presented O) x)

      cases : (o : Option Row) → row_at T b x ≡ o → All (λ t. Fits t.0) (unwrap_or (row_at T b x) [])
      cases (Some v) is =
          subst (λ o. All (λ t. Fits t.0) (unwrap_or o [])) (sym is)
          (subst (λ n. All (λ t. (t.0 < length O.words) × (reach (presented O) (word_at O t.0) ≤ n)) v) (reach-times (presented O) (word_at O b) x)
          (ids_up_to O (times (word_at O b) x) v ((at_work_sound O T under).rows b x v is).not_after))
      cases None is = subst (λ o. All (λ t. Fits t.0) (unwrap_or o [])) (sym is) (All-nil (λ (t : ℕ × ℕ). Fits t.0))

  -- the value of an image job, and the vector that is traced
  pub image_forwarded : (b x : ℕ) (v : Row) → SameWeights p v (image_difference p (row_at T) T.forwards b x) → IsForwarding p T.forwards v
      → IsForwarding p T.forwards (image_difference p (row_at O) T.forwards b x)
  image_forwarded b x v same forwarding =
      IsForwarding-chained p T.forwards (image_difference p (row_at O) T.forwards b x) (image_difference p (row_at T) T.forwards b x) (under_way_positive O T under)
      (IsForwarding-alike p T.forwards (differences_crossed p (before x b) (now x b) (extended (before x) forward) (extended (now x) forward))
      (IsForwarding-difference p T.forwards (rows_forwarded x b)
      (IsForwarding-alike p T.forwards (differences-extended p (before x) (now x) forward)
      (IsForwarding-extended p T.forwards (λ c. difference p (before x c) (now x c)) forward (λ k t inside. rows_forwarded x (slice_index_or forward k t).0)))))
      (IsForwarding-alike p T.forwards same forwarding)
    where
      forward : Row
      forward = stand_in T.forwards b
