-- The row of a dead id at a letter, less its forward times the letter.
use Rattle.std.proofs.Common.{◌≡◌, ◌≢◌, ℕ, suc, ◌+◌, ◌-◌, ◌*◌, ◌%◌, ◌<◌, ◌≤◌, nat_eq, Some, None, [], ◌++◌, length, All, refl, sym, ap, subst, ◌∙◌, arith, mod-eq_of_lt}
use Rattle.std.specs.Prelude.{Option, IsSome, unwrap_or}
use mathlib.Core.Path.{fun_ext}
use Rattle.std.proofs.lemmas.List.Elements.{All-append, All-weaker}
use Rattle.ve_theory.specs.Residues.{Congruent}
use Rattle.ve_theory.specs.Combinations.{Combination, unit, scaled, difference, extended, IsReducedOf}
use Rattle.ve_theory.specs.Words.{Word, times}
use Rattle.ve_theory.specs.Elements.{Element, times_letter}
use Rattle.ve_theory.specs.Presentations.{reach}
use Rattle.ve_theory.specs.Derivations.{DerivedWithin, Within}
use Rattle.ve_theory.specs.Answers.{Row, IsRow}
use Rattle.ve_theory.specs.Laws.{IsTotalOrder, ReachAddsUp}
use Rattle.ve_theory.proofs.Sums.{weigh, weigh-append, weigh-scaled, weigh-unit, weigh-extended, weigh-difference, SameWeights, SameWeights-refl, SameWeights-sym, SameWeights-trans, SameWeights-difference, SameWeights-extended, SameWeights_of, extended-extended, extended-difference, differences-extended, differences-append}
use Rattle.ve_theory.proofs.Independence.{congruent_by}
use Rattle.ve_theory.proofs.Products.{weigh-times_letter}
use Rattle.ve_theory.proofs.Members.{All-scaled, All-times_letter}
use Rattle.ve_theory.proofs.Remainders.{All-extended, All-unit, All-combination_of}
use Rattle.ve_theory.proofs.DerivationTrees.{Within-words}
use Rattle.ve_theory.proofs.DerivedElements.{times_letter-append, times_letter-scaled, DerivedWithin-alike, DerivedWithin-times}
use Rattle.ve_vec.specs.Tracing.{row_or_zero, vector_times, HasProducts}
use Rattle.ve_trace.proofs.Vectors.{vanishes_where_absent}
use Rattle.ve_table.specs.Tables.{ActionTable, presented, word_at, row_at, element_of, on_words, IsDue}
use Rattle.ve_table.specs.Sound.{IsSound, IsForwardOf}
use Rattle.ve_machine.specs.Forwards.{stand_in, image_difference}
use Rattle.ve_machine.proofs.ReducedSums.{reduced_keys, reduced_same}
use Rattle.ve_machine.proofs.ResolvedVectors.{derived_both, derived_sum}
use Rattle.ve_settle.proofs.Derived.{DerivedWithin-scaled}
use Rattle.ve_machine.proofs.Forwardings.{positive_prime}
use Rattle.ve_settle.proofs.Order.{lower_reach}

-- two sums less parts of one sum
apart : (m u v w : ℕ) → Congruent (suc m) (u + m * w + m * (u + m * v)) (v + m * w)
apart m u v w = congruent_by (suc m) (u + m * w + m * (u + m * v)) (v + m * w) v (u + m * v) (omega arith)

differences_apart : {K : Type 0} (p : ℕ) (u v w : Combination K) → 0 < p → SameWeights p (difference p u w ++ scaled (p - 1) (difference p u v)) (difference p v w)
differences_apart p u v w positive = record {
  at = λ h.
      let m : ℕ = p - 1 in
      let left : weigh h (difference p u w ++ scaled m (difference p u v)) ≡ weigh h u + m * weigh h w + m * (weigh h u + m * weigh h v) =
      weigh-append h (difference p u w) (scaled m (difference p u v))
      ∙ omega (arith, weigh-difference h p u w, weigh-scaled h m (difference p u v), ap (λ n. m * n) (weigh-difference h p u v)) in
      ap (λ n. n % p) left
      ∙ subst (λ q. Congruent q (weigh h u + m * weigh h w + m * (weigh h u + m * weigh h v)) (weigh h v + m * weigh h w)) (omega (arith, positive)) (apart m (weigh h u) (weigh h v) (weigh h w))
      ∙ ap (λ n. n % p) (sym (weigh-difference h p v w));
}

-- a lower id is due too
pub due_below : (T : ActionTable) → IsSound T → IsTotalOrder (presented T) → (a b x : ℕ) → a < b → IsDue T b x → IsDue T a x
due_below T sound order a b x less due = (omega (arith, less, due.0), due.1, omega (arith, lower_reach T sound order a b (omega (arith, less)) due.0, due.2))

-- so it has a row
row_below : (T : ActionTable) → IsSound T → IsTotalOrder (presented T) → (a b x : ℕ) → a < b → IsDue T b x → (r : Row) × (row_at T a x ≡ Some r)
row_below T sound order a b x less due = given (row_at T a x) ((sound.due a x).1 (due_below T sound order a b x less due))
  where
    given : (o : Option Row) → IsSome o → (r : Row) × (o ≡ Some r)
    given (Some r) some = (r, refl)
    given None some = absurd cc

-- each id of a forward has a product with a letter that the dead id has one with
pub forward_found : (T : ActionTable) → IsSound T → IsTotalOrder (presented T) → (dead x : ℕ) (forward : Row) → IsDue T dead x → IsForwardOf T dead forward → HasProducts (presented T).prime (row_at T) forward x
forward_found T sound order dead x forward due is_forward b none =
    vanishes_where_absent (presented T).prime forward b
    (All-weaker (λ (t : ℕ × ℕ). t.0 < dead) (λ (t : ℕ × ℕ). t.0 ≢ b)
    (λ t less same.
    let found = row_below T sound order t.0 dead x less due in
    let there : row_at T b x ≡ Some found.0 = ap (λ c. row_at T c x) (sym same) ∙ found.1 in
    cc) forward is_forward.below)

-- the forward of a dead id, and the rows of its ids and of itself
module _ (T : ActionTable) (sound : IsSound T) (order : IsTotalOrder (presented T)) (adds : ReachAddsUp) (dead x : ℕ) (due : IsDue T dead x)
    (row forward : Row) (row_is : row_at T dead x ≡ Some row) (is_forward : IsForwardOf T dead forward) (forward_is : stand_in T.forwards dead ≡ forward) where
  rows : ℕ → Row
  rows = row_or_zero (row_at T) x

  products : ℕ → Element
  products j = unit (times (word_at T j) x)

  -- the product of each id of the forward has a row
  product_row : (c : ℕ) → c < dead → (r : Row) × (row_at T c x ≡ Some r)
  product_row c less = row_below T sound order c dead x less due

  row_or : (c : ℕ) (r : Row) → row_at T c x ≡ Some r → rows c ≡ r
  unfolding rows
  row_or c r is = ap (λ o. unwrap_or o []) is

  reach_within : (c : ℕ) → IsDue T c x → reach (presented T) (times (word_at T c) x) ≤ T.level
  reach_within c here = omega (arith, (adds (presented T)).1 (word_at T c) x, here.2)

  forward_within : Within (presented T) T.level (times_letter (difference (presented T).prime (unit (word_at T dead)) (element_of T forward)) x)
  forward_within =
      Within-words (presented T) T.level (times_letter (difference (presented T).prime (unit (word_at T dead)) (element_of T forward)) x)
      (All-times_letter Reaches (difference (presented T).prime (unit (word_at T dead)) (element_of T forward)) x
      (All-append (λ (t : Word × ℕ). Reaches (times t.0 x)) (unit (word_at T dead)) (scaled ((presented T).prime - 1) (element_of T forward))
      (All-unit (λ w. Reaches (times w x)) (word_at T dead) (reach_within dead due))
      (All-scaled (λ w. Reaches (times w x)) ((presented T).prime - 1) (element_of T forward)
      (All-combination_of (λ w. Reaches (times w x)) (on_words T.words) forward
      (All-weaker (λ (t : ℕ × ℕ). t.0 < dead) (λ (t : ℕ × ℕ). Reaches (times (word_at T t.0) x)) (λ t less. reach_within t.0 (due_below T sound order t.0 dead x less due)) forward is_forward.below)))))
    where
      Reaches : Word → Type 0
      Reaches w = reach (presented T) w ≤ T.level

  products_sum : SameWeights (presented T).prime (times_letter (element_of T forward) x) (extended products forward)
  unfolding products
  products_sum = record {
    at = λ h. ap (λ n. n % (presented T).prime)
        (weigh-times_letter h (element_of T forward) x
        ∙ weigh-extended (λ w. h (times w x)) (λ j. unit (word_at T j)) forward
        ∙ ap (λ k. weigh k forward) (fun_ext (λ j. weigh-unit (λ w. h (times w x)) (word_at T j) ∙ sym (weigh-unit h (times (word_at T j) x))))
        ∙ sym (weigh-extended h products forward));
  }

  -- the id less its forward, times the letter
  forward_times : DerivedWithin (presented T) T.level (difference (presented T).prime (unit (times (word_at T dead) x)) (extended products forward))
  unfolding times_letter
  forward_times =
      DerivedWithin-alike (presented T) T.level
      (SameWeights-trans
      (SameWeights_of (times_letter-append (unit (word_at T dead)) (scaled ((presented T).prime - 1) (element_of T forward)) x
      ∙ ap (λ v. unit (times (word_at T dead) x) ++ v) (times_letter-scaled ((presented T).prime - 1) (element_of T forward) x)))
      (SameWeights-difference (SameWeights-refl (presented T).prime (unit (times (word_at T dead) x))) products_sum))
      (DerivedWithin-times (presented T) T.level x due.1 forward_within is_forward.stands.derived)

  -- the products of the forward's ids, less their rows
  products_less_rows : DerivedWithin (presented T) T.level (difference (presented T).prime (extended products forward) (extended (λ j. element_of T (rows j)) forward))
  unfolding products
  products_less_rows =
      DerivedWithin-alike (presented T) T.level (differences-extended (presented T).prime products (λ j. element_of T (rows j)) forward)
      (derived_sum (presented T) T.level (λ j. difference (presented T).prime (products j) (element_of T (rows j))) forward
      (All-weaker (λ (t : ℕ × ℕ). t.0 < dead) (λ (t : ℕ × ℕ). DerivedWithin (presented T) T.level (difference (presented T).prime (products t.0) (element_of T (rows t.0)))) (λ t less. one t.0 less) forward is_forward.below))
    where
      one : (c : ℕ) → c < dead → DerivedWithin (presented T) T.level (difference (presented T).prime (unit (times (word_at T c) x)) (element_of T (rows c)))
      one c less =
          let found = product_row c less in
          subst (λ v. DerivedWithin (presented T) T.level (difference (presented T).prime (unit (times (word_at T c) x)) (element_of T v))) (sym (row_or c found.0 found.1))
          (sound.rows c x found.0 found.1).stands.derived

  image_is : image_difference (presented T).prime (row_at T) T.forwards dead x ≡ difference (presented T).prime row (extended rows forward)
  unfolding rows
  image_is = ap (λ r. difference (presented T).prime r (extended rows (stand_in T.forwards dead))) (row_or dead row row_is) ∙ ap (λ v. difference (presented T).prime row (extended rows v)) forward_is

  -- the forward times the letter is taken from the row
  pub image_reduced : (by : ℕ) (v : Row) → by ≡ ((presented T).prime - 1) % (presented T).prime
      → IsReducedOf ◌<◌ nat_eq (presented T).prime v (row ++ scaled by (vector_times (row_at T) forward x))
      → IsReducedOf ◌<◌ nat_eq (presented T).prime v (image_difference (presented T).prime (row_at T) T.forwards dead x)
  unfolding rows
  image_reduced by v by_is is =
      let negative : by ≡ (presented T).prime - 1 = by_is ∙ mod-eq_of_lt (omega (arith, positive_prime T sound)) in
      subst (IsReducedOf ◌<◌ nat_eq (presented T).prime v) (sym image_is)
      (subst (λ n. IsReducedOf ◌<◌ nat_eq (presented T).prime v (row ++ scaled n (vector_times (row_at T) forward x))) negative is)

  pub image_derived : (v : Row) → IsReducedOf ◌<◌ nat_eq (presented T).prime v (image_difference (presented T).prime (row_at T) T.forwards dead x) → DerivedWithin (presented T) T.level (element_of T v)
  image_derived v is =
      DerivedWithin-alike (presented T) T.level
      (SameWeights-trans (differences_apart (presented T).prime (unit (times (word_at T dead) x)) (element_of T row) (element_of T (extended rows forward)) (positive_prime T sound))
      (SameWeights-trans (SameWeights-sym (extended-difference (presented T).prime (λ j. unit (word_at T j)) row (extended rows forward)))
      (SameWeights-extended (λ j. unit (word_at T j))
      (SameWeights-sym (SameWeights-trans (reduced_same (presented T).prime v (image_difference (presented T).prime (row_at T) T.forwards dead x) is) (SameWeights_of image_is))))))
      (derived_both (presented T) T.level
      (DerivedWithin-alike (presented T) T.level
      (SameWeights-trans (differences-append (presented T).prime (unit (times (word_at T dead) x)) (extended products forward) (extended (λ j. element_of T (rows j)) forward) (positive_prime T sound))
      (SameWeights-difference (SameWeights-refl (presented T).prime (unit (times (word_at T dead) x))) (SameWeights-sym (extended-extended (presented T).prime (λ j. unit (word_at T j)) rows forward))))
      (derived_both (presented T) T.level forward_times products_less_rows))
      (DerivedWithin-scaled (presented T) T.level ((presented T).prime - 1) (sound.rows dead x row row_is).stands.derived))

  pub image_row : (v : Row) → IsReducedOf ◌<◌ nat_eq (presented T).prime v (image_difference (presented T).prime (row_at T) T.forwards dead x) → IsRow (presented T).prime (length T.words) v
  image_row v is = (
    is.reduced,
    reduced_keys IsPlace (presented T).prime v (image_difference (presented T).prime (row_at T) T.forwards dead x) is
        (subst (λ e. All (λ (t : ℕ × ℕ). IsPlace t.0) e) (sym image_is)
        (All-append (λ (t : ℕ × ℕ). IsPlace t.0) row (scaled ((presented T).prime - 1) (extended rows forward)) (sound.rows dead x row row_is).stands.row.1
        (All-scaled IsPlace ((presented T).prime - 1) (extended rows forward)
        (All-extended IsPlace rows forward
        (All-weaker (λ (t : ℕ × ℕ). t.0 < dead) (λ (t : ℕ × ℕ). All (λ (s : ℕ × ℕ). IsPlace s.0) (rows t.0)) (λ t less. one t.0 less) forward is_forward.below))))),
  )
    where
      IsPlace : ℕ → Type 0
      IsPlace n = n < length T.words

      one : (c : ℕ) → c < dead → All (λ (s : ℕ × ℕ). s.0 < length T.words) (rows c)
      one c less =
          let found = product_row c less in
          subst (λ v. All (λ (s : ℕ × ℕ). s.0 < length T.words) v) (sym (row_or c found.0 found.1)) (sound.rows c x found.0 found.1).stands.row.1
