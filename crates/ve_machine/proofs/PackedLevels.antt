-- Tables without dead ids: vectors are their own resolved forms, and ids their own numbers.
use Rattle.std.proofs.Common.{◌≡◌, ℕ, zero, suc, ◌<◌, ◌≤◌, Some, None, List, [], ◌∷◌, length, take, All, refl, sym, ap, ap₂, ◌∙◌, arith}
use Rattle.std.specs.Prelude.{Option, slice_get}
use Rattle.std.proofs.lemmas.Option.{none-some, slice_get-get_or, get_or_from_slice_get, slice_get_within}
use Rattle.std.proofs.lemmas.List.Elements.{All-head, All-tail, All-weaker}
use Rattle.ve_theory.specs.Combinations.{unit, difference, extended}
use Rattle.ve_theory.specs.Answers.{Row, Action, image_row, matrix_row}
use Rattle.ve_theory.proofs.Sums.{SameWeights, SameWeights-sym, SameWeights-trans, SameWeights-extended_by, SameWeights_of, extended-unit, extended-by_units, same_from_difference}
use Rattle.ve_table.specs.Tables.{ActionTable, presented, row_at, IsLive, of_live, live_words, live_below}
use Rattle.ve_table.specs.Sound.{IsSound}
use Rattle.ve_table.specs.Changes.{renumbered}
use Rattle.ve_table.proofs.Opening.{all_live}
use Rattle.ve_machine.specs.Forwards.{stand_in, IsResolved}
use Rattle.ve_machine.specs.Finished.{IsActionOf, IsPacked}
use Rattle.ve_machine.proofs.Forwardings.{positive_prime, stands_by}
use Rattle.ve_machine.proofs.CarriedRows.{forwarding_vanishes}
use Rattle.ve_machine.proofs.ResolvedVectors.{live_within}
use Rattle.ve_machine.proofs.LiveActions.{number, renumbered_sum}

all_counted : {X : Type 0} (fs : List (Option Row)) (xs : List X) (b : ℕ) → All (λ f. f ≡ None) fs → length fs ≡ length xs → b ≤ length fs → length (of_live (take b fs) xs) ≡ b
unfolding of_live
all_counted fs xs zero none same le = refl
all_counted [] xs (suc b) none same le = absurd (omega (arith, le))
all_counted (f ∷ fs) [] (suc b) none same le = absurd (omega (arith, same))
all_counted (None ∷ fs) (x ∷ xs) (suc b) none same le = ap suc (all_counted fs xs b (All-tail (λ (f : Option Row). f ≡ None) None fs none) (omega (arith, same)) (omega (arith, le)))
all_counted (Some v ∷ fs) (x ∷ xs) (suc b) none same le = absurd (none-some v (sym (All-head (λ (f : Option Row). f ≡ None) (Some v) fs none)))

module _ (F : ActionTable) (packed : IsPacked F) (sound : IsSound F) where
  pub packed_words : live_words F ≡ F.words
  packed_words = all_live F.forwards F.words packed sound.one_forward_each

  pub packed_number : (b : ℕ) → b < length F.words → live_below F b ≡ b
  packed_number b lt = all_counted F.forwards F.words b packed sound.one_forward_each (omega (arith, lt, sound.one_forward_each))

  pub packed_live : (b : ℕ) → b < length F.words → IsLive F b
  packed_live b lt =
      let inside : b < length F.forwards = omega (arith, lt, sound.one_forward_each) in
      slice_get-get_or F.forwards b None inside ∙ ap Some (packed b None inside)

  pub packed_renumbered : (v : Row) → All (λ t. t.0 < length F.words) v → renumbered F v ≡ v
  packed_renumbered [] within = refl
  packed_renumbered (t ∷ v) within =
      ap₂ (λ n l. (n, t.1) ∷ l) (packed_number t.0 (All-head (λ (s : ℕ × ℕ). s.0 < length F.words) t v within)) (packed_renumbered v (All-tail (λ (s : ℕ × ℕ). s.0 < length F.words) t v within))

  itself : (b : ℕ) → stand_in F.forwards b ≡ unit b
  itself b =
      stands_by (λ v. v ≡ unit b) F.forwards b refl
      (λ f is. absurd (none-some f (sym (packed b None (slice_get_within F.forwards b (Some f) is)) ∙ get_or_from_slice_get F.forwards b (Some f) None is)))

  -- a resolved form, numbered anew, is the vector
  resolved_itself : (v w : Row) → IsResolved (presented F).prime F.forwards v w → SameWeights (presented F).prime (renumbered F w) v
  resolved_itself v w resolved = SameWeights-trans renumbered_same (SameWeights-sym forms)
    where
      forms : SameWeights (presented F).prime v w
      forms =
          same_from_difference (presented F).prime v w (positive_prime F sound)
          (SameWeights-trans (SameWeights-sym (extended-by_units (presented F).prime (difference (presented F).prime v w)))
          (forwarding_vanishes (presented F).prime F.forwards unit (difference (presented F).prime v w) (positive_prime F sound)
          (λ b. SameWeights-trans (SameWeights-sym (extended-unit (presented F).prime unit b)) (SameWeights_of (ap (extended unit) (sym (itself b))))) resolved.forwarding))

      renumbered_same : SameWeights (presented F).prime (renumbered F w) w
      renumbered_same =
          SameWeights-trans (renumbered_sum (presented F).prime F w)
          (SameWeights-trans
          (SameWeights-extended_by (number F) unit w
          (All-weaker (λ (t : ℕ × ℕ). t.0 < length F.words) (λ (t : ℕ × ℕ). SameWeights (presented F).prime (number F t.0) (unit t.0))
          (λ t lt. SameWeights_of (ap unit (packed_number t.0 lt))) w (live_within F sound w resolved.live)))
          (extended-by_units (presented F).prime w))

  module _ (A : Action) (of : IsActionOf F A) where
    pub packed_basis : A.basis ≡ F.words
    packed_basis = of.basis ∙ packed_words

    pub packed_image : (i : ℕ) (v : Row) → slice_get F.images i ≡ Some v → SameWeights (presented F).prime (image_row A i) v
    packed_image i v found = let form = of.images i v found in SameWeights-trans (SameWeights_of form.2) (resolved_itself v form.0 form.1)

    pub packed_row : (b x : ℕ) (v : Row) → b < length F.words → row_at F b x ≡ Some v → SameWeights (presented F).prime (matrix_row A x b) v
    packed_row b x v lt found =
        let form = of.matrices b x v (packed_live b lt) found in
        SameWeights-trans (SameWeights_of (ap (matrix_row A x) (sym (packed_number b lt)) ∙ form.2)) (resolved_itself v form.0 form.1)
