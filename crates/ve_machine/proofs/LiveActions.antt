-- The action of a table on its live words.
use Rattle.std.proofs.Common.{◌≡◌, ℕ, ◌*◌, ◌<◌, Some, None, List, [], ◌∷◌, length, map, get_or, All, refl, sym, ap, subst, ◌∙◌, arith}
use Rattle.std.specs.Prelude.{Option, slice_get}
use Rattle.std.specs.List.{range_with_len}
use Rattle.std.proofs.lemmas.Option.{same_Some, none-some, slice_get_within}
use Rattle.std.proofs.lemmas.List.FromFn.{get_or-map-range_with_len, length-map-range_with_len}
use Rattle.ve_theory.specs.Combinations.{unit, difference, extended}
use Rattle.ve_theory.specs.Words.{Word}
use Rattle.ve_theory.specs.Presentations.{letter_count}
use Rattle.ve_theory.specs.Derivations.{DerivedWithin}
use Rattle.ve_theory.specs.Answers.{Row, Action, combination_of, IsRowUpTo}
use Rattle.ve_theory.proofs.Sums.{weigh, weigh-extended, weigh-unit, SameWeights}
use Rattle.ve_theory.proofs.DerivedElements.{SameWeights-equal}
use Rattle.ve_table.specs.Tables.{ActionTable, presented, row_at, IsDue, of_live, live_words, live_below}
use Rattle.ve_table.specs.Sound.{IsSound, IsVectorOf}
use Rattle.ve_table.specs.Changes.{renumbered}
use Rattle.ve_table.proofs.LiveIds.{of_live-at}
use Rattle.ve_table.proofs.Dropping.{number_is, vector_kept}
use Rattle.ve_machine.specs.Forwards.{IsResolved}
use Rattle.ve_machine.specs.Laws.{ResolutionsExist}
use Rattle.ve_machine.specs.Finished.{IsActionOf}
use Rattle.ve_machine.proofs.ResolvedVectors.{resolved_vector}

-- the new numbers of live ids, as rows
abbrev pub number : ActionTable → ℕ → Row
number T b = unit (live_below T b)

pub renumbered_sum : (p : ℕ) (T : ActionTable) (v : Row) → SameWeights p (renumbered T v) (extended (number T) v)
unfolding weigh
renumbered_sum p T v = SameWeights-equal (λ h. at h v ∙ sym (weigh-extended h (number T) v))
  where
    at : (h : ℕ → ℕ) (v : Row) → weigh h (renumbered T v) ≡ weigh (λ b. weigh h (unit (live_below T b))) v
    at h [] = refl
    at h (t ∷ v) = omega (arith, at h v, ap (λ n. t.1 * n) (weigh-unit h (live_below T t.0)))

module _ (T : ActionTable) (sound : IsSound T) (exist : ResolutionsExist) where
  -- the resolved form of a vector, where there is one
  chosen : (o : Option Row) → ((v : Row) → o ≡ Some v → All (λ t. t.0 < length T.words) v) → (w : Row) × ((v : Row) → o ≡ Some v → IsResolved (presented T).prime T.forwards v w)
  chosen None within = ([], λ v found. absurd (none-some v found))
  chosen (Some u) within =
      let form = exist T u sound (within u refl) in
      (form.0, λ v found. subst (λ v. IsResolved (presented T).prime T.forwards v form.0) (same_Some u v found) form.1)

  image_form : (i : ℕ) → (w : Row) × ((v : Row) → slice_get T.images i ≡ Some v → IsResolved (presented T).prime T.forwards v w)
  image_form i = chosen (slice_get T.images i) (λ v is. (sound.images i v is).stands.row.1)

  row_form : (b x : ℕ) → (w : Row) × ((v : Row) → row_at T b x ≡ Some v → IsResolved (presented T).prime T.forwards v w)
  row_form b x = chosen (row_at T b x) (λ v is. (sound.rows b x v is).stands.row.1)

  pub live_images : List Row
  live_images = map (λ i. renumbered T (image_form i).0) (range_with_len 0 (length T.images))

  pub live_matrices : List (List Row)
  live_matrices = map (λ x. of_live T.forwards (map (λ b. renumbered T (row_form b x).0) (range_with_len 0 (length T.words)))) (range_with_len 0 (letter_count (presented T)))

  pub live_action_of_table : IsActionOf T (record { basis = live_words T; images = live_images; matrices = live_matrices })
  unfolding live_images live_matrices
  live_action_of_table = record {
    basis = refl;
    images = λ i v found. (
      (image_form i).0,
      (image_form i).1 v found,
      get_or-map-range_with_len (λ i. renumbered T (image_form i).0) 0 (length T.images) i i [] (slice_get_within T.images i v found) (omega arith),
    );
    matrices = λ b x v live found.
        let due : IsDue T b x = (sound.due b x).0 (rw found refl) in
        let count : length T.forwards ≡ length (map (λ b. renumbered T (row_form b x).0) (range_with_len 0 (length T.words))) =
        sound.one_forward_each ∙ sym (length-map-range_with_len (λ b. renumbered T (row_form b x).0) 0 (length T.words)) in (
          (row_form b x).0,
          (row_form b x).1 v found,
          ap (λ l. get_or l (live_below T b) [])
              (get_or-map-range_with_len (λ x. of_live T.forwards (map (λ b. renumbered T (row_form b x).0) (range_with_len 0 (length T.words)))) 0 (letter_count (presented T)) x x [] due.1 (omega arith))
              ∙ ap (λ n. get_or (of_live T.forwards (map (λ b. renumbered T (row_form b x).0) (range_with_len 0 (length T.words)))) n []) (number_is T b sound.one_forward_each)
              ∙ of_live-at T.forwards (map (λ b. renumbered T (row_form b x).0) (range_with_len 0 (length T.words))) b [] count live
              ∙ get_or-map-range_with_len (λ b. renumbered T (row_form b x).0) 0 (length T.words) b b [] due.0 (omega arith),
        );
  }

-- what is resolved and numbered anew is of the word, on the live words
pub derived_and_ordered : (T : ActionTable) (A : Action) (u : Word) (v w row : Row) → IsSound T → A.basis ≡ live_words T → IsVectorOf T u v → IsResolved (presented T).prime T.forwards v w → row ≡ renumbered T w
    → DerivedWithin (presented T) T.level (difference (presented T).prime (unit u) (combination_of A row)) × IsRowUpTo (presented T) A u row
derived_and_ordered T A u v w row sound basis is resolved row_is =
    let kept = vector_kept T u w sound.one_forward_each resolved.live (resolved_vector T sound u v w is resolved) in
    subst (λ r. DerivedWithin (presented T) T.level (difference (presented T).prime (unit u) (combination_of A r)) × IsRowUpTo (presented T) A u r) (sym row_is)
    (subst (λ ws. DerivedWithin (presented T) T.level (difference (presented T).prime (unit u) (combination_of (record { basis = ws; images = A.images; matrices = A.matrices }) (renumbered T w)))
    × IsRowUpTo (presented T) (record { basis = ws; images = A.images; matrices = A.matrices }) u (renumbered T w)) (sym basis) (kept.stands.derived, kept.not_after))
