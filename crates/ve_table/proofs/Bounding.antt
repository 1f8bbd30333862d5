-- Bounds of letters are set one after the other.
use Rattle.std.proofs.Common.{◌≡◌, ℕ, ◌+◌, ◌<◌, ◌≤◌, inl, inr, Some, List, length, get_or, sym, ap, subst, ◌∙◌, arith}
use Rattle.std.specs.Prelude.{slice_get, ◌↔◌}
use Rattle.std.proofs.Math.ListN.{set}
use Rattle.std.proofs.lemmas.Bool.{cases_eq}
use Rattle.std.proofs.lemmas.List.{length-set, get_or-set_same, get_or-set_other, get_or_default}
use Rattle.ve_table.specs.declared.entry.Entry.{Entry}
use Rattle.ve_table.specs.Rows.{AreBounds}

-- the bound of a letter of the weight
pub record IsBound (level : ℕ) (entries : List Entry) (weight bound : ℕ) : Type 0 where
  pub within : bound ≤ length entries
  pub due : (b : ℕ) (e : Entry) → slice_get entries b ≡ Some e → (b < bound) ↔ (e.reach + weight ≤ level)

-- those of the first i letters
pub record AreBoundsTo (weights : List ℕ) (level : ℕ) (entries : List Entry) (i : ℕ) (bounds : List ℕ) : Type 0 where
  pub count : length bounds ≡ length weights
  pub each : (x : ℕ) → x < i → IsBound level entries (get_or weights x 0) (get_or bounds x 0)

module _ (weights : List ℕ) (level : ℕ) (entries : List Entry) where
  pub no_letters : (bounds : List ℕ) → length bounds ≡ length weights → AreBoundsTo weights level entries 0 bounds
  no_letters bounds count = record { count = count; each = λ x lt. absurd (omega (arith, lt)) }

  pub one_more_letter : (i : ℕ) (bounds : List ℕ) (weight bound : ℕ) → AreBoundsTo weights level entries i bounds → i < length weights → weight ≡ get_or weights i weight → IsBound level entries weight bound
      → AreBoundsTo weights level entries (i + 1) (set bounds i bound)
  one_more_letter i bounds weight bound are lt weight_is is = record {
    count = length-set bounds i bound ∙ are.count;
    each = λ x before.
        elim (cases_eq x i) [
          | inl same ↦
              let here : get_or weights x 0 ≡ weight = ap (λ k. get_or weights k 0) same ∙ get_or_default weights i 0 weight lt ∙ sym weight_is in
              let new : get_or (set bounds i bound) x 0 ≡ bound = ap (λ k. get_or (set bounds i bound) k 0) same ∙ get_or-set_same bounds i bound 0 (omega (arith, lt, are.count)) in
              subst (λ w. IsBound level entries w (get_or (set bounds i bound) x 0)) (sym here) (subst (λ k. IsBound level entries weight k) (sym new) is)
          | inr other ↦ subst (λ k. IsBound level entries (get_or weights x 0) k) (sym (get_or-set_other bounds i x bound 0 other)) (are.each x (omega (arith, before, other)))
        ];
  }

  pub all_letters : (i : ℕ) (bounds : List ℕ) → AreBoundsTo weights level entries i bounds → length weights ≤ i → AreBounds weights level entries bounds
  all_letters i bounds are past = record {
    count = are.count;
    within = λ x d lt. let is = are.each x (omega (arith, lt, past, are.count)) in omega (arith, is.within, get_or_default bounds x d 0 lt);
    due = λ b x e found lt. (are.each x (omega (arith, lt, past))).due b e found;
  }
