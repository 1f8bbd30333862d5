-- A vector on its way through letters. Alike vectors take the same way.
use Rattle.std.proofs.Common.{◌≡◌, ℕ, ◌+◌, ◌<◌, ◌≤◌, nat_eq, List, [], ◌∷◌, length, drop, get_or, sym, ap, ◌∙◌, subst, add-one, drop-cons}
use Rattle.std.proofs.lemmas.List.{drop_all}
use Rattle.ve_theory.specs.Combinations.{Combination, IsReduced, IsReducedOf}
use Rattle.ve_theory.proofs.Sums.{SameWeights, SameWeights-refl, SameWeights-sym, SameWeights-trans, SameWeights-extended, Alike_from_weights}
use Rattle.ve_vec.specs.Tracing.{PartialTable, row_or_zero, vector_times, vector_times_letters, HasProducts, CanTrace}
use Rattle.ve_trace.proofs.Adding.{weights_of, reduced_by}

pub letters_alike : (p : ℕ) (rows : PartialTable) (v w : Combination ℕ) (u : List ℕ) → SameWeights p v w → SameWeights p (vector_times_letters rows v u) (vector_times_letters rows w u)
unfolding vector_times_letters
letters_alike p rows v w [] same = same
letters_alike p rows v w (x ∷ u) same = letters_alike p rows (vector_times rows v x) (vector_times rows w x) u (SameWeights-extended (row_or_zero rows x) same)

products_alike : (p : ℕ) (rows : PartialTable) (v w : Combination ℕ) (x : ℕ) → SameWeights p v w → HasProducts p rows v x → HasProducts p rows w x
products_alike p rows v w x same found b none = sym (Alike_from_weights nat_eq same b) ∙ found b none

pub CanTrace-alike : (p : ℕ) (rows : PartialTable) (v w : Combination ℕ) (u : List ℕ) → SameWeights p v w → CanTrace p rows v u → CanTrace p rows w u
unfolding CanTrace
CanTrace-alike p rows v w [] same can = tt
CanTrace-alike p rows v w (x ∷ u) same can =
    (products_alike p rows v w x same can.0, CanTrace-alike p rows (vector_times rows v x) (vector_times rows w x) u (SameWeights-extended (row_or_zero rows x) same) can.1)

-- the vector v times the letters that are left is the start times the letters, and there are rows for it
pub record IsOnTheWay (p : ℕ) (rows : PartialTable) (start : Combination ℕ) (letters : List ℕ) (v : Combination ℕ) (left : List ℕ) : Type 0 where
  pub reduced : IsReduced ◌<◌ p v
  pub same : SameWeights p (vector_times_letters rows v left) (vector_times_letters rows start letters)
  pub can : CanTrace p rows v left

pub way_starts : (p : ℕ) (rows : PartialTable) (start : Combination ℕ) (letters left : List ℕ) → letters ≡ left → IsReduced ◌<◌ p start → CanTrace p rows start letters → IsOnTheWay p rows start letters start left
way_starts p rows start letters left e reduced can =
    let P : List ℕ → Type 0 = λ u. IsOnTheWay p rows start letters start u in
    subst P e (record { reduced = reduced; same = SameWeights-refl p (vector_times_letters rows start letters); can = can })

pub way_finds : (p : ℕ) (rows : PartialTable) (start v : Combination ℕ) (letters left : List ℕ) (x : ℕ) → IsOnTheWay p rows start letters v (x ∷ left) → HasProducts p rows v x
unfolding CanTrace
way_finds p rows start v letters left x way = way.can.0

pub way_goes_on : (p : ℕ) (rows : PartialTable) (start v w : Combination ℕ) (letters left : List ℕ) (x : ℕ) → IsOnTheWay p rows start letters v (x ∷ left) → IsReducedOf ◌<◌ nat_eq p w (vector_times rows v x) → IsOnTheWay p rows start letters w left
unfolding CanTrace vector_times_letters
way_goes_on p rows start v w letters left x way product = record {
  reduced = product.reduced;
  same = SameWeights-trans (letters_alike p rows w (vector_times rows v x) left (weights_of product)) way.same;
  can = CanTrace-alike p rows (vector_times rows v x) w left (SameWeights-sym (weights_of product)) way.can.1;
}

pub way_ends : (p : ℕ) (rows : PartialTable) (start v : Combination ℕ) (letters : List ℕ) → IsOnTheWay p rows start letters v [] → IsReducedOf ◌<◌ nat_eq p v (vector_times_letters rows start letters)
unfolding vector_times_letters
way_ends p rows start v letters way = reduced_by way.reduced way.same

-- the same, where the letters that are left are the end of a list
module _ (p : ℕ) (rows : PartialTable) (start : Combination ℕ) (letters : List ℕ) where
  abbrev pub IsOnTheWayAt : Combination ℕ → List ℕ → ℕ → Type 0
  IsOnTheWayAt v list at = IsOnTheWay p rows start letters v (drop at list)

  next_letter : (v : Combination ℕ) (list : List ℕ) (at : ℕ) → at < length list → IsOnTheWayAt v list at → IsOnTheWay p rows start letters v (get_or list at 0 ∷ drop (at + 1) list)
  next_letter v list at within way =
      let P : List ℕ → Type 0 = λ u. IsOnTheWay p rows start letters v u in
      subst P (drop-cons list at 0 within ∙ ap (λ n. get_or list at 0 ∷ drop n list) (sym (add-one at))) way

  pub way_finds_at : (v : Combination ℕ) (list : List ℕ) (at : ℕ) → at < length list → IsOnTheWayAt v list at → HasProducts p rows v (get_or list at 0)
  way_finds_at v list at within way = way_finds p rows start v letters (drop (at + 1) list) (get_or list at 0) (next_letter v list at within way)

  pub way_goes_on_at : (v w : Combination ℕ) (list : List ℕ) (at : ℕ) → at < length list → IsOnTheWayAt v list at
      → IsReducedOf ◌<◌ nat_eq p w (vector_times rows v (get_or list at 0)) → IsOnTheWayAt w list (at + 1)
  way_goes_on_at v w list at within way product = way_goes_on p rows start v w letters (drop (at + 1) list) (get_or list at 0) (next_letter v list at within way) product

  pub way_ends_at : (v : Combination ℕ) (list : List ℕ) (at : ℕ) → length list ≤ at → IsOnTheWayAt v list at → IsReducedOf ◌<◌ nat_eq p v (vector_times_letters rows start letters)
  way_ends_at v list at past way =
      let P : List ℕ → Type 0 = λ u. IsOnTheWay p rows start letters v u in
      way_ends p rows start v letters (subst P (drop_all at list past) way)
