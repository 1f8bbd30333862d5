-- A vector and its numbers, compared term by term.
use Rattle.std.proofs.Common.{◌≡◌, ℕ, ◌+◌, ◌<◌, Some, List, [], ◌∷◌, ◌++◌, take, All, sym, ap, ap₂, subst, ◌∙◌, add-one}
use Rattle.std.specs.Prelude.{slice_get, slice_index}
use Rattle.std.proofs.Math.Seq.{take-suc}
use Rattle.std.proofs.lemmas.List.{map_push}
use Rattle.std.proofs.lemmas.List.Elements.{All-push}
use Rattle.std.proofs.lemmas.Option.{slice_get_within, get_or_from_slice_get}
use Rattle.ve_theory.specs.Combinations.{Combination}
use Rattle.ve_vec.specs.Vectors.{numbered}

next_term : {K : Type 0} (v : List K) (i : ℕ) (t : K) → slice_get v i ≡ Some t → take (i + 1) v ≡ take i v ++ t ∷ []
next_term v i t found = rw add-one (take-suc v i t (slice_get_within v i t found) ∙ ap (λ s. take i v ++ s ∷ []) (get_or_from_slice_get v i t t found))

pub next_number : (v w : Combination ℕ) (numbers : List ℕ) (i k c n : ℕ) → slice_get w i ≡ Some (k, c) → n ≡ slice_index numbers k → slice_get v i ≡ Some (n, c)
    → take i v ≡ numbered numbers (take i w) → take (i + 1) v ≡ numbered numbers (take (i + 1) w)
next_number v w numbers i k c n in_w number in_v same =
    let here : (n, c) ≡ (slice_index numbers k, c) = ap (λ m. (m, c)) number in
    next_term v i (n, c) in_v ∙ ap₂ (λ u t. u ++ t ∷ []) same here
    ∙ sym (ap (numbered numbers) (next_term w i (k, c) in_w) ∙ map_push (λ t. (slice_index numbers t.0, t.1)) (take i w) (k, c))

pub next_inside : (w : Combination ℕ) (n i : ℕ) (t : ℕ × ℕ) → slice_get w i ≡ Some t → t.0 < n → All (λ t. t.0 < n) (take i w) → All (λ t. t.0 < n) (take (i + 1) w)
next_inside w n i t in_w within before = subst (λ v. All (λ (s : ℕ × ℕ). s.0 < n) v) (sym (next_term w i t in_w)) (All-push (λ (s : ℕ × ℕ). s.0 < n) (take i w) t before within)
