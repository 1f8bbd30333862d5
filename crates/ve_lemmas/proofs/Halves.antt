-- The inverse of letters, and the half of an element.
use Rattle.std.proofs.Common.{◌≡◌, ℕ, ◌+◌, ◌≤◌, List, [], ◌∷◌, length, take, drop, All, Option, Some, refl, ap, ap₂, ◌∙◌, append-nil, arith}
use Rattle.std.proofs.Math.Seq.{take-length}
use Rattle.std.proofs.lemmas.List.{drop_all}
use Rattle.std.proofs.lemmas.List.Elements.{All-head, All-tail}
use Rattle.ve_theory.specs.Elements.{AlgebraElement, inverse_of_letters, halved}
use Rattle.ve_theory.proofs.Halves.{kept_letters}
pub use Rattle.ve_theory.proofs.InverseLetters.{Inverted, inverted}
pub use Rattle.ve_theory.proofs.Halves.{kept_letters}

-- words whose lengths differ by at most 1 are their own half
pub own_half : (inverses : List (Option ℕ)) (n : ℕ) (h : AlgebraElement) → length h ≤ 2 → All (λ t. (n ≤ length t.0) × (length t.0 ≤ n + 1)) h → halved inverses h ≡ h
unfolding halved inverse_of_letters
own_half inverses n [] few near = refl
own_half inverses n (s ∷ []) few near = refl
own_half inverses n (s ∷ t ∷ r ∷ v) few near = absurd (omega arith)
own_half inverses n (s ∷ t ∷ []) few near =
    let first : (n ≤ length s.0) × (length s.0 ≤ n + 1) = All-head (λ (t : List ℕ × ℕ). (n ≤ length t.0) × (length t.0 ≤ n + 1)) s (t ∷ []) near in
    let second : (n ≤ length t.0) × (length t.0 ≤ n + 1) =
    All-head (λ (t : List ℕ × ℕ). (n ≤ length t.0) × (length t.0 ≤ n + 1)) t [] (All-tail (λ (t : List ℕ × ℕ). (n ≤ length t.0) × (length t.0 ≤ n + 1)) s (t ∷ []) near) in
    let all : kept_letters s.0 t.0 ≡ length s.0 = omega arith in
    let none : inverse_of_letters inverses (drop (kept_letters s.0 t.0) s.0) ≡ Some [] = ap (λ k. inverse_of_letters inverses (drop k s.0)) all ∙ ap (inverse_of_letters inverses) (drop_all (length s.0) s.0 (omega arith)) in
    rw none (ap₂ (λ u v. (u, s.1) ∷ (v, t.1) ∷ []) (ap (λ k. take k s.0) all ∙ take-length s.0) (append-nil t.0))
