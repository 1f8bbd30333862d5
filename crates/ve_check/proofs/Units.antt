-- Vectors of one term.
use Rattle.std.proofs.Common.{◌≡◌, ℕ, nat_eq, Some, [], ◌∷◌, length, slice_get, refl, sym, ap, ◌∙◌, arith, eq-eqb}
use Rattle.std.specs.Prelude.{◌↔◌, Bool, true, ◌&&◌, IsTrue}
use Rattle.std.proofs.lemmas.Bool.{and_parts, eqb-true}
use Rattle.ve_theory.specs.Combinations.{unit}
use Rattle.ve_theory.specs.Answers.{Row}

one_term : (v : Row) (t : ℕ × ℕ) → length v ≡ 1 → slice_get v 0 ≡ Some t → v ≡ t ∷ []
one_term [] t one first = absurd (omega (arith, one))
one_term (s ∷ []) t one first = let same : s ≡ t = cc in ap (λ r. r ∷ []) same
one_term (s ∷ r ∷ v) t one first = absurd (omega (arith, one))

-- a test of the one term of a vector
pub unit_told : (v : Row) (t : ℕ × ℕ) (place : ℕ) (is : Bool) → length v ≡ 1 → slice_get v 0 ≡ Some t → is ≡ (nat_eq t.0 place && nat_eq t.1 1)
    → IsTrue is ↔ (v ≡ unit place)
unit_told v t place is one first test =
    let v_is : v ≡ t ∷ [] = one_term v t one first in (
      λ passes.
          let parts = and_parts (nat_eq t.0 place) (nat_eq t.1 1) (sym test ∙ passes) in
          let same : t ≡ (place, 1) = ap (λ b. (b, t.1)) (eqb-true t.0 place parts.0) ∙ ap (λ c. (place, c)) (eqb-true t.1 1 parts.1) in
          v_is ∙ ap (λ s. s ∷ []) same,
      λ unit_is.
          let same : Some t ≡ Some (place, 1) = sym first ∙ ap (λ u. slice_get u 0) unit_is in
          let here : t ≡ (place, 1) = cc in
          test ∙ ap (λ s. nat_eq s.0 place && nat_eq s.1 1) here ∙ ap (λ b. b && true) (eq-eqb place place refl),
    )
