-- Values that are zero.
use Rattle.std.proofs.Common.{◌≡◌, ℕ, ◌<◌, ◌%◌, nat_eq, [], length, sym, ap, ◌∙◌, eq-eqb}
use Rattle.std.specs.Prelude.{◌↔◌, IsTrue}
use Rattle.std.proofs.lemmas.Bool.{eqb-true}
use Rattle.std.proofs.lemmas.List.{nil_from_length}
use Rattle.ve_theory.specs.Combinations.{coefficient, IsReduced, IsReducedOf}
use Rattle.ve_theory.specs.Answers.{Row, IsZeroRow}
use Rattle.ve_theory.specs.Laws.{ReducedListsAreUnique}

-- a vector has no terms exactly where the sum that it is the list of vanishes
pub vanishing_told : (p n : ℕ) (v e : Row) → ReducedListsAreUnique → n ≡ length v → IsReducedOf ◌<◌ nat_eq p v e → IsTrue (nat_eq n 0) ↔ IsZeroRow p e
unfolding IsReduced
vanishing_told p n v e unique count value = (
  λ none k. sym (value.alike k) ∙ ap (λ u. coefficient nat_eq u k % p) (nil_from_length v (sym count ∙ eqb-true n 0 none)),
  λ zero. eq-eqb n 0 (count ∙ ap length (unique.rows p v [] value.reduced tt (λ k. value.alike k ∙ zero k))),
)
