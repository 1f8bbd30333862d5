-- The identity matrix.
use Rattle.std.proofs.Common.{ℕ, ◌<◌, ◌^◌, List, map, All, sym, subst, arith, get_or, lit<}
use Rattle.std.specs.List.{range_with_len}
use Rattle.std.proofs.lemmas.List.Elements.{All-map}
use Rattle.std.proofs.lemmas.List.FromFn.{length-map-range_with_len, length-range_with_len, get_or-range_with_len}
use Rattle.ve_theory.specs.Combinations.{unit, AllBefore, IsReduced}
use Rattle.ve_theory.specs.Answers.{Row}
use Rattle.ve_theory.proofs.Remainders.{All-unit}
use Rattle.ve_matrix.specs.Matrices.{HasColumnsBelow, HasResidues, IsSquare, identity_matrix}

pub identity_square : (n : ℕ) → n < 2 ^ 32 → IsSquare (identity_matrix n)
identity_square n few = record {
  count = omega (arith, length-map-range_with_len unit 0 n);
  columns = subst (λ m. HasColumnsBelow m (identity_matrix n)) (sym (length-map-range_with_len unit 0 n))
      (All-map (λ (row : Row). All (λ t. t.0 < n) row) unit (range_with_len 0 n) placed);
}
  where
    placed : All (λ j. All (λ t. t.0 < n) (unit j)) (range_with_len 0 n)
    placed k d l =
        let within : k < n = omega (arith, length-range_with_len 0 n) in
        All-unit (λ j. j < n) (get_or (range_with_len 0 n) k d) (omega (arith, get_or-range_with_len 0 n k d within))

-- rows with a 1 each have residues modulo each number above 1
pub units_residues : (p : ℕ) (places : List ℕ) → 1 < p → HasResidues p (map unit places)
unfolding IsReduced AllBefore
units_residues p places large = All-map (IsReduced ◌<◌ p) unit places (λ k d l. (lit< tt, large, tt, tt))
