-- Relators: how many there are, the letters that they have, and the room that they take.
use Rattle.std.proofs.Common.{ℕ, ◌+◌, ◌-◌, ◌*◌, ◌≤◌, Option, Some, None, List, [], ◌∷◌, length, arith}
use Rattle.std.specs.Prelude.{sum_by}
use Rattle.std.proofs.lemmas.List.Sums.{sum_by-cons}
use Rattle.ve_theory.specs.Presentations.{inverse_relators}
use Rattle.ve_theory.specs.Validity.{algebra_cells}
pub use Rattle.ve_theory.proofs.AnswerKernels.{inverse_relators_letters, relators_letters}

pub length-inverse_relators : (p x : ℕ) (inverses : List (Option ℕ)) → length (inverse_relators p x inverses) ≤ length inverses
unfolding inverse_relators
length-inverse_relators p x [] = omega arith
length-inverse_relators p x (None ∷ inverses) = omega (arith, length-inverse_relators p (x + 1) inverses)
length-inverse_relators p x (Some y ∷ inverses) = omega (arith, length-inverse_relators p (x + 1) inverses)

pub inverse_cells : (p x : ℕ) (inverses : List (Option ℕ)) → sum_by algebra_cells (inverse_relators p x inverses) ≤ 4 * length inverses
unfolding inverse_relators
inverse_cells p x [] = omega arith
inverse_cells p x (None ∷ inverses) = let rest = inverse_cells p (x + 1) inverses in omega (arith, rest)
inverse_cells p x (Some y ∷ inverses) =
    let rest = inverse_cells p (x + 1) inverses in
    let all = sum_by-cons algebra_cells ((x ∷ y ∷ [], 1) ∷ ([], p - 1) ∷ []) (inverse_relators p (x + 1) inverses) in
    omega (arith, rest, all)
