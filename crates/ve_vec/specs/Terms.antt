-- What contracts see of terms.
use Rattle.std.specs.Prelude.{ℕ, List, map}
use Rattle.ve_theory.specs.Combinations.{Combination}
use Rattle.ve_vec.specs.declared.term.Term.{Term}

-- the place and its coefficient
abbrev pub pair_of : Term → ℕ × ℕ
pair_of t = (t.id, t.coef)

-- the terms as a sum
abbrev pub pairs : List Term → Combination ℕ
pairs terms = map pair_of terms
