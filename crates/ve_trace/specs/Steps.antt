-- Products of one term with letters, as far as they have one term.
use Rattle.std.specs.Prelude.{ℕ, ◌<◌, List, [], ◌∷◌, nat_eq}
use Rattle.ve_theory.specs.Combinations.{Combination, Alike}
use Rattle.ve_vec.specs.Tracing.{PartialTable, CanTrace, vector_times_letters}
use Rattle.ve_vec.specs.declared.term.Term.{Term}

-- the vector of one term
abbrev pub single : Term → Combination ℕ
single t = (t.id, t.coef) ∷ []

-- a term times letters is alike to another one times the letters that are left, and there are rows for it
pub record LeadsTo (p : ℕ) (rows : PartialTable) (start : Term) (letters : List ℕ) (term : Term) (left : List ℕ) : Type 0 where
  pub residue : term.coef < p
  pub alike : Alike nat_eq p (vector_times_letters rows (single term) left) (vector_times_letters rows (single start) letters)
  pub can : CanTrace p rows (single term) left
