-- What contracts say of vectors.
use Rattle.std.specs.Prelude.{ℕ, ◌<◌, Bool, IsTrue, All, List, not, filter, map, slice_index, nat_eq}
use Rattle.ve_theory.specs.Combinations.{Combination, IsReduced}

-- ids fall strictly, and no coefficient is 0
abbrev pub IsVector : Combination ℕ → Type 0
IsVector v = (bound : ℕ) × IsReduced ◌<◌ bound v

-- each id of v passes the test
abbrev pub AllIds : (ℕ → Bool) → Combination ℕ → Type 0
AllIds among v = All (λ t. IsTrue (among t.0)) v

-- the vector without its term of k
abbrev pub without : ℕ → Combination ℕ → Combination ℕ
without k v = filter (λ t. not (nat_eq t.0 k)) v

-- the vector with the number of each id in its place
abbrev pub numbered : List ℕ → Combination ℕ → Combination ℕ
numbered numbers v = map (λ t. (slice_index numbers t.0, t.1)) v
