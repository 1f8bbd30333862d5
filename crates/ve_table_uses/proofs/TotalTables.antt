-- Tables that have each row.
use Rattle.std.proofs.Common.{◌≢◌, ℕ, List, [], ◌∷◌, None}
use Rattle.ve_theory.specs.Combinations.{Combination}
use Rattle.ve_vec.specs.Tracing.{PartialTable, vector_times, CanTrace}

pub traced_everywhere : (p : ℕ) (rows : PartialTable) (v : Combination ℕ) (u : List ℕ) → ((b x : ℕ) → rows b x ≢ None) → CanTrace p rows v u
unfolding CanTrace
traced_everywhere p rows v [] all = tt
traced_everywhere p rows v (x ∷ u) all = (λ b none. absurd (all b x none), traced_everywhere p rows (vector_times rows v x) u all)
