-- Formal sums: their coefficients, their keys, and lists whose keys fall.
use Rattle.std.proofs.Common.{ℕ, ◌≤◌, [], ◌∷◌, All, arith}
use Rattle.std.proofs.lemmas.List.Elements.{All-head, All-tail}
use Rattle.ve_theory.specs.Combinations.{Combination, AllBefore}
use Rattle.ve_theory.specs.Elements.{greatest}
use Rattle.ve_theory.proofs.DerivationTrees.{All-greatest}
pub use Rattle.ve_theory.proofs.Sums.{coefficient-append, coefficient-absent}
pub use Rattle.ve_theory.proofs.Members.{All-scaled}
pub use Rattle.ve_theory.proofs.Reduced.{All_from_AllBefore}
pub use Rattle.ve_theory.proofs.RelatorReaches.{greatest-le}

pub AllBefore_from_All : {K : Type 0} (before : K → K → Type 0) (k : K) (v : Combination K) → All (λ t. before t.0 k) v → AllBefore before k v
unfolding AllBefore
AllBefore_from_All before k [] h = tt
AllBefore_from_All {K} before k (t ∷ v) h =
    (All-head (λ (s : K × ℕ). before s.0 k) t v h, AllBefore_from_All before k v (All-tail (λ (s : K × ℕ). before s.0 k) t v h))

-- no key's size is above the greatest
pub le-greatest : {K : Type 0} (size : K → ℕ) (v : Combination K) → All (λ t. size t.0 ≤ greatest size v) v
le-greatest size v = All-greatest size v (greatest size v) (omega arith)
