-- A vector is reduced in one way at most, so that this may be a ghost field.
use Rattle.std.specs.Prelude.{ℕ, ◌<◌, [], ◌∷◌}
use Rattle.std.specs.Coded.{le_prop, Unit-prop}
use Rattle.ve_theory.specs.Combinations.{Combination, AllBefore, IsReduced}

AllBefore-prop : (k : ℕ) (v : Combination ℕ) → IsProp (AllBefore ◌<◌ k v)
unfolding AllBefore
AllBefore-prop k [] = Unit-prop
AllBefore-prop k (t ∷ v) = λ f g i. (le_prop f.0 g.0 i, AllBefore-prop k v f.1 g.1 i)

pub IsReduced-prop : (p : ℕ) (v : Combination ℕ) → IsProp (IsReduced ◌<◌ p v)
unfolding IsReduced
IsReduced-prop p [] = Unit-prop
IsReduced-prop p (t ∷ v) =
    λ f g i. (le_prop f.0 g.0 i, le_prop f.1 g.1 i, AllBefore-prop t.0 v f.2 g.2 i, IsReduced-prop p v f.3 g.3 i)
