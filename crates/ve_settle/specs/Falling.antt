-- What contracts see of a sum whose terms are taken by falling id.
use Rattle.std.specs.Prelude.{ℕ, ◌++◌, drop}
use Rattle.std.specs.BinaryHeap.{heap_items}
use Rattle.ve_theory.specs.Combinations.{Combination}
use Rattle.ve_settle.specs.declared.falling.FallingSum.{FallingSum}

-- the terms that are not yet taken
abbrev pub left_of : FallingSum → Combination ℕ
left_of s = drop s.taken s.sorted ++ heap_items s.loose.terms
