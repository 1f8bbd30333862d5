-- A level that is not far up has a next one.
use Rattle.std.proofs.Common.{ℕ, ◌+◌, ◌*◌, ◌^◌, ◌<◌, ◌≤◌, ◌⊎◌, inl, inr, arith}
use Rattle.std.proofs.Math.Nat.{mul-le-mul_right}
use Rattle.ve_theory.specs.Presentations.{Presentation, greatest_step, relator_bound, submodule_bound}
use Rattle.ve_theory.specs.Laws.{HasSmallReaches}

pub next_level_within : (P : Presentation) → HasSmallReaches P → (level limit : ℕ) → limit ≤ 1000000
    → (level < submodule_bound P) ⊎ (level < greatest_step P * limit + relator_bound P) → level + 1 < 2 ^ 32
next_level_within P reaches level limit small (inl below) = omega (arith, below, reaches.submodule)
next_level_within P reaches level limit small (inr below) = omega (arith, small, below, reaches.relators, mul-le-mul_right limit reaches.steps)
