use Rattle.std.proofs.Common.{◌≡◌, ℕ, ◌<◌, All, length, take}
use Rattle.ve_vec.specs.Vectors.{numbered}
use Rattle.ve_table_uses.proofs.tests.vectors.has_numbers.Given as goal

abbrev pub invariant-loop-at : goal.invariant-loop-at
invariant-loop-at l = record {
  numbers : take l.at l.v ≡ numbered l.numbers (take l.at l.other);
  ids : All (λ (t : ℕ × ℕ). t.0 < length l.numbers) (take l.at l.other);
}
