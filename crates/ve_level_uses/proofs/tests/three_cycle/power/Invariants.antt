use Rattle.std.proofs.Common.{◌≡◌, ◌<◌, All}
use Rattle.ve_theory.specs.Words.{start, letters}
use Rattle.ve_level_uses.proofs.tests.three_cycle.power.Given as goal

abbrev pub invariant-loop : goal.invariant-loop
invariant-loop l = (start l.word ≡ 0) × All (λ x. x < 2) (letters l.word)
