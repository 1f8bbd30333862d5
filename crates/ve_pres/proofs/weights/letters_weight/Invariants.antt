use Rattle.std.proofs.Common.{◌≡◌, ◌≤◌, ◌*◌, take}
use Rattle.ve_theory.specs.Words.{letters_weight}
use Rattle.ve_pres.proofs.weights.letters_weight.Given as goal

abbrev pub invariant-loop-letter : goal.invariant-loop-letter
invariant-loop-letter l = (l.weight ≡ letters_weight l.weights (take l.letter-index l.letters)) × (l.weight ≤ 16 * l.letter-index)
