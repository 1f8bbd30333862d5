use Rattle.std.proofs.Common.{◌≡◌, max, take}
use Rattle.ve_theory.specs.Presentations.{greatest_of}
use Rattle.ve_pres.proofs.presentation.letters.Letters.greatest_weight.Given as goal

abbrev pub invariant-loop-weight : goal.invariant-loop-weight
invariant-loop-weight l = l.greatest ≡ max 1 (greatest_of (λ w. w) (take l.weight-index l.self.weights.items))
