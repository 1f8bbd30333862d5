use Rattle.std.proofs.Common.{◌≡◌, max, take}
use Rattle.ve_theory.specs.Elements.{algebra_weight}
use Rattle.ve_theory.specs.Presentations.{greatest_of}
use Rattle.ve_pres.proofs.presentation.letters.Letters.bound.Given as goal

abbrev pub invariant-loop-relator : goal.invariant-loop-relator
invariant-loop-relator l =
    l.bound ≡ max (max 1 (greatest_of (λ w. w) l.self.weights.items)) (greatest_of (algebra_weight l.self.weights.items) (take l.relator-index l.self.relators.items))
