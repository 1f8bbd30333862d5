use Rattle.std.proofs.Common.{◌≡◌, ◌≤◌, take}
use Rattle.ve_theory.specs.Elements.{element_weight}
use Rattle.ve_pres.specs.Terms.{pairs}
use Rattle.ve_pres.proofs.free_mod.FreeMod.weight.Given as goal

abbrev pub invariant-loop-term : goal.invariant-loop-term
invariant-loop-term l = (l.greatest ≡ element_weight l.weights (pairs (take l.term-index l.term-items))) × (l.greatest ≤ 16000)
