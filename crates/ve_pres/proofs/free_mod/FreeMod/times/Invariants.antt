use Rattle.std.proofs.Common.{◌≡◌, take}
use Rattle.ve_theory.specs.Elements.{element_times}
use Rattle.ve_pres.specs.Terms.{pairs, residues}
use Rattle.ve_pres.proofs.free_mod.FreeMod.times.Given as goal

abbrev pub invariant-loop-term : goal.invariant-loop-term
invariant-loop-term l = pairs l.terms.items ≡ residues l.field (element_times (pairs (take l.term-index l.term-items)) l.right)
