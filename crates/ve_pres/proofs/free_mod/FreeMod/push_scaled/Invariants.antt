use Rattle.std.proofs.Common.{◌≡◌, ◌++◌, take}
use Rattle.ve_theory.specs.Combinations.{scaled}
use Rattle.ve_pres.specs.Terms.{pairs, residues}
use Rattle.ve_pres.proofs.free_mod.FreeMod.push_scaled.Given as goal

abbrev pub invariant-loop-term : goal.invariant-loop-term
invariant-loop-term l = pairs l.terms.items ≡ pairs l.initial.terms.items ++ residues l.field (scaled l.by (pairs (take l.term-index l.term-items)))
