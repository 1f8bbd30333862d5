use Rattle.std.proofs.Common.{◌≡◌, ◌≤◌, ◌*◌, take}
use Rattle.ve_theory.specs.Validity.{element_cells}
use Rattle.ve_pres.specs.Terms.{pairs}
use Rattle.ve_pres.proofs.free_mod.FreeMod.cells.Given as goal

abbrev pub invariant-loop-term : goal.invariant-loop-term
invariant-loop-term l = (l.cells ≡ element_cells (pairs (take l.term-index l.term-items))) × (l.cells ≤ 1001 * l.term-index)
