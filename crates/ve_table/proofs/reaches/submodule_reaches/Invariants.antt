use Rattle.std.proofs.Common.{◌≡◌, map, take}
use Rattle.ve_theory.specs.Presentations.{element_reach}
use Rattle.ve_table.proofs.reaches.submodule_reaches.Given as goal

abbrev pub invariant-loop-number : goal.invariant-loop-number
invariant-loop-number l = l.reaches.items ≡ map (element_reach l.presentation.presentation) (take l.number l.presentation.presentation.submodule)
