use Rattle.std.proofs.Common.{◌≡◌, map, take}
use Rattle.ve_theory.specs.Presentations.{relator_reach, relators}
use Rattle.ve_table.proofs.reaches.relator_reaches.Given as goal

abbrev pub invariant-loop-number : goal.invariant-loop-number
invariant-loop-number l = l.reaches.items ≡ map (relator_reach l.presentation.presentation) (take l.number (relators l.presentation.presentation))
