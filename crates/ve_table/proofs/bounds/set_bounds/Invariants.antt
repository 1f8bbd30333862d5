use Rattle.ve_table.proofs.Bounding.{AreBoundsTo}
use Rattle.ve_table.proofs.bounds.set_bounds.Given as goal

abbrev pub invariant-loop-letter : goal.invariant-loop-letter
invariant-loop-letter l = AreBoundsTo l.weights l.level l.entries l.letter l.bounds
