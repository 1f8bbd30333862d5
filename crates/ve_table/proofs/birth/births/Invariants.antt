use Rattle.ve_table.specs.Births.{AreBirths}
use Rattle.ve_table.proofs.birth.births.Given as goal

abbrev pub invariant-loop-weight : goal.invariant-loop-weight
invariant-loop-weight l = AreBirths l.weights l.entries l.reach l.weight l.births.items
