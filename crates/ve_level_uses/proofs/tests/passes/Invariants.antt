use Rattle.ve_level_uses.specs.Working.{IsReady}
use Rattle.ve_level_uses.proofs.tests.passes.Given as goal

abbrev pub invariant-loop-at : goal.invariant-loop-at
invariant-loop-at l = IsReady l.limit l.table
