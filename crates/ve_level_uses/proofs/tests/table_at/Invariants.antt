use Rattle.ve_level_uses.specs.Working.{IsReady}
use Rattle.ve_level_uses.proofs.tests.table_at.Given as goal

abbrev pub invariant-loop-level : goal.invariant-loop-level
invariant-loop-level l = IsReady l.limit l.table
