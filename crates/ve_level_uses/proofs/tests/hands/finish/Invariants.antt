use Rattle.ve_table.specs.Tables.{presented}
use Rattle.ve_hand.specs.Fits.{FitsHand}
use Rattle.ve_level_uses.proofs.tests.hands.finish.Given as goal

abbrev pub invariant-loop-time : goal.invariant-loop-time
invariant-loop-time l = FitsHand (presented l.table).prime l.hand
