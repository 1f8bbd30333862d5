use Rattle.std.proofs.Common.{◌≡◌, take}
use Rattle.ve_pres.proofs.presentation.copies.copy_relators.Given as goal

abbrev pub invariant-loop-relator : goal.invariant-loop-relator
invariant-loop-relator l = l.copies.items ≡ take l.relator-index l.relators.items
