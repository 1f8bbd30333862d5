use Rattle.ve_plain.specs.Works.{left_to_do}
use Rattle.ve_plain.proofs.Settling.{IsSettling}
use Rattle.ve_plain.proofs.work.Work.settle.Given as goal

abbrev pub invariant-loop-id : goal.invariant-loop-id
invariant-loop-id l = IsSettling l.initial.self l.self

abbrev pub decreases-loop-id : goal.decreases-loop-id
decreases-loop-id l = left_to_do l.self
