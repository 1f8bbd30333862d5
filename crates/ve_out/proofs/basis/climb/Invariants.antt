use Rattle.ve_out.proofs.Climbing.{IsClimbed}
use Rattle.ve_out.proofs.basis.climb.Given as goal

abbrev pub invariant-loop-at : goal.invariant-loop-at
invariant-loop-at l = IsClimbed l.basis l.place l.at l.letters.items

abbrev pub decreases-loop-at : goal.decreases-loop-at
decreases-loop-at l = l.at
