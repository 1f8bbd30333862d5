use Rattle.ve_answers.proofs.BasisSteps.{BasisSoFar}
use Rattle.ve_answers.proofs.basis.read_basis.Given as goal

-- the words so far fill the first places
abbrev pub invariant-loop-place : goal.invariant-loop-place
invariant-loop-place l = BasisSoFar l.head l.initial.lines l._place l.basis.items l.texts l.lines
