use Rattle.ve_answers.proofs.MatrixSteps.{MatricesSoFar}
use Rattle.ve_answers.proofs.rows.read_matrices.Given as goal

-- the matrices so far fill the first places
abbrev pub invariant-loop-letter : goal.invariant-loop-letter
invariant-loop-letter l = MatricesSoFar l.head l.initial.lines l.letter l.matrices.items l.lines
