use Rattle.ve_matrix.specs.Answers.{answer_of}
use Rattle.ve_matrix.specs.Disorders.{ImagesAreOrderedBelow}
use Rattle.ve_matrix.proofs.answer.Answer.first_image_above.Given as goal

abbrev pub invariant-loop-root : goal.invariant-loop-root
invariant-loop-root l = ImagesAreOrderedBelow l.presentation.presentation (answer_of l.self).action l.root
