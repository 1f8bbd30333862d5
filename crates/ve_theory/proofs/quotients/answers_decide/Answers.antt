use Rattle.ve_theory.proofs.quotients.answers_decide.Goals as goal
use Rattle.ve_theory.proofs.AnswerKernels.{answers_decide}

pub returns : goal.returns
returns c = answers_decide
