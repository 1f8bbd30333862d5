use Rattle.ve_matrix.proofs.Evaluating.{answers_traced}
use Rattle.ve_matrix.proofs.answer.evaluation.answers_are_traced.Goals as goal

pub returns : goal.returns
returns c = answers_traced
