use Rattle.std.proofs.Common.{◌<◌, nat_eq, subst}
use Rattle.std.proofs.lemmas.Result.{IfOk-weaker}
use Rattle.ve_theory.specs.Combinations.{IsReducedOf}
use Rattle.ve_theory.specs.Answers.{Action, dimension, evaluation}
use Rattle.ve_trace.proofs.Vectors.{ids_of_sum}
use Rattle.ve_matrix.specs.Answers.{answer_of}
use Rattle.ve_matrix.specs.Evaluating.{IsTraced}
use Rattle.ve_matrix.proofs.answer.Answer.eval_free.Goals as goal

pub returns-clause-value : goal.returns-clause-value
returns-clause-value c =
    IfOk-weaker c.trace_sub.result _ _
    (λ v value. subst (λ e. IsReducedOf ◌<◌ nat_eq c.args.self.now.field v e) ((c.answers_are_traced.ensures c.args.self.now c.requires.answer).module_elements c.args.element.now) value)
    c.trace_sub.ensures.traced

pub returns-clause-row : goal.returns-clause-row
returns-clause-row c =
    let action : Action = (answer_of c.args.self.now).action in
    let traced : IsTraced c.args.self.now action = c.answers_are_traced.ensures c.args.self.now c.requires.answer in
    IfOk-weaker c.trace_sub.result _ _
    (λ v value. (value.reduced, ids_of_sum c.args.self.now.field (dimension action) v (evaluation action c.args.element.now) value (traced.placed_elements c.args.element.now c.requires.words)))
    (returns-clause-value c)
