use Rattle.std.proofs.Common.{refl, ◌≡◌, ◌<◌, [], nat_eq, length, ap, ap₂, ◌∙◌, subst, arith}
use Rattle.std.proofs.lemmas.List.{get_or_read_under}
use Rattle.std.proofs.lemmas.Result.{IfOk-weaker}
use Rattle.ve_theory.specs.Combinations.{IsReducedOf}
use Rattle.ve_theory.specs.Words.{start}
use Rattle.ve_theory.specs.Answers.{Action, dimension, image_row, word_row}
use Rattle.ve_vec.specs.Tracing.{vector_times_letters}
use Rattle.ve_trace.proofs.Vectors.{ids_of_sum}
use Rattle.ve_matrix.specs.Answers.{answer_of}
use Rattle.ve_matrix.specs.Evaluating.{IsTraced, answer_table}
use Rattle.ve_matrix.proofs.answer.Answer.eval_word.Goals as goal

pub returns-clause-value : goal.returns-clause-value
returns-clause-value c =
    let action : Action = (answer_of c.args.self.now).action in
    let traced : IsTraced c.args.self.now action = c.answers_are_traced.ensures c.args.self.now c.requires.answer in
    let root : c.from.result ≡ start c.args.word.now = c.from.ensures ∙ c.root_of.ensures.root in
    let image : c.index-image.result.now ≡ image_row action (start c.args.word.now) =
    get_or_read_under c.args.self.now.images.items c.from.result (length c.args.self.now.images.items) c.index-image.result.now [] c.index-image.ensures
    (omega (arith, root, c.requires.word.0, c.requires.answer.form.one_image_each)) refl
    ∙ ap (λ i. image_row action i) root in
    IfOk-weaker c.trace_word.result _ _
    (λ v value. subst (λ e. IsReducedOf ◌<◌ nat_eq c.args.self.now.field v e)
    (ap₂ (vector_times_letters (answer_table c.args.self.now)) image (c.deref.ensures.value ∙ c.spelling.ensures) ∙ traced.words c.args.word.now) value)
    c.trace_word.ensures.traced

pub returns-clause-row : goal.returns-clause-row
returns-clause-row c =
    let action : Action = (answer_of c.args.self.now).action in
    let traced : IsTraced c.args.self.now action = c.answers_are_traced.ensures c.args.self.now c.requires.answer in
    IfOk-weaker c.trace_word.result _ _
    (λ v value. (value.reduced, ids_of_sum c.args.self.now.field (dimension action) v (word_row action c.args.word.now) value (traced.placed_words c.args.word.now c.requires.word)))
    (returns-clause-value c)
