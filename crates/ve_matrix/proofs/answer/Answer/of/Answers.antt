use Rattle.std.proofs.Common.{sym, subst}
use Rattle.ve_table.specs.Tables.{presented}
use Rattle.ve_matrix.specs.Answers.{answer_of}
use Rattle.ve_table.specs.Parts.{HasAllRows}
use Rattle.ve_matrix.specs.Copying.{IsCopyOf}
use Rattle.ve_matrix.proofs.Answering.{all_rows, module_answer, answer_value}
use Rattle.ve_matrix.proofs.answer.Answer.of.Goals as goal

pub copy_table-requires : goal.copy_table-requires
copy_table-requires c =
    subst HasAllRows (sym c.table.ensures)
    (all_rows c.args.finished.now c.is_finished.ensures c.requires.packed c.requires.closes c.reaches_are_bounded.ensures c.finished_levels_settle.ensures)

pub returns-clause-answer : goal.returns-clause-answer
returns-clause-answer c =
    let copy = subst (λ T. IsCopyOf T c.in_ok-answer.answer) c.table.ensures c.in_ok-answer.ensures in
    module_answer c.args.finished.now c.is_finished.ensures c.requires.packed c.requires.closes c.closing_levels_settle.ensures c.in_ok-answer.answer copy c.levels_grow.ensures

pub returns-clause-value : goal.returns-clause-value
returns-clause-value c =
    let copy = subst (λ T. IsCopyOf T c.in_ok-answer.answer) c.table.ensures c.in_ok-answer.ensures in
    answer_value c.args.finished.now c.is_finished.ensures c.requires.packed c.requires.closes c.closing_levels_settle.ensures c.in_ok-answer.answer copy

pub returns-clause-decides : goal.returns-clause-decides
returns-clause-decides c =
    c.answers_decide.ensures (presented c.args.finished.now) (answer_of c.in_ok-answer.answer) c.is_finished.ensures.sound.valid.presentation (returns-clause-answer c)
