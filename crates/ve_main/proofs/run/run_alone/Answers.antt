use Rattle.std.proofs.Common.{inl}
use Rattle.ve_port.specs.Sink.{Gains-nil}
use Rattle.ve_main.proofs.Runs.{IsReadOnce, finished_due, stopped_due, told_put, told_status}
use Rattle.ve_main.proofs.run.run_alone.Goals as goal

pub returns-in-Ok-clause-serves : goal.returns-in-Ok-clause-serves
returns-in-Ok-clause-serves g c command text due message served is_due =
    let once : IsReadOnce = record {
      same_presentation = c.text_spells_once.ensures.same_presentation;
      same_refusal = c.text_spells_once.ensures.same_refusal;
      never_both_readings = c.text_spells_once.ensures.never_both;
      valid = λ text P spells. (c.spelled_is_valid.ensures text P spells).presentation;
      same_place = c.texts_are_cut_once.ensures;
      same_answer = c.answers_are_read_once.ensures.same_answer;
      same_line = c.answers_are_read_once.ensures.same_line;
      never_both_answers = c.answers_are_read_once.ensures.never_both;
      lists = c.lists_are_unique.ensures;
      words = c.words_mean_once.ensures;
    } in
    told_status (finished_due once c.in-Ok.ensures.finished command text due message served is_due) (inl (Gains-nil _))

pub returns-in-Err-clause-serves : goal.returns-in-Err-clause-serves
returns-in-Err-clause-serves g c command text due message served is_due =
    let once : IsReadOnce = record {
      same_presentation = c.text_spells_once.ensures.same_presentation;
      same_refusal = c.text_spells_once.ensures.same_refusal;
      never_both_readings = c.text_spells_once.ensures.never_both;
      valid = λ text P spells. (c.spelled_is_valid.ensures text P spells).presentation;
      same_place = c.texts_are_cut_once.ensures;
      same_answer = c.answers_are_read_once.ensures.same_answer;
      same_line = c.answers_are_read_once.ensures.same_line;
      never_both_answers = c.answers_are_read_once.ensures.never_both;
      lists = c.lists_are_unique.ensures;
      words = c.words_mean_once.ensures;
    } in
    rw c.status.ensures
    (told_status (stopped_due once c.in-Err.stop c.in-Err.ensures.stopped command text due message served is_due)
    (told_put c.put.result c.put.ensures.gained c.put.ensures.failed c.message.ensures))
