use Rattle.std.proofs.lemmas.Result.{err_from_is_err_and}
use Rattle.ve_main.proofs.Reading.{stops_in_front, stops_behind, is_claim}
use Rattle.ve_main.proofs.claim.read_claim.Goals as goal

pub returns-in_err-presentation-clause-stopped : goal.returns-in_err-presentation-clause-stopped
returns-in_err-presentation-clause-stopped c =
    let p = err_from_is_err_and c.from_residual.result c.from_residual.ensures.1 in
    rw (p.1, p.2) (stops_in_front _ _ _ (record { within = c.split.ensures.within; split = c.split.ensures.place }) c.split_at.ensures.front _ c.in_err-presentation.ensures.stopped)

pub returns-in_err-answer-clause-stopped : goal.returns-in_err-answer-clause-stopped
returns-in_err-answer-clause-stopped c =
    let p = err_from_is_err_and c.from_residual-in_err-answer.result c.from_residual-in_err-answer.ensures.1 in
    rw (p.1, p.2) (stops_behind _ _ _ _ _ (record { within = c.split.ensures.within; split = c.split.ensures.place }) c.split_at.ensures.front c.split_at.ensures.back
    c.in_ok-presentation.ensures.spelled _ c.in_err-answer.ensures.stopped)

pub returns-clause-claim : goal.returns-clause-claim
returns-clause-claim c =
    is_claim _ _ _ _ _ _ (record { within = c.split.ensures.within; split = c.split.ensures.place }) c.split_at.ensures.front c.split_at.ensures.back
    c.in_ok-presentation.ensures.spelled c.in_ok-answer.ensures.shown
