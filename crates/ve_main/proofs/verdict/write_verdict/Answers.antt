use Rattle.std.proofs.lemmas.Result.{err_from_is_err_and}
use Rattle.ve_matrix.specs.Answers.{answer_of}
use Rattle.ve_main.specs.Claims.{Judges}
use Rattle.ve_main.proofs.Texts.{stopped_writing}
use Rattle.ve_main.proofs.Verdicts.{judged}
use Rattle.ve_main.proofs.verdict.write_verdict.Goals as goal

pub returns-in_err-put-clause-stopped : goal.returns-in_err-put-clause-stopped
returns-in_err-put-clause-stopped g c =
    let p = err_from_is_err_and c.from_residual-in_err-put.result c.from_residual-in_err-put.ensures.1 in
    let P = c.args.claim.now.presentation.presentation in
    let A = answer_of c.args.claim.now.answer in
    let called = judged P A c.in_ok-verdict.verdict c.in_ok-text.text.items c.in_ok-verdict.ensures.verdict c.in_ok-verdict.ensures.quotient c.in_ok-text.ensures in
    rw (p.1, p.2) (stopped_writing (Judges P A) _ _ _ _ _ called (rw c.deref.ensures.value at c.in_err-put.ensures.stopped))
