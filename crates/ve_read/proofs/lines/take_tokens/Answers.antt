use Rattle.std.proofs.lemmas.Result.{err_from_is_err_and}
use Rattle.ve_read.specs.Drafts.{draft_of}
use Rattle.ve_read.proofs.lines.take_tokens.Goals as goal

pub returns-in_err-form : goal.returns-in_err-form
returns-in_err-form c = λ line lexes.
    let failed = err_from_is_err_and c.from_residual.result c.from_residual.ensures.1 in
    rw (failed.1, failed.2) (c.in_err-form.ensures.judged (draft_of c.args.draft) line c.is_ended.ensures lexes)

pub take-requires-clause-formed : goal.take-requires-clause-formed
take-requires-clause-formed c = rw c.in-Some.is at c.in_ok-form.ensures.formed

pub returns-in-None : goal.returns-in-None
returns-in-None c = λ line lexes.
    let accepts = rw c.in-None.is at (c.in_ok-form.ensures.judged (draft_of c.args.draft) line c.is_ended.ensures lexes) in
    record { accepts = accepts; kept = c.requires.kept }

pub returns-in-Some : goal.returns-in-Some
returns-in-Some c = λ line lexes.
    let there = rw c.in-Some.is at (c.in_ok-form.ensures.judged (draft_of c.args.draft) line c.is_ended.ensures lexes) in
    there.2 c.take.result (c.take.ensures there.0 there.1)
