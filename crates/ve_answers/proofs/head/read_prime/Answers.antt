use Rattle.std.proofs.Common.{refl}
use Rattle.std.proofs.lemmas.Bool.{false≢true}
use Rattle.std.proofs.lemmas.Result.{err_from_is_err_and}
use Rattle.ve_answers.proofs.HeadLines.{prime_read, no_prime_line, no_prime}
use Rattle.ve_answers.proofs.head.read_prime.Goals as goal

pub returns-in_err-prime-clause-err : goal.returns-in_err-prime-clause-err
returns-in_err-prime-clause-err c =
    let failed = err_from_is_err_and c.from_residual.result c.from_residual.ensures.1 in
    rw (failed.1, failed.2) (no_prime_line c.in_err-prime.ensures.err)

pub returns-in-Some-clause-ok : goal.returns-in-Some-clause-ok
returns-in-Some-clause-ok c = rw c.in-Some.ensures.field (prime_read _ (c.in-Some.ensures.prime.0 refl) c.in_ok-prime.ensures.ok)

pub returns-in-None-clause-err : goal.returns-in-None-clause-err
returns-in-None-clause-err c = no_prime c.in_ok-prime.prime c.in_ok-prime.ensures.most (λ is. false≢true (c.in-None.ensures.prime.1 is)) c.in_ok-prime.ensures.ok c.refusal.ensures
