use Rattle.std.proofs.Common.{inl, refl}
use Rattle.std.proofs.lemmas.Result.{err_from_is_err_and}
use Rattle.ve_read.proofs.HeaderLines.{prime_taken, prime_refused, prime_second}
use Rattle.ve_read.proofs.draft.Draft.prime.Goals as goal
use Rattle.ve_read.proofs.draft.Draft.prime.Goals.{in-Blank, in-Versioned+in_ok-built-in-Versioned, in-Built}

pub returns-in_err-built-in-Versioned : goal.returns-in_err-built-in-Versioned
returns-in_err-built-in-Versioned c =
    let failed = err_from_is_err_and c.from_residual.result c.from_residual.ensures.1 in
    let told = c.in_err-built-in-Versioned.ensures in
    rw (c.in-Versioned.is, failed.1, failed.2) (prime_refused _ c.args.prime _ told.0 told.1)

pub returns : goal.returns
returns c = elim c.match-self.branch [
  | in-Blank w ↦ rw (w.in-Blank.is, w.result-is) (inl (refl, λ h. cc))
  | in-Versioned+in_ok-built-in-Versioned w ↦ rw (w.in-Versioned.is, w.result-is) (prime_taken _ c.args.prime _ w.in_ok-built-in-Versioned.ensures)
  | in-Built w ↦ rw (w.in-Built.is, w.result-is) (inl (refl, prime_second w.in-Built.field-0 c.args.prime))
]
