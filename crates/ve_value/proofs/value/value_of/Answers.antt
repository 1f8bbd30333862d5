use Rattle.std.proofs.lemmas.Result.{err_from_is_err_and}
use Rattle.ve_value.proofs.TokenLists.{past_end, tokens_from, tokens_past}
use Rattle.ve_value.proofs.Evaluating.{begins, can_read, reads_further, fails_to_read, can_finish, finished}
use Rattle.ve_value.proofs.value.value_of.Goals as goal

pub loop-placed-init : goal.loop-placed-init
loop-placed-init c = begins _ _ _ (c.start-work.ensures _ _)

pub read-requires : goal.read-requires
read-requires c =
    let before = rw (tokens_from c.args.tokens.now c.loop-placed.placed-index c.loop-placed-test.true) at c.loop-placed.invariant in
    record { written = c.requires.written _ past_end c.loop-placed-test.true; goes_on = can_read _ _ _ _ _ c.requires.formed before }

pub returns-in_err-work : goal.returns-in_err-work
returns-in_err-work c = λ e is.
    let failed = err_from_is_err_and c.from_residual.result c.from_residual.ensures.1 in
    let before = rw (tokens_from c.args.tokens.now c.loop-placed.placed-index c.loop-placed-test.true) at c.loop-placed.invariant in
    rw (failed.1, failed.2) (fails_to_read _ c.loop-placed.work _ _ _ _ c.requires.formed before c.in_err-work.ensures e is)

pub loop-placed-preserved : goal.loop-placed-preserved
loop-placed-preserved c =
    let before = rw (tokens_from c.args.tokens.now c.loop-placed.placed-index c.loop-placed-test.true) at c.loop-placed.invariant in
    reads_further _ c.loop-placed.work _ _ _ _ c.requires.formed before c.in_ok-work.ensures

pub finish-requires : goal.finish-requires
finish-requires c =
    let before = rw (tokens_past c.args.tokens.now c.loop-placed.placed-index c.loop-placed-test.false) at c.loop-placed.invariant in
    can_finish _ _ _ c.requires.formed before

pub returns : goal.returns
returns c =
    let before = rw (tokens_past c.args.tokens.now c.loop-placed.placed-index c.loop-placed-test.false) at c.loop-placed.invariant in
    finished _ _ _ _ before c.finish.ensures
