use Rattle.std.proofs.Common.{arith}
use Rattle.std.proofs.lemmas.Result.{err_from_is_err_and}
use Rattle.ve_lex.proofs.Steps.{length-begins, lexes_through, fault_through, stands_first, goes_on}
use Rattle.ve_lex.proofs.lexer.next_token.Goals as goal

pub first_token-requires : goal.first_token-requires
first_token-requires c = c.split_separators.ensures.end

pub returns-in_err-token-clause-fault : goal.returns-in_err-token-clause-fault
returns-in_err-token-clause-fault c =
    let failed = err_from_is_err_and c.from_residual.result c.from_residual.ensures.1 in
    rw (failed.1, failed.2) (fault_through _ _ _ _ c.split_separators.ensures _ c.in_err-token.ensures.fault)

pub returns-in_default-clause-next : goal.returns-in_default-clause-next
returns-in_default-clause-next c =
    let none_left = rw c.in_default.is at c.in_ok-token.ensures.front in
    lexes_through _ _ _ _ c.split_separators.ensures _ none_left

pub overflow_sub-end : goal.overflow_sub-end
overflow_sub-end c =
    let found = rw c.in-Some.is at c.in_ok-token.ensures.front in
    omega (arith, (length-begins found.0).1)

pub returns-clause-next : goal.returns-clause-next
returns-clause-next c =
    let found = rw c.in-Some.is at c.in_ok-token.ensures.front in
    (stands_first _ _ _ _ c.split_separators.ensures _ _ found.0 found.1, goes_on _ _ _ _ c.split_separators.ensures _ _ found.0 found.1)
