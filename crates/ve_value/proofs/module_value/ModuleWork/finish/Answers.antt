use Rattle.std.proofs.lemmas.Result.{err_from_is_err_and}
use Rattle.ve_value.proofs.ModuleWorkSteps.{zero_worth, wanted_not_whole, scaling_not_whole, zero_finishes, term_finishes, product_finishes, product_fails_at_end, can_multiply, can_total_product, can_total_zero}
use Rattle.ve_value.proofs.module_value.ModuleWork.finish.Goals as goal

pub total-requires : goal.total-requires
total-requires c = can_total_zero _ _ _ _ c.in-Number.is (zero_worth _ c.zero.result c.zero.ensures.zero c.zero.ensures.reduced) _ c.requires.1

pub multiplied-requires : goal.multiplied-requires
multiplied-requires c = can_multiply _ _ _ _ c.in-Multiplying.is _ c.requires.1 c.requires.2

pub total-requires-in-Multiplying : goal.total-requires-in-Multiplying
total-requires-in-Multiplying c = can_total_product _ _ _ _ _ c.in-Multiplying.is _ c.requires.1 c.requires.2 c.in_ok-value-in-Multiplying.ensures

pub unreachable-requires : goal.unreachable-requires
unreachable-requires c = wanted_not_whole _ _ _ c.in-Wanted.is c.requires.1 c.requires.2

pub unreachable-requires-in-Scaling : goal.unreachable-requires-in-Scaling
unreachable-requires-in-Scaling c = scaling_not_whole _ _ _ _ c.in-Scaling.is c.requires.1 c.requires.2

pub returns-in-Number : goal.returns-in-Number
returns-in-Number c = zero_finishes _ _ _ _ _ c.in-Number.is (zero_worth _ c.zero.result c.zero.ensures.zero c.zero.ensures.reduced) c.total.ensures

pub returns-in-Standing : goal.returns-in-Standing
returns-in-Standing c = term_finishes _ _ _ _ c.in-Standing.is c.total-in-Standing.ensures

pub returns-in_err-value-in-Multiplying : goal.returns-in_err-value-in-Multiplying
returns-in_err-value-in-Multiplying c =
    let failed = err_from_is_err_and c.from_residual.result c.from_residual.ensures.1 in
    rw (failed.1, failed.2) (product_fails_at_end _ _ _ _ _ c.in-Multiplying.is c.in_err-value-in-Multiplying.ensures)

pub returns-in_ok-value-in-Multiplying : goal.returns-in_ok-value-in-Multiplying
returns-in_ok-value-in-Multiplying c = product_finishes _ _ _ _ _ _ c.in-Multiplying.is c.in_ok-value-in-Multiplying.ensures c.total-in-Multiplying.ensures
