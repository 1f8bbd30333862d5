use Rattle.std.proofs.Common.{Ok, Err, refl}
use Rattle.std.proofs.lemmas.Result.{err_from_is_err_and}
use Rattle.ve_formats.specs.Reading as grammar
use Rattle.ve_value.specs.declared.value.Reading.TheVariants.{Standing}
use Rattle.ve_value.proofs.WorkSteps.{work, standing_sign, raises, multiplies_further, product_fails, adds_further, subtracts_further, sum_fails, closes_one, some_open, standing_never, name_behind, number_behind, never_behind}
use Rattle.ve_value.proofs.value.go_on.Goals as goal

pub unreachable-requires : goal.unreachable-requires
unreachable-requires c = standing_never _ _ _ _ refl (name_behind _) (rw c.in-Name.is at c.requires)

pub unreachable-requires-in-Number : goal.unreachable-requires-in-Number
unreachable-requires-in-Number c = standing_never _ _ _ _ refl (number_behind _) (rw c.in-Number.is at c.requires)

pub unreachable-requires-in-Open : goal.unreachable-requires-in-Open
unreachable-requires-in-Open c = standing_never _ _ _ _ refl (never_behind _ _ c.sign_of.ensures c.in-Open.is) (rw c.in-Symbol.is at c.requires)

pub close-requires : goal.close-requires
close-requires c = some_open _ _ _ _ refl (rw c.in-Close.is at c.sign_of.ensures) (rw c.in-Symbol.is at c.requires)

pub returns-in_err-inner-in-Times : goal.returns-in_err-inner-in-Times
returns-in_err-inner-in-Times c =
    let failed = err_from_is_err_and c.from_residual.result c.from_residual.ensures.1 in
    let w = work c.args.outer c.args.inner (Standing c.args.factor) in
    rw (c.in-Symbol.is, failed.1, failed.2) (standing_sign _ w _ c.in-Symbol.byte _ (Err _) refl (rw c.in-Times.is at c.sign_of.ensures) (product_fails _ w _ _ c.in_err-inner-in-Times.ensures))

pub returns-in_err-sum-in-Plus : goal.returns-in_err-sum-in-Plus
returns-in_err-sum-in-Plus c =
    let failed = err_from_is_err_and c.from_residual-in_err-sum-in-Plus.result c.from_residual-in_err-sum-in-Plus.ensures.1 in
    let w = work c.args.outer c.args.inner (Standing c.args.factor) in
    rw (c.in-Symbol.is, failed.1, failed.2) (standing_sign _ w _ c.in-Symbol.byte _ (Err _) refl (rw c.in-Plus.is at c.sign_of.ensures) (sum_fails _ w _ _ grammar.plus tt c.in_err-sum-in-Plus.ensures))

pub returns-in_err-sum-in-Minus : goal.returns-in_err-sum-in-Minus
returns-in_err-sum-in-Minus c =
    let failed = err_from_is_err_and c.from_residual-in_err-sum-in-Minus.result c.from_residual-in_err-sum-in-Minus.ensures.1 in
    let w = work c.args.outer c.args.inner (Standing c.args.factor) in
    rw (c.in-Symbol.is, failed.1, failed.2) (standing_sign _ w _ c.in-Symbol.byte _ (Err _) refl (rw c.in-Minus.is at c.sign_of.ensures) (sum_fails _ w _ _ grammar.minus tt c.in_err-sum-in-Minus.ensures))

pub returns-in_err-value-in-Close : goal.returns-in_err-value-in-Close
returns-in_err-value-in-Close c =
    let failed = err_from_is_err_and c.from_residual-in_err-value-in-Close.result c.from_residual-in_err-value-in-Close.ensures.1 in
    let w = work c.args.outer c.args.inner (Standing c.args.factor) in
    rw (c.in-Symbol.is, failed.1, failed.2) (standing_sign _ w _ c.in-Symbol.byte _ (Err _) refl (rw c.in-Close.is at c.sign_of.ensures) (sum_fails _ w _ _ grammar.close_ tt c.in_err-value-in-Close.ensures))

pub returns-in-Power : goal.returns-in-Power
returns-in-Power c =
    let w = work c.args.outer c.args.inner (Standing c.args.factor) in
    rw c.in-Symbol.is (standing_sign _ w _ c.in-Symbol.byte _ (Ok _) refl (rw c.in-Power.is at c.sign_of.ensures) (raises _ w _ _ refl))

pub returns-in_ok-inner-in-Times : goal.returns-in_ok-inner-in-Times
returns-in_ok-inner-in-Times c =
    let w = work c.args.outer c.args.inner (Standing c.args.factor) in
    rw c.in-Symbol.is (standing_sign _ w _ c.in-Symbol.byte _ (Ok _) refl (rw c.in-Times.is at c.sign_of.ensures) (multiplies_further _ w _ _ _ c.wanted.ensures c.in_ok-inner-in-Times.ensures))

pub returns-in_ok-sum-in-Plus : goal.returns-in_ok-sum-in-Plus
returns-in_ok-sum-in-Plus c =
    let w = work c.args.outer c.args.inner (Standing c.args.factor) in
    rw c.in-Symbol.is (standing_sign _ w _ c.in-Symbol.byte _ (Ok _) refl (rw c.in-Plus.is at c.sign_of.ensures) (adds_further _ w _ _ _ _ c.wanted-in-Plus.ensures c.sum.ensures c.in_ok-sum-in-Plus.ensures))

pub returns-in_ok-sum-in-Minus : goal.returns-in_ok-sum-in-Minus
returns-in_ok-sum-in-Minus c =
    let w = work c.args.outer c.args.inner (Standing c.args.factor) in
    rw c.in-Symbol.is (standing_sign _ w _ c.in-Symbol.byte _ (Ok _) refl (rw c.in-Minus.is at c.sign_of.ensures) (subtracts_further _ w _ _ _ _ c.wanted-in-Minus.ensures c.sum-in-Minus.ensures c.in_ok-sum-in-Minus.ensures))

pub returns-in_ok-value-in-Close : goal.returns-in_ok-value-in-Close
returns-in_ok-value-in-Close c =
    let w = work c.args.outer c.args.inner (Standing c.args.factor) in
    rw c.in-Symbol.is (standing_sign _ w _ c.in-Symbol.byte _ (Ok _) refl (rw c.in-Close.is at c.sign_of.ensures) (closes_one _ w c.close.result _ _ c.close.ensures.items c.close.ensures.reading c.in_ok-value-in-Close.ensures))
