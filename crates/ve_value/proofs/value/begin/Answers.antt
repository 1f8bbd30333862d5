use Rattle.std.proofs.Common.{Ok, refl}
use Rattle.std.proofs.lemmas.Result.{err_from_is_err_and}
use Rattle.ve_value.specs.declared.value.Reading.TheVariants.{Wanted}
use Rattle.ve_value.proofs.WorkSteps.{work, comes_to_stand, fails_to_stand, name_stands, number_stands, wanted_sign, opens, first_plus, first_minus, wanted_never, never_first}
use Rattle.ve_value.proofs.value.begin.Goals as goal

pub returns-in_err-factor-in-Name : goal.returns-in_err-factor-in-Name
returns-in_err-factor-in-Name c =
    let failed = err_from_is_err_and c.from_residual.result c.from_residual.ensures.1 in
    rw (c.in-Name.is, failed.1, failed.2) (fails_to_stand _ _ _ _ refl (name_stands _ _ c.text_of.ensures) _ c.in_err-factor-in-Name.ensures)

pub returns-in-Name : goal.returns-in-Name
returns-in-Name c = rw c.in-Name.is (comes_to_stand _ _ _ _ refl (name_stands _ _ c.text_of.ensures) _ _ c.in_ok-factor-in-Name.ensures c.standing.ensures)

pub returns-in-Number : goal.returns-in-Number
returns-in-Number c =
    let n = rw c.in-Number.is at c.requires.written in
    rw c.in-Number.is (comes_to_stand _ _ _ _ refl (number_stands _ _ n) _ _ c.in_ok-factor-in-Number.ensures c.standing-in-Number.ensures)

pub unreachable-requires : goal.unreachable-requires
unreachable-requires c = wanted_never _ _ _ refl (never_first _ _ c.sign_of.ensures c.in-Times.is) (rw c.in-Symbol.is at c.requires.goes_on)

pub returns-in_ok-push-in-Open : goal.returns-in_ok-push-in-Open
returns-in_ok-push-in-Open c =
    let w = work c.args.outer c.args.inner Wanted in
    rw c.in-Symbol.is (wanted_sign _ w c.in-Symbol.byte _ (Ok _) refl (rw c.in-Open.is at c.sign_of.ensures) (opens _ w _ _ _ c.wanted.ensures c.in_ok-push-in-Open.ensures.items c.nothing.ensures))

pub returns-in-Plus : goal.returns-in-Plus
returns-in-Plus c =
    let w = work c.args.outer c.args.inner Wanted in
    rw c.in-Symbol.is (wanted_sign _ w c.in-Symbol.byte _ (Ok _) refl (rw c.in-Plus.is at c.sign_of.ensures) (first_plus _ w _ _ c.wanted-in-Plus.ensures c.nothing-in-Plus.ensures))

pub returns-in-Minus : goal.returns-in-Minus
returns-in-Minus c =
    let w = work c.args.outer c.args.inner Wanted in
    rw c.in-Symbol.is (wanted_sign _ w c.in-Symbol.byte _ (Ok _) refl (rw c.in-Minus.is at c.sign_of.ensures) (first_minus _ w _ _ c.wanted-in-Minus.ensures c.negative.ensures))
