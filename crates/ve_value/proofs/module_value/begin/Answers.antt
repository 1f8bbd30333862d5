use Rattle.std.proofs.Common.{None, refl}
use Rattle.std.proofs.lemmas.Result.{err_from_is_err_and}
use Rattle.ve_value.specs.declared.module_value.Term.TheVariants.{Wanted}
use Rattle.ve_value.proofs.ModuleWorkSteps.{module_work, name_stands, name_fails, number_stands, first_plus, first_minus, wanted_never, never_first}
use Rattle.ve_value.proofs.module_value.begin.Goals as goal

pub returns-in_err-value-in-Name : goal.returns-in_err-value-in-Name
returns-in_err-value-in-Name c =
    let failed = err_from_is_err_and c.from_residual.result c.from_residual.ensures.1 in
    rw (c.in-Name.is, failed.1, failed.2) (name_fails _ (module_work c.args.pending Wanted) _ _ refl (c.in_err-value-in-Name.ensures None refl))

pub returns-in-Name : goal.returns-in-Name
returns-in-Name c = rw c.in-Name.is (name_stands _ (module_work c.args.pending Wanted) _ _ refl (c.in_ok-value-in-Name.ensures None refl))

pub returns-in-Number : goal.returns-in-Number
returns-in-Number c =
    let n = rw c.in-Number.is at c.requires.written in
    rw c.in-Number.is (number_stands _ (module_work c.args.pending Wanted) _ _ refl n)

pub returns-in-Plus : goal.returns-in-Plus
returns-in-Plus c = rw (c.in-Symbol.is, c.wanted.ensures) (first_plus _ (module_work c.args.pending Wanted) c.in-Symbol.byte refl (rw c.in-Plus.is at c.sign_of.ensures))

pub returns-in-Minus : goal.returns-in-Minus
returns-in-Minus c = rw (c.in-Symbol.is, c.wanted-in-Minus.ensures) (first_minus _ (module_work c.args.pending Wanted) c.in-Symbol.byte refl (rw c.in-Minus.is at c.sign_of.ensures))

pub unreachable-requires : goal.unreachable-requires
unreachable-requires c = wanted_never _ _ _ refl (never_first _ _ c.sign_of.ensures c.in-Times.is) (rw c.in-Symbol.is at c.requires.goes_on)
