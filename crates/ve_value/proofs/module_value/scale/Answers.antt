use Rattle.std.proofs.Common.{Some, refl}
use Rattle.std.proofs.lemmas.Result.{err_from_is_err_and}
use Rattle.ve_value.specs.declared.module_value.Term.TheVariants.{Scaling}
use Rattle.ve_value.proofs.ModuleWorkSteps.{module_work, multiple_stands, multiple_fails, scaling_never, number_scaled, symbol_scaled}
use Rattle.ve_value.proofs.module_value.scale.Goals as goal

pub returns-in_err-value-in-Name : goal.returns-in_err-value-in-Name
returns-in_err-value-in-Name c =
    let failed = err_from_is_err_and c.from_residual.result c.from_residual.ensures.1 in
    rw (c.in-Name.is, failed.1, failed.2) (multiple_fails _ (module_work c.args.pending (Scaling c.args.number)) _ _ _ refl (c.in_err-value-in-Name.ensures (Some c.args.number) refl))

pub unreachable-requires : goal.unreachable-requires
unreachable-requires c = scaling_never _ _ _ _ refl (number_scaled _ _) (rw c.in-Number.is at c.requires)

pub unreachable-requires-in-Symbol : goal.unreachable-requires-in-Symbol
unreachable-requires-in-Symbol c = scaling_never _ _ _ _ refl (symbol_scaled _ _) (rw c.in-Symbol.is at c.requires)

pub returns : goal.returns
returns c = rw c.in-Name.is (multiple_stands _ (module_work c.args.pending (Scaling c.args.number)) _ _ _ refl (c.in_ok-value-in-Name.ensures (Some c.args.number) refl))
