use Rattle.std.proofs.Common.{refl, inl, inr, false}
use Rattle.std.proofs.lemmas.Result.{err_from_is_err_and}
use Rattle.ve_value.specs.declared.module_value.Term.TheVariants.{Standing}
use Rattle.ve_value.proofs.ModuleWorkSteps.{module_work, begins_factor, adds_term, subtracts_term, term_fails, standing_never, never_behind, name_behind, number_behind}
use Rattle.ve_value.proofs.module_value.behind_term.Goals as goal

pub unreachable-requires : goal.unreachable-requires
unreachable-requires c = standing_never _ _ _ _ refl (name_behind _) (rw c.in-Name.is at c.requires)

pub unreachable-requires-in-Number : goal.unreachable-requires-in-Number
unreachable-requires-in-Number c = standing_never _ _ _ _ refl (number_behind _) (rw c.in-Number.is at c.requires)

pub unreachable-requires-in-Power : goal.unreachable-requires-in-Power
unreachable-requires-in-Power c = standing_never _ _ _ _ refl (never_behind _ _ c.sign_of.ensures c.in-Power.is) (rw c.in-Symbol.is at c.requires)

pub returns-in-Times : goal.returns-in-Times
returns-in-Times c =
    rw c.in-Symbol.is (begins_factor _ (module_work c.args.pending (Standing c.args.value)) _ c.in-Symbol.byte _ refl (rw c.in-Times.is at c.sign_of.ensures) (c.start.ensures _ false))

pub returns-in_err-sum-in-Plus : goal.returns-in_err-sum-in-Plus
returns-in_err-sum-in-Plus c =
    let failed = err_from_is_err_and c.from_residual.result c.from_residual.ensures.1 in
    rw (c.in-Symbol.is, failed.1, failed.2) (term_fails _ (module_work c.args.pending (Standing c.args.value)) _ c.in-Symbol.byte _ _ refl c.sign_of.ensures (inl c.in-Plus.is) c.in_err-sum-in-Plus.ensures)

pub returns-in_err-sum-in-Minus : goal.returns-in_err-sum-in-Minus
returns-in_err-sum-in-Minus c =
    let failed = err_from_is_err_and c.from_residual-in_err-sum-in-Minus.result c.from_residual-in_err-sum-in-Minus.ensures.1 in
    rw (c.in-Symbol.is, failed.1, failed.2) (term_fails _ (module_work c.args.pending (Standing c.args.value)) _ c.in-Symbol.byte _ _ refl c.sign_of.ensures (inr c.in-Minus.is) c.in_err-sum-in-Minus.ensures)

pub returns-in_ok-sum-in-Plus : goal.returns-in_ok-sum-in-Plus
returns-in_ok-sum-in-Plus c =
    rw (c.in-Symbol.is, c.wanted.ensures) (adds_term _ (module_work c.args.pending (Standing c.args.value)) _ _ c.in-Symbol.byte refl (rw c.in-Plus.is at c.sign_of.ensures) c.in_ok-sum-in-Plus.ensures)

pub returns-in_ok-sum-in-Minus : goal.returns-in_ok-sum-in-Minus
returns-in_ok-sum-in-Minus c =
    rw (c.in-Symbol.is, c.wanted-in-Minus.ensures) (subtracts_term _ (module_work c.args.pending (Standing c.args.value)) _ _ c.in-Symbol.byte refl (rw c.in-Minus.is at c.sign_of.ensures) c.in_ok-sum-in-Minus.ensures)
