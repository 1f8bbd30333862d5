use Rattle.std.proofs.Common.{refl}
use Rattle.ve_value.specs.declared.module_value.Term.TheVariants.{Number}
use Rattle.ve_value.proofs.ModuleWorkSteps.{module_work, scales, zero_worth, zero_can_read, zero_reads, number_never, never_behind_number, name_numbered, number_numbered}
use Rattle.ve_value.proofs.module_value.behind_number.Goals as goal

pub unreachable-requires : goal.unreachable-requires
unreachable-requires c = number_never _ _ _ _ refl (name_numbered _ _) (rw c.in-Name.is at c.requires)

pub unreachable-requires-in-Number : goal.unreachable-requires-in-Number
unreachable-requires-in-Number c = number_never _ _ _ _ refl (number_numbered _ _) (rw c.in-Number.is at c.requires)

pub unreachable-requires-in-Power : goal.unreachable-requires-in-Power
unreachable-requires-in-Power c = number_never _ _ _ _ refl (never_behind_number _ _ _ c.sign_of.ensures c.in-Power.is) (rw c.in-Symbol.is at c.requires)

pub returns-in-Times : goal.returns-in-Times
returns-in-Times c = rw c.in-Symbol.is (scales _ (module_work c.args.pending (Number c.args.number)) c.in-Symbol.byte _ refl (rw c.in-Times.is at c.sign_of.ensures))

pub behind_term-requires : goal.behind_term-requires
behind_term-requires c =
    let worth = zero_worth _ c.zero.result c.zero.ensures.zero c.zero.ensures.reduced in
    rw c.in-Symbol.is (zero_can_read _ (module_work c.args.pending (Number c.args.number)) c.in-Symbol.byte _ _ _ refl c.sign_of.ensures c.in-Plus.is worth (rw c.in-Symbol.is at c.requires))

pub returns-in-Plus : goal.returns-in-Plus
returns-in-Plus c =
    let worth = zero_worth _ c.zero.result c.zero.ensures.zero c.zero.ensures.reduced in
    rw c.in-Symbol.is (zero_reads _ (module_work c.args.pending (Number c.args.number)) c.in-Symbol.byte _ _ _ _ refl c.sign_of.ensures c.in-Plus.is worth (rw c.in-Symbol.is at c.behind_term.ensures))
