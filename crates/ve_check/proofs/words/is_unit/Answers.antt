use Rattle.std.proofs.Common.{sym, ◌∙◌}
use Rattle.ve_check.proofs.Units.{unit_told}
use Rattle.ve_check.proofs.words.is_unit.Goals as goal

pub returns-then-len-eq1 : goal.returns-then-len-eq1
returns-then-len-eq1 c =
    unit_told c.args.vector.now (c.term.result.id, c.term.result.coef) c.args.place c.eq.result (sym c.len.ensures ∙ c.if-len-eq1.true) c.term.ensures c.eq.ensures
