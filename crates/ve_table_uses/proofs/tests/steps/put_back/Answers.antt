use Rattle.std.proofs.Common.{sym, subst}
use Rattle.ve_table.specs.Sound.{IsRowOf}
use Rattle.ve_table_uses.proofs.tests.steps.put_back.Goals as goal

pub set_row-requires-clause-row : goal.set_row-requires-clause-row
set_row-requires-clause-row c =
    subst (λ v. IsRowOf c.args.table.now c.args.id c.args.letter v) (sym c.in_ok-copy.ensures)
    (c.is_sound.ensures.rows c.args.id c.args.letter c.in-Some.row.now (sym c.in-Some.ensures))
