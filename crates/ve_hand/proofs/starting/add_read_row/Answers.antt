use Rattle.ve_hand.proofs.GoingOn.{row_summed}
use Rattle.ve_hand.proofs.starting.add_read_row.Goals as goal

pub returns-in_ok-add_scaled-clause-ok : goal.returns-in_ok-add_scaled-clause-ok
returns-in_ok-add_scaled-clause-ok c =
    row_summed c.args.field.now c.args.read.now c.args.sum.now c.add_scaled.new.self c.in-Forward.row c.in-Forward.forward c.in-Forward.is c.in_ok-add_scaled.ensures.ok
