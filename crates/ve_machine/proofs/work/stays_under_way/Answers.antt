use Rattle.ve_machine.proofs.work.stays_under_way.Goals as goal
use Rattle.ve_machine.proofs.UnderWay.{stays_where_id_dies, stays_where_rewritten}

pub returns : goal.returns
returns c = record { deaths = stays_where_id_dies; rewritten = stays_where_rewritten }
