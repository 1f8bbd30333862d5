use Rattle.ve_trace.proofs.OwnRelations.{own_relations}
use Rattle.ve_trace.proofs.laws.relations_are_own.Goals as goal

pub returns : goal.returns
returns c = own_relations
