use Rattle.ve_read.proofs.Letters.{weight_is_one}
use Rattle.ve_read.proofs.building.weigh.Goals as goal

pub returns-else-weight-ne1-clause-weight : goal.returns-else-weight-ne1-clause-weight
returns-else-weight-ne1-clause-weight c = weight_is_one c.args.presentation.now c.args.number c.args.weight c.requires.letter c.if-weight-ne1.false
