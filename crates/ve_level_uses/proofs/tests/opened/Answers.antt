use Rattle.ve_level_uses.proofs.Starting.{starts_ready}
use Rattle.ve_level_uses.proofs.tests.opened.Goals as goal

pub returns : goal.returns
returns c = starts_ready c.in_ok-presentation.presentation c.args.limit c.start.result c.start.ensures
