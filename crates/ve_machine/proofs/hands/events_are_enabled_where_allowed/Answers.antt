use Rattle.ve_machine.proofs.EnabledEvents.{events_are_enabled_where_allowed}
use Rattle.ve_machine.proofs.hands.events_are_enabled_where_allowed.Goals as goal

pub returns : goal.returns
returns c = events_are_enabled_where_allowed c.has_inverses.ensures
