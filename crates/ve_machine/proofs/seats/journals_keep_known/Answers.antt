use Rattle.ve_machine.proofs.JournalForwards.{journals_keep_known}
use Rattle.ve_machine.proofs.seats.journals_keep_known.Goals as goal

pub returns : goal.returns
returns c = journals_keep_known
