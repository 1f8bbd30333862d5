use Rattle.ve_machine.proofs.TracedReadings.{readings_last}
use Rattle.ve_machine.proofs.readings.readings_last.Goals as goal

pub returns : goal.returns
returns c = readings_last
