use Rattle.ve_machine.proofs.TracedReadings.{readings_trace}
use Rattle.ve_machine.proofs.readings.readings_trace.Goals as goal

pub returns : goal.returns
returns c = readings_trace
