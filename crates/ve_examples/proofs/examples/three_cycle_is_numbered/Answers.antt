use Rattle.ve_examples.proofs.examples.three_cycle_is_numbered.Goals as goal
use Rattle.ve_examples.proofs.InverseTests.{three_cycle_valid, three_cycle_numbered}

pub returns : goal.returns
returns c = record { valid = three_cycle_valid; relators = three_cycle_numbered }
