use Rattle.ve_examples.proofs.examples.verdicts_are_told.Goals as goal
use Rattle.ve_examples.proofs.TwoCycleLevels.{IsWorkedOut-two_cycle}
use Rattle.ve_examples.proofs.VerdictTests.{quotient_told, shape_told, relator_told, submodule_told, basis_word_told}

pub returns : goal.returns
returns c =
    let shown = IsWorkedOut-two_cycle c.finished_levels_settle.ensures c.closing_levels_settle.ensures in
    record { quotient = quotient_told shown; shape = shape_told; relator = relator_told; submodule = submodule_told; basis_word = basis_word_told }
