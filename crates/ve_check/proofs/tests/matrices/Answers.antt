use Rattle.ve_check.proofs.PairAnswers.{units_columns}
use Rattle.ve_check.proofs.tests.matrices.Goals as goal

pub of_rows-requires-clause-columns : goal.of_rows-requires-clause-columns
of_rows-requires-clause-columns c = units_columns c.args.places.now c.in_ok-rows.rows.items c.in_ok-rows.ensures c.requires.count c.requires.places
