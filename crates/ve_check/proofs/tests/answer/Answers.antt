use Rattle.std.proofs.Common.{refl}
use Rattle.ve_check.proofs.PairAnswers.{pair_value}
use Rattle.ve_check.proofs.tests.answer.Goals as goal

pub returns : goal.returns
returns c =
    pair_value _ c.args.image c.args.rows.now c.has_prime.ensures.in_table c.has_prime.ensures.above_one c.in_ok-names.ensures refl c.in_ok-basis.ensures c.in_ok-units.ensures c.in_ok-matrices.ensures
    c.requires.image c.requires.count c.requires.rows
