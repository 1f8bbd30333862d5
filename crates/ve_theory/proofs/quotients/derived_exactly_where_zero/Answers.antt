use Rattle.std.proofs.Common.{[]}
use Rattle.ve_theory.specs.Answers.{evaluation}
use Rattle.ve_theory.proofs.quotients.derived_exactly_where_zero.Goals as goal
use Rattle.ve_theory.proofs.Remainders.{zero_in}
use Rattle.ve_theory.proofs.Kernels.{zero_row, row_weights, derived_vanishes, derived_remainders}

pub returns : goal.returns
returns c = λ P A V placed meets rows v words.
    (λ h. zero_row (derived_vanishes P A placed meets v h), λ zero. zero_in (derived_remainders P A V placed rows) v words (row_weights P.prime (evaluation A v) [] zero))
