use Rattle.ve_theory.proofs.quotients.relations_make_quotients.Goals as goal
use Rattle.ve_theory.proofs.Kernels.{zero_row, derived_vanishes}

pub returns : goal.returns
returns c = λ P A V shape placed meets. record {
  shape = shape;
  vanishes = λ v h. zero_row (derived_vanishes P A.action placed meets v h);
  own_rows = meets.own_rows;
}
