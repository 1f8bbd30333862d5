use Rattle.std.proofs.Common.{refl}
use Rattle.ve_theory.specs.Validity.{is_name}
use Rattle.ve_check.proofs.tests.names.Goals as goal

pub add-requires : goal.add-requires
unfolding is_name
add-requires c = refl
