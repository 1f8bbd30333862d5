use Rattle.std.proofs.Common.{refl}
use Rattle.ve_theory.specs.Validity.{is_name}
use Rattle.ve_check.proofs.tests.two_cycle.Goals as goal

pub add_involution-requires-clause-name : goal.add_involution-requires-clause-name
unfolding is_name
add_involution-requires-clause-name c = refl
