use Rattle.std.proofs.Common.{refl}
use Rattle.ve_theory.specs.Validity.{is_name}
use Rattle.ve_level_uses.proofs.tests.three_cycle.names.Goals as goal

pub add-requires : goal.add-requires
unfolding is_name
add-requires c = refl

pub add-requires-2 : goal.add-requires-2
unfolding is_name
add-requires-2 c = refl
