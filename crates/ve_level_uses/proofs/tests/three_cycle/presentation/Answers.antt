use Rattle.std.proofs.Common.{refl}
use Rattle.ve_theory.specs.Validity.{is_name}
use Rattle.ve_level_uses.proofs.tests.three_cycle.presentation.Goals as goal

pub add_pair-requires-clause-name : goal.add_pair-requires-clause-name
unfolding is_name
add_pair-requires-clause-name c = refl

pub add_pair-requires-clause-inverse : goal.add_pair-requires-clause-inverse
unfolding is_name
add_pair-requires-clause-inverse c = refl
