use Rattle.std.proofs.Common.{refl}
use Rattle.ve_theory.specs.Validity.{is_name}
use Rattle.ve_text_uses.proofs.tests.spelling.names.names_are_numbered.Goals as goal

pub adds-requires : goal.adds-requires
unfolding is_name
adds-requires g c = refl
