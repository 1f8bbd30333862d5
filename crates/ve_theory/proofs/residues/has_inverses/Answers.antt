use Rattle.ve_theory.proofs.Inverses.{has_inverses}
use Rattle.ve_theory.proofs.residues.has_inverses.Goals as goal

pub returns : goal.returns
returns c = has_inverses
