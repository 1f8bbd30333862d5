use Rattle.ve_lemmas.proofs.Residues.{prime-large}
use Rattle.ve_field.proofs.field.Field.prime.Goals as goal

pub returns-clause-above_one : goal.returns-clause-above_one
returns-clause-above_one c = rw (← c.self.view_is) (prime-large _ c.self.invariant)
