use Rattle.ve_field.proofs.TableOfPrimes.{product_nonzero}
use Rattle.ve_field.proofs.field.Field.mul.Goals as goal

pub returns-clause-nonzero : goal.returns-clause-nonzero
returns-clause-nonzero c =
    λ a_positive b_positive.
    rw (c.from.ensures, c.from-2.ensures, c.from-3.ensures)
    (product_nonzero _ _ _ c.self.invariant a_positive (rw c.self.view_is c.requires.first) b_positive (rw c.self.view_is c.requires.second))
