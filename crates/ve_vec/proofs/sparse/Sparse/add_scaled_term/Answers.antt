use Rattle.ve_vec.proofs.Inserting.{nothing_added, as_product}
use Rattle.ve_vec.proofs.sparse.Sparse.add_scaled_term.Goals as goal

pub returns-in_ok-insert_term-clause-ok : goal.returns-in_ok-insert_term-clause-ok
returns-in_ok-insert_term-clause-ok c =
    as_product _ _ _ _ _ _ _ c.mul-coef.ensures.product (rw c.self.view_is at c.in_ok-insert_term.ensures.ok)

pub returns-else-coef-ne0-clause-ok : goal.returns-else-coef-ne0-clause-ok
returns-else-coef-ne0-clause-ok c = nothing_added _ _ _ _ _ _ c.requires.fits c.mul-coef.ensures.product c.if-coef-ne0.false
