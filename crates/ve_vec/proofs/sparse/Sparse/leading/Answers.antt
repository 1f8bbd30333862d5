use Rattle.ve_vec.proofs.Joining.{first_nonzero, first_greatest}
use Rattle.ve_vec.proofs.sparse.Sparse.leading.Goals as goal

pub returns-clause-nonzero : goal.returns-clause-nonzero
returns-clause-nonzero c =
    rw (c.copied.ensures, c.first.ensures.value, c.as_slice.ensures) (first_nonzero c.self.invariant.0 _ c.self.invariant.1)

pub returns-clause-greatest : goal.returns-clause-greatest
returns-clause-greatest c =
    rw (c.copied.ensures, c.first.ensures.value, c.as_slice.ensures, ← c.self.view_is) (first_greatest c.self.invariant.0 _ c.self.invariant.1)
