use Rattle.ve_trace.proofs.Adding.{once}
use Rattle.ve_trace.proofs.multiples.multiply.Goals as goal

pub returns-else-by-ne1 : goal.returns-else-by-ne1
returns-else-by-ne1 c = rw c.if-by-ne1.false (once c.requires.vector)
