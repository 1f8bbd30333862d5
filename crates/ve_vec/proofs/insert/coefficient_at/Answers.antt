use Rattle.ve_vec.proofs.Inserting.{other_here, none_here}
use Rattle.ve_vec.proofs.insert.coefficient_at.Goals as goal

pub returns-in_default-clause-below : goal.returns-in_default-clause-below
returns-in_default-clause-below c = other_here c.args.at c.args.id c.args.terms.now c.in-Some.term.now c.requires c.in-Some.ensures.lookup.3.0 (c.in-Some.ensures.lookup.3.1) c.if-term-id.false

pub returns-in_default-2-clause-below : goal.returns-in_default-2-clause-below
returns-in_default-2-clause-below c = λ p reduced. none_here c.args.at c.args.id c.args.terms.now (rw c.in_default.is at c.get.ensures.lookup).3
