use Rattle.ve_value.proofs.ModuleJoining.{term_added, term_subtracted}
use Rattle.ve_value.proofs.module_value.ModulePending.total.Goals as goal

pub returns-then-self : goal.returns-then-self
returns-then-self c = λ joins m h worth.
    let sum = rw c.if-self.true at h in
    term_subtracted _ _ _ _ _ _ _ sum worth c.negative.ensures c.joined.ensures

pub returns-else-self : goal.returns-else-self
returns-else-self c = λ joins m h worth.
    let sum = rw c.if-self.false at h in
    term_added _ _ _ _ _ _ sum worth c.joined-else-self.ensures
