use Rattle.ve_settle.proofs.resolution.resolve.Goals as goal

pub returns-clause-resolved : goal.returns-clause-resolved
returns-clause-resolved c = rw (← c.in_ok-copy.ensures) c.in_ok-resolved.ensures.resolved

pub returns-clause-derived : goal.returns-clause-derived
returns-clause-derived c = rw (← c.in_ok-copy.ensures) c.in_ok-resolved.ensures.derived

pub returns-clause-ids : goal.returns-clause-ids
returns-clause-ids c = rw (← c.in_ok-copy.ensures) c.in_ok-resolved.ensures.ids
