use Rattle.std.proofs.Common.{◌∙◌}
use Rattle.ve_turn.proofs.steps.wait.Goals as goal

pub look-requires-clause-waits : goal.look-requires-clause-waits
look-requires-clause-waits g c = (c.requires.waits.0, c.loop.invariant.1 ∙ c.requires.waits.1)

pub loop-preserved : goal.loop-preserved
loop-preserved g c = let w = c.requires.waits in let i = c.loop.invariant in (c.if-look.ensures.table ∙ i.0, c.if-look.ensures.outcome w.0 (i.1 ∙ w.1) ∙ i.1)

pub look-requires-in-loop-2-clause-waits : goal.look-requires-in-loop-2-clause-waits
look-requires-in-loop-2-clause-waits g c = (c.requires.waits.0, c.loop-2.invariant.1 ∙ c.requires.waits.1)

pub loop-2-preserved : goal.loop-2-preserved
loop-2-preserved g c = let w = c.requires.waits in let i = c.loop-2.invariant in (c.if-look-2.ensures.table ∙ i.0, c.if-look-2.ensures.outcome w.0 (i.1 ∙ w.1) ∙ i.1)

pub look-requires-in-loop-3-clause-waits : goal.look-requires-in-loop-3-clause-waits
look-requires-in-loop-3-clause-waits g c = (c.requires.waits.0, c.loop-3.invariant.1 ∙ c.requires.waits.1)

pub loop-3-preserved : goal.loop-3-preserved
loop-3-preserved g c = let w = c.requires.waits in let i = c.loop-3.invariant in (c.if-look-3.ensures.table ∙ i.0, c.if-look-3.ensures.outcome w.0 (i.1 ∙ w.1) ∙ i.1)
