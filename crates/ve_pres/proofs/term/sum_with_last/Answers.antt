use Rattle.std.proofs.Common.{refl}
use Rattle.ve_pres.proofs.GatheringSteps.{ready_where_kept, ready_where_taken, residue_where_taken}
use Rattle.ve_pres.proofs.term.sum_with_last.Goals as goal

pub add-requires-clause-first : goal.add-requires-clause-first
add-requires-clause-first c = residue_where_taken _ _ _ _ c.requires.reduced c.in-Some.ensures.taken

pub returns-in-Some-clause-ready : goal.returns-in-Some-clause-ready
returns-in-Some-clause-ready c = ready_where_taken _ _ _ c.in-Some.last c.args.term.now _ c.requires.reduced c.in-Some.ensures.taken c.in-Some.ensures.same c.requires.residue c.add.ensures.sum

pub returns-in-None-clause-ready : goal.returns-in-None-clause-ready
returns-in-None-clause-ready c = ready_where_kept _ _ _ c.args.term.now _ c.requires.reduced c.requires.at_least c.requires.residue c.in-None.ensures.kept c.in-None.ensures.other refl
