use Rattle.ve_value.proofs.WorkSteps.{finishes, not_whole}
use Rattle.ve_value.proofs.value.Work.finish.Goals as goal

pub unreachable-requires : goal.unreachable-requires
unreachable-requires c = let none = not_whole _ _ _ c.requires.1 c.in-Wanted.is in (cc)

pub returns : goal.returns
returns c = finishes _ _ _ _ c.in-Standing.is c.total.ensures
