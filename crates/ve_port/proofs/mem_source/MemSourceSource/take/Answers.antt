use Rattle.std.proofs.Common.{rules}
use Rattle.ve_port.proofs.mem_source.MemSourceSource.take.Goals as goal

pub returns-then-next_fails-clause-listed : goal.returns-then-next_fails-clause-listed
returns-then-next_fails-clause-listed c = rw (← c.self.view_is) (search rules)
