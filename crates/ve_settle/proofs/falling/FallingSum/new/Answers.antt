use Rattle.std.proofs.Common.{append-nil}
use Rattle.ve_settle.proofs.falling.FallingSum.new.Goals as goal

pub returns-clause-whole : goal.returns-clause-whole
returns-clause-whole c = rw c.new.ensures.empty (append-nil _)
