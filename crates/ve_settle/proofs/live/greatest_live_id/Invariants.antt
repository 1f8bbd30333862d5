use Rattle.std.proofs.Common.{ℕ, ◌<◌}
use Rattle.ve_table.specs.Tables.{IsLive}
use Rattle.ve_settle.proofs.live.greatest_live_id.Given as goal

-- the ids from this one on are dead
abbrev pub invariant-loop-id : goal.invariant-loop-id
invariant-loop-id l = (b : ℕ) → IsLive l.table b → b < l.id
