use Rattle.std.proofs.Common.{◌≡◌}
use Rattle.ve_turn.proofs.steps.wait.Given as goal

abbrev pub invariant-loop : goal.invariant-loop
invariant-loop g l = (l.token.table_id ≡ l.fn.token.table_id) × (l.token.me ≡ l.fn.token.me)

abbrev pub invariant-loop-2 : goal.invariant-loop-2
invariant-loop-2 g l = (l.token.table_id ≡ l.fn.token.table_id) × (l.token.me ≡ l.fn.token.me)

abbrev pub invariant-loop-3 : goal.invariant-loop-3
invariant-loop-3 g l = (l.token.table_id ≡ l.fn.token.table_id) × (l.token.me ≡ l.fn.token.me)
