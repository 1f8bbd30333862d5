use Rattle.std.proofs.Common.{◌≡◌}
use Rattle.ve_out.specs.Parts.{zero_entries}
use Rattle.ve_out.proofs.row.zero_entries.Given as goal

abbrev pub invariant-loop-at : goal.invariant-loop-at
invariant-loop-at l = l.zeros.items ≡ zero_entries l._at
