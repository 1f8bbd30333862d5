use Rattle.std.proofs.Common.{◌-◌, length}
use Rattle.ve_out.proofs.Entries.{IsWritten}
use Rattle.ve_out.proofs.row.append_entries.Given as goal

abbrev pub invariant-loop-written : goal.invariant-loop-written
invariant-loop-written l = IsWritten l.row (length l.row - l.written) l.next l.fn.line.items l.line.items
