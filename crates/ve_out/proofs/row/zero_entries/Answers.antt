use Rattle.std.proofs.Common.{ap, sym, ◌++◌, codes, ◌∙◌}
use Rattle.ve_out.proofs.Entries.{zero_entries-none, zero_entries-next}
use Rattle.ve_out.proofs.row.zero_entries.Goals as goal

pub loop-at-init : goal.loop-at-init
loop-at-init c = c.new-zeros.ensures.items ∙ sym zero_entries-none

pub loop-at-preserved : goal.loop-at-preserved
loop-at-preserved c = c.in_ok-append.ensures ∙ ap (λ z. z ++ codes " 0") c.loop-at.invariant ∙ sym (zero_entries-next c.loop-at._at)
