use Rattle.std.proofs.Common.{Some, sym, ap, ◌∙◌}
use Rattle.ve_table.specs.Deaths.{forward_of}
use Rattle.ve_table.proofs.Deaths.{live_death}
use Rattle.ve_table.proofs.Entries.{entry_here, forward_here, same_some}
use Rattle.ve_table.proofs.table.Table.is_live.Goals as goal

pub returns : goal.returns
returns c =
    rw (← c.self.view_is)
    (let here = forward_here c.self.inside _ _ (entry_here c.self.inside c.self.invariant _ _ (rw (← c.self.view_is) at c.requires) c.index.ensures) in
    (λ live. here ∙ ap (λ death. Some (forward_of c.self.inside.forwards.items death)) (c.is_live.ensures.live.0 live), λ live. c.is_live.ensures.live.1 (live_death c.self.inside.forwards.items _ (same_some _ _ (sym here ∙ live)))))
