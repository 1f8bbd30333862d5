use Rattle.ve_table.proofs.Entries.{entry_of}
use Rattle.ve_table.proofs.table.Table.length.Goals as goal

pub returns : goal.returns
returns c = rw (← c.self.view_is) (entry_of c.self.inside c.self.invariant _ _ (rw (← c.self.view_is) at c.requires) c.index.ensures).own_length
