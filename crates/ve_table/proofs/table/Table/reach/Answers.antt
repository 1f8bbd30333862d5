use Rattle.std.proofs.Common.{◌≤◌, arith}
use Rattle.std.proofs.lemmas.List.Elements.{All-get_or}
use Rattle.ve_theory.specs.Words.{Word, generator}
use Rattle.ve_theory.specs.Presentations.{reach, IsWord}
use Rattle.ve_table.specs.Tables.{presented}
use Rattle.ve_table.specs.Kept.{table_of}
use Rattle.ve_table.proofs.Entries.{entry_of}
use Rattle.ve_table.proofs.table.Table.reach.Goals as goal

pub returns-clause-reach : goal.returns-clause-reach
returns-clause-reach c = rw (← c.self.view_is) (entry_of c.self.inside c.self.invariant _ _ (rw (← c.self.view_is) at c.requires) c.index.ensures).own_reach

pub returns-clause-within : goal.returns-clause-within
returns-clause-within c =
    rw (← c.self.view_is)
    (let P = presented (table_of c.self.inside) in
    let is = (entry_of c.self.inside c.self.invariant _ _ (rw (← c.self.view_is) at c.requires) c.index.ensures).own_reach in
    let within = All-get_or (λ (w : Word). IsWord P w × (reach P w ≤ c.self.inside.level)) _ _ (generator 0) (rw (← c.self.view_is) at c.requires) c.self.invariant.sound.words in
    omega (arith, is, within.1))
