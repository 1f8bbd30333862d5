use Rattle.std.proofs.Common.{length, sym, ap, ◌∙◌}
use Rattle.ve_table.specs.Tables.{ActionTable}
use Rattle.ve_table.specs.Kept.{table_of}
use Rattle.ve_table.proofs.Opening.{all_live}
use Rattle.ve_table.proofs.AllLive.{none_dead}
use Rattle.ve_table.proofs.table.Table.live_count.Goals as goal

pub returns-clause-all : goal.returns-clause-all
returns-clause-all c =
    let T : ActionTable = table_of c.self.inside in
    rw (← c.self.view_is) (
      λ is. none_dead T c.self.invariant.sound (sym c.self.invariant.live_count ∙ is),
      λ all. c.self.invariant.live_count ∙ ap length (all_live T.forwards T.words all c.self.invariant.sound.one_forward_each),
    )
