use Rattle.std.proofs.Common.{length, sym, ap, ◌∙◌}
use Rattle.ve_table.specs.Kept.{table_of}
use Rattle.ve_table.specs.Tables.{ActionTable}
use Rattle.ve_table.proofs.AllLive.{none_dead, first_is, none_first, dead_first, live_before}
use Rattle.ve_table.proofs.table.Table.least_dead.Goals as goal

pub returns-then-self-id_count-clause-none : goal.returns-then-self-id_count-clause-none
returns-then-self-id_count-clause-none c =
    rw (← c.self.view_is)
    (none_dead (table_of c.self.inside) c.self.invariant.sound (sym c.self.invariant.live_count ∙ c.if-self-id_count.true ∙ c.id_count.ensures ∙ sym (ap (λ (T : ActionTable). length T.words) c.self.view_is)))

pub returns-in_err-least-clause-none : goal.returns-in_err-least-clause-none
returns-in_err-least-clause-none c =
    rw (← c.self.view_is, c.from_residual.ensures)
    (none_first (table_of c.self.inside).forwards (sym (first_is c.self.inside.forwards.items _ _ _ c.deref.ensures.value c.first_dead.ensures) ∙ c.in_err-least.was))

pub returns-clause-dead : goal.returns-clause-dead
returns-clause-dead c =
    rw (← c.self.view_is) (dead_first (table_of c.self.inside).forwards c.in_ok-least.least (sym (first_is c.self.inside.forwards.items _ _ _ c.deref.ensures.value c.first_dead.ensures) ∙ c.in_ok-least.was))

pub returns-clause-least : goal.returns-clause-least
returns-clause-least c =
    rw (← c.self.view_is)
    (λ b lt. live_before (table_of c.self.inside).forwards c.in_ok-least.least b (sym (first_is c.self.inside.forwards.items _ _ _ c.deref.ensures.value c.first_dead.ensures) ∙ c.in_ok-least.was) lt)
