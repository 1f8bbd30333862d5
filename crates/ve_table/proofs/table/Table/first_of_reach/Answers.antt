use Rattle.std.proofs.Common.{◌≡◌, ◌<◌, List, length, get_or, subst, sym, ap, arith}
use Rattle.ve_table.specs.declared.entry.Entry.{Entry}
use Rattle.ve_table.specs.Steps.{HasRisingReaches}
use Rattle.ve_table.proofs.Birthing.{element}
use Rattle.ve_table.proofs.Entries.{one_entry_each, has_entry}
use Rattle.ve_table.proofs.Stepping.{rising_reaches, reach_here}
use Rattle.ve_table.proofs.table.Table.first_of_reach.Goals as goal

pub first_of_reach-requires : goal.first_of_reach-requires
first_of_reach-requires c = subst HasRisingReaches (sym c.deref.ensures.value) (rising_reaches c.self.inside c.self.invariant)

-- the entries that were searched are the table's
entries_are : (c : goal.After-deref) → c.deref.result.now ≡ c.self.inside.entries.items
entries_are c = c.deref.ensures.value

pub returns-clause-bound : goal.returns-clause-bound
returns-clause-bound c =
    rw (← c.self.view_is) (omega (arith, c.first_of_reach.ensures.bound, ap length c.deref.ensures.value, one_entry_each c.self.inside c.self.invariant))

pub returns-clause-below : goal.returns-clause-below
returns-clause-below c =
    rw (← c.self.view_is)
    (λ b lt.
    let es : List Entry = c.self.inside.entries.items in
    let within : b < length es = omega (arith, lt, c.first_of_reach.ensures.bound, ap length c.deref.ensures.value) in
    let d : Entry = element es b within in
    let below = c.first_of_reach.ensures.below b d (omega arith) lt in
    omega (arith, below, ap (λ l. (get_or l b d).reach) c.deref.ensures.value, reach_here c.self.inside c.self.invariant b d within))

pub returns-clause-rest : goal.returns-clause-rest
returns-clause-rest c =
    rw (← c.self.view_is)
    (λ b le id.
    let es : List Entry = c.self.inside.entries.items in
    let within : b < length es = has_entry c.self.inside c.self.invariant b id in
    let d : Entry = element es b within in
    let rest = c.first_of_reach.ensures.rest b d le (omega (arith, within, ap length c.deref.ensures.value)) in
    omega (arith, rest, ap (λ l. (get_or l b d).reach) c.deref.ensures.value, reach_here c.self.inside c.self.invariant b d within))
