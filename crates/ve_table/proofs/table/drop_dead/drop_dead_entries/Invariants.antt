use Rattle.std.proofs.lemmas.List.Filters.{FiltersInPlace}
use Rattle.ve_table.specs.Deaths.{is_live_entry}
use Rattle.ve_table.proofs.table.drop_dead.drop_dead_entries.Given as goal

abbrev pub invariant-loop-id : goal.invariant-loop-id
invariant-loop-id l = FiltersInPlace is_live_entry l.fn.entries.items l.entries.items l.kept l.id
