use Rattle.std.proofs.Common.{◌≡◌, ◌+◌, take}
use Rattle.ve_table.specs.Rows.{with_births_from}
use Rattle.ve_table.proofs.rows.set_units.Given as goal

abbrev pub invariant-loop-birth : goal.invariant-loop-birth
invariant-loop-birth l = record {
  so_far : l.rows ≡ with_births_from l.letters l.first l.fn.rows (take l.birth-index l.births);
  id_is : l.id ≡ l.first + l.birth-index;
}
