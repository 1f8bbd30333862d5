use Rattle.std.proofs.Common.{◌≡◌}
use Rattle.std.specs.Vec.{vec_len, vec_capacity}
use Rattle.ve_table.specs.Roots.{AreRoots}
use Rattle.ve_table.proofs.table.open.root_entries.Given as goal

abbrev pub invariant-loop-root : goal.invariant-loop-root
invariant-loop-root l = record {
  are_roots : AreRoots l.root l.entries.items;
  count : vec_len l.entries ≡ l.root;
  capacity : vec_capacity l.entries ≡ l.roots;
}
