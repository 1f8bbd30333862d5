use Rattle.std.proofs.Common.{◌≡◌, map}
use Rattle.std.specs.List.{range_with_len}
use Rattle.std.specs.Vec.{vec_len, vec_capacity}
use Rattle.ve_theory.specs.Combinations.{unit}
use Rattle.ve_table.proofs.table.open.root_images.Given as goal

abbrev pub invariant-loop-root : goal.invariant-loop-root
invariant-loop-root l = record {
  units : l.images.items ≡ map unit (range_with_len 0 l.root);
  count : vec_len l.images ≡ l.root;
  capacity : vec_capacity l.images ≡ l.roots;
}
