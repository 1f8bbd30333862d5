use Rattle.std.proofs.Common.{◌≡◌, ◌≤◌, ◌⊎◌, ◌-◌}
use Rattle.ve_table.specs.Births.{all_births}
use Rattle.ve_table.proofs.birth.products.Given as goal

abbrev pub invariant-loop-parent : goal.invariant-loop-parent
invariant-loop-parent l = record {
  so_far : l.births.items ≡ all_births l.fn.parents.0 (l.parent - l.fn.parents.0) l.letters;
  range : (l.parent ≡ l.fn.parents.0) ⊎ (l.parent ≤ l.fn.parents.1);
}
