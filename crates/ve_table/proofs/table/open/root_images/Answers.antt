use Rattle.std.proofs.Common.{◌∷◌, [], ◌++◌, ap₂, ap, sym, ◌∙◌, arith}
use Rattle.std.proofs.lemmas.List.FromFn.{map-range_with_len_more}
use Rattle.ve_theory.specs.Combinations.{unit}
use Rattle.ve_table.proofs.table.open.root_images.Goals as goal

pub loop-root-preserved : goal.loop-root-preserved
loop-root-preserved c = record {
  units =
      c.push_reserved.ensures.items
      ∙ ap₂ (λ l v. l ++ v ∷ []) c.loop-root.invariant.units (c.unit.ensures.value ∙ ap unit c.from-in-loop-root.ensures)
      ∙ sym (map-range_with_len_more unit 0 c.loop-root.root c.loop-root.root (omega arith));
  count = omega (arith, c.push_reserved.ensures.len, c.loop-root.invariant.count);
  capacity = c.push_reserved.ensures.capacity ∙ c.loop-root.invariant.capacity;
}
