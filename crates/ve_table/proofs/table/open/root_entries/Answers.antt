use Rattle.std.proofs.Common.{◌+◌, sym, subst, ◌∙◌, arith}
use Rattle.ve_table.specs.Roots.{AreRoots}
use Rattle.ve_table.proofs.Opening.{root_more}
use Rattle.ve_table.proofs.table.open.root_entries.Goals as goal

pub loop-root-preserved : goal.loop-root-preserved
loop-root-preserved c = record {
  are_roots = subst (λ l. AreRoots (c.loop-root.root + 1) l) (sym c.push_reserved.ensures.items)
      (root_more c.loop-root.root c.loop-root.entries.items c.new.result c.loop-root.invariant.are_roots c.new.ensures.origin
      (record { own_reach = c.new.ensures.own_reach; own_length = c.new.ensures.own_length; live = c.new.ensures.live }));
  count = omega (arith, c.push_reserved.ensures.len, c.loop-root.invariant.count);
  capacity = c.push_reserved.ensures.capacity ∙ c.loop-root.invariant.capacity;
}
