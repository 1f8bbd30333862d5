use Rattle.std.proofs.Common.{◌<◌, length, sym, arith, ◌∙◌}
use Rattle.std.proofs.lemmas.List.Filters.{FiltersInPlace-all, FiltersInPlace-more_no, FiltersInPlace-more_set}
use Rattle.ve_table.proofs.Unmoved.{none_filtered}
use Rattle.ve_table.proofs.table.drop_dead.drop_dead_entries.Goals as goal
use Rattle.ve_table.proofs.table.drop_dead.drop_dead_entries.Goals.{then-is_live, else-is_live}

pub loop-id-init : goal.loop-id-init
loop-id-init c = none_filtered c.args.entries.now.items c.args.least c.requires.bound c.requires.live

pub loop-id-preserved : goal.loop-id-preserved
loop-id-preserved c =
    let inside : c.loop-id.id < length c.loop-id.entries.items = omega (arith, c.loop-id-test.true, c.len-id-end.ensures, c.args.entries.now.ok.0, c.loop-id.invariant.long) in
    elim c.if-is_live.branch [
      | then-is_live w ↦ rw (w.kept-is, w.entries-is) (FiltersInPlace-more_set c.loop-id.invariant inside (sym c.is_live.ensures.value ∙ w.if-is_live.true) c.index.ensures)
      | else-is_live w ↦ rw (w.kept-is, w.entries-is) (FiltersInPlace-more_no c.loop-id.invariant inside (sym c.is_live.ensures.value ∙ w.if-is_live.false) c.index.ensures)
    ]

pub returns : goal.returns
returns c = c.truncate.ensures.items ∙ FiltersInPlace-all c.loop-id.invariant (omega (arith, c.loop-id-test.false, c.len-id-end.ensures, c.args.entries.now.ok.0))
