use Rattle.std.proofs.Common.{sym, subst}
use Rattle.ve_pack.specs.Packing.{IsPacking}
use Rattle.ve_pack.proofs.Dropping.{packed_by_dropping}
use Rattle.ve_pack.proofs.packing.pack_table.Goals as goal

pub returns-clause-ok : goal.returns-clause-ok
returns-clause-ok c =
    subst (IsPacking c.args.table.now) (sym c.in_ok-drop_dead.ensures.ok)
    (packed_by_dropping c.args.table.now c.resolve_all.new.table c.forwardings_are_a_space.ensures c.requires.sound c.resolve_all.ensures.finished.sound
    c.resolve_all.ensures.resolved c.in_ok-resolve_all.ensures.live)
