use Rattle.std.proofs.Common.{rules, IsTrue}
use Rattle.ve_pack.proofs.Dropping.{packing_itself}
use Rattle.ve_pack.proofs.packing.pack.Goals as goal

pub returns-then-is_packed-clause-packed : goal.returns-then-is_packed-clause-packed
returns-then-is_packed-clause-packed c =
    let answered : IsTrue c.is_packed.result = search rules in
    packing_itself c.args.finished c.is_finished.ensures.sound (c.is_packed.ensures.0 answered) c.forwardings_are_a_space.ensures
