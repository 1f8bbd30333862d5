use Rattle.std.proofs.Common.{rules, IsTrue}
use Rattle.ve_table_uses.proofs.Vanishing.{vector_vanishes}
use Rattle.ve_table_uses.proofs.tests.steps.deletes.Goals as goal

pub delete-requires-clause-derived : goal.delete-requires-clause-derived
delete-requires-clause-derived c =
    let answered : IsTrue c.is_row.result = search rules in
    let one : IsTrue c.has_relator_one.result = search rules in
    vector_vanishes c.args.table.now c.is_sound.ensures (c.has_relator_one.ensures one) c.in_ok-vector.vector (c.is_row.ensures answered).1
