use Rattle.std.proofs.Common.{rules, IsTrue, subst}
use Rattle.ve_vec.specs.Vectors.{IsVector}
use Rattle.ve_table_uses.proofs.tests.vectors.renumbers.Goals as goal

pub renumber-requires-clause-order : goal.renumber-requires-clause-order
renumber-requires-clause-order c =
    let has : IsTrue c.has_numbers.result = search rules in
    subst IsVector (c.has_numbers.ensures.numbers has) (c.args.field.now, c.in_ok-other.ensures)
