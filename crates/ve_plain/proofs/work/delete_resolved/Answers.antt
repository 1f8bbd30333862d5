use Rattle.ve_theory.proofs.Sums.{prime-large}
use Rattle.ve_table.specs.Tables.{element_of, presented}
use Rattle.ve_trace.proofs.Vanishing.{derived_too}
use Rattle.ve_plain.proofs.Going.{vanishes}
use Rattle.ve_plain.proofs.work.delete_resolved.Goals as goal

pub delete-requires-clause-derived : goal.delete-requires-clause-derived
delete-requires-clause-derived c =
    let T = c.args.table.now in
    derived_too c.levels_are_closed.ensures c.sums_add_coefficients.ensures (presented T)
    (prime-large (presented T).prime c.is_sound.ensures.valid.presentation.field)
    T.level (element_of T c.args.vector) (element_of T c.in_ok-resolved.resolved) c.requires.vanishes c.in_ok-resolved.ensures.derived

pub returns-clause-ok : goal.returns-clause-ok
returns-clause-ok c =
    vanishes c.forwardings_are_a_space.ensures c.deaths_keep.ensures c.stays_under_way.ensures c.args.table.now c.delete.new.table c.args.vector c.in_ok-resolved.resolved
    c.is_sound.ensures c.delete.ensures.sound c.in_ok-resolved.ensures.resolved c.delete.result c.delete.ensures.zero c.delete.ensures.same c.delete.ensures.dead
