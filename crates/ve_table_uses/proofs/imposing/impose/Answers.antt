use Rattle.std.proofs.Common.{ap, subst, ◌<◌, ◌∙◌}
use Rattle.ve_pres.specs.Drafts.{Draft}
use Rattle.ve_table.specs.Tables.{element_of, presented}
use Rattle.ve_trace.proofs.Vanishing.{derived_too}
use Rattle.ve_table_uses.proofs.imposing.impose.Goals as goal

pub delete-requires-clause-derived : goal.delete-requires-clause-derived
delete-requires-clause-derived c =
    let T = c.args.table.now in
    derived_too c.levels_are_closed.ensures c.sums_add_coefficients.ensures (presented T)
    (subst (λ q. 1 < q) (c.field.ensures.field ∙ ap (λ (d : Draft). d.presentation.prime) c.presentation.ensures.value) c.has_prime.ensures.above_one)
    T.level (element_of T c.args.vector.now) (element_of T c.in_ok-resolved.resolved) c.requires.vanishes c.in_ok-resolved.ensures.derived
