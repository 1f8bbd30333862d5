use Rattle.std.proofs.Common.{ap, ◌∙◌}
use Rattle.ve_theory.specs.Presentations.{relator}
use Rattle.ve_pres.specs.Drafts.{Draft}
use Rattle.ve_trace.proofs.Vanishing.{found, relator_found, relator_vanishes}
use Rattle.ve_table_uses.proofs.imposing.traced_relator.Goals as goal

pub trace_relator-requires-clause-rows : goal.trace_relator-requires-clause-rows
trace_relator-requires-clause-rows c =
    (found c.products_are_found.ensures c.relations_are_own.ensures c.args.table.now c.presentation-presentation.ensures.sound c.field-field.result.now
    (c.field-field.ensures.field ∙ ap (λ (d : Draft). d.presentation.prime) c.presentation-presentation.ensures.value)).reduced_rows

pub trace_relator-requires-clause-found : goal.trace_relator-requires-clause-found
trace_relator-requires-clause-found c =
    relator_found c.products_are_found.ensures c.relations_are_own.ensures c.args.table.now c.presentation-presentation.ensures.sound c.field-field.result.now
    (c.field-field.ensures.field ∙ ap (λ (d : Draft). d.presentation.prime) c.presentation-presentation.ensures.value)
    c.args.id c.args.number c.relator-relator.result.now
    (c.relator-relator.ensures ∙ ap (λ (d : Draft). relator d.presentation c.args.number) c.presentation-presentation.ensures.value) c.requires.id c.requires.number c.requires.due

pub returns-clause-vanishes : goal.returns-clause-vanishes
returns-clause-vanishes c =
    relator_vanishes c.products_are_found.ensures c.relations_are_own.ensures c.args.table.now c.presentation-presentation.ensures.sound c.field-field.result.now
    (c.field-field.ensures.field ∙ ap (λ (d : Draft). d.presentation.prime) c.presentation-presentation.ensures.value)
    c.levels_are_closed.ensures c.sums_add_coefficients.ensures c.has_prime.ensures.above_one
    c.args.id c.args.number c.relator-relator.result.now c.in_ok-vector.vector
    (c.relator-relator.ensures ∙ ap (λ (d : Draft). relator d.presentation c.args.number) c.presentation-presentation.ensures.value) c.requires.id c.requires.number c.requires.due
    (c.in_ok-vector.ensures.derived c.args.table.now)
