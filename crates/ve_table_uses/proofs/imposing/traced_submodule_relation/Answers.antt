use Rattle.std.proofs.Common.{ap, sym, subst, List, All, ◌<◌, ◌∙◌}
use Rattle.ve_theory.specs.Combinations.{IsReduced}
use Rattle.ve_theory.specs.Presentations.{submodule_relation}
use Rattle.ve_theory.specs.Answers.{Row}
use Rattle.ve_pres.specs.Drafts.{Draft}
use Rattle.ve_trace.proofs.Vanishing.{found, relation_found, relation_vanishes}
use Rattle.ve_table_uses.proofs.imposing.traced_submodule_relation.Goals as goal

pub trace_sub-requires-clause-rows : goal.trace_sub-requires-clause-rows
trace_sub-requires-clause-rows c =
    (found c.products_are_found.ensures c.relations_are_own.ensures c.args.table.now c.presentation-presentation.ensures.sound c.field-field.result.now
    (c.field-field.ensures.field ∙ ap (λ (d : Draft). d.presentation.prime) c.presentation-presentation.ensures.value)).reduced_rows

pub trace_sub-requires-clause-images : goal.trace_sub-requires-clause-images
trace_sub-requires-clause-images c =
    let I : List Row → Type 0 = λ vs. All (IsReduced ◌<◌ c.field-field.result.now) vs in
    subst I (sym c.images-images.ensures)
    (found c.products_are_found.ensures c.relations_are_own.ensures c.args.table.now c.presentation-presentation.ensures.sound c.field-field.result.now
    (c.field-field.ensures.field ∙ ap (λ (d : Draft). d.presentation.prime) c.presentation-presentation.ensures.value)).reduced_images

pub trace_sub-requires-clause-found : goal.trace_sub-requires-clause-found
trace_sub-requires-clause-found c =
    relation_found c.products_are_found.ensures c.relations_are_own.ensures c.args.table.now c.presentation-presentation.ensures.sound c.field-field.result.now
    (c.field-field.ensures.field ∙ ap (λ (d : Draft). d.presentation.prime) c.presentation-presentation.ensures.value)
    c.images-images.result.now.items c.args.number c.sub-relation.result.now c.images-images.ensures
    (c.sub-relation.ensures ∙ ap (λ (d : Draft). submodule_relation d.presentation c.args.number) c.presentation-presentation.ensures.value) c.requires.number c.requires.due

pub returns-clause-vanishes : goal.returns-clause-vanishes
returns-clause-vanishes c =
    relation_vanishes c.products_are_found.ensures c.relations_are_own.ensures c.args.table.now c.presentation-presentation.ensures.sound c.field-field.result.now
    (c.field-field.ensures.field ∙ ap (λ (d : Draft). d.presentation.prime) c.presentation-presentation.ensures.value)
    c.levels_are_closed.ensures c.sums_add_coefficients.ensures c.has_prime.ensures.above_one
    c.images-images.result.now.items c.args.number c.sub-relation.result.now c.in_ok-vector.vector c.images-images.ensures
    (c.sub-relation.ensures ∙ ap (λ (d : Draft). submodule_relation d.presentation c.args.number) c.presentation-presentation.ensures.value) c.requires.number c.requires.due
    (c.in_ok-vector.ensures.derived c.args.table.now)
