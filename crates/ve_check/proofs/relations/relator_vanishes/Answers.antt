use Rattle.std.proofs.Common.{◌<◌, nat_eq, All, sym, subst}
use Rattle.std.specs.Prelude.{◌↔◌, IsTrue}
use Rattle.ve_theory.specs.Combinations.{IsReducedOf, unit}
use Rattle.ve_theory.specs.Presentations.{relator}
use Rattle.ve_theory.specs.Answers.{IsZeroRow, row_times_element}
use Rattle.ve_vec.specs.Tracing.{CanTraceElement}
use Rattle.ve_matrix.specs.Answers.{answer_of}
use Rattle.ve_matrix.specs.Evaluating.{answer_table}
use Rattle.ve_check.proofs.Tracing.{relator_found, relator_residues}
use Rattle.ve_check.proofs.Vanishing.{vanishing_told}
use Rattle.ve_check.proofs.relations.relator_vanishes.Goals as goal

pub trace_relator-requires-clause-residues : goal.trace_relator-requires-clause-residues
trace_relator-requires-clause-residues c =
    let P = c.args.presentation.now.presentation in
    let own = c.relations_are_own.ensures P c.requires.check.valid.presentation in
    subst (λ r. All (λ t. t.1 < c.args.answer.now.field) r) (sym c.relator-relator.ensures)
    (relator_residues P c.args.answer.now c.requires.check own c.args.number c.requires.number)

pub trace_relator-requires-clause-found : goal.trace_relator-requires-clause-found
trace_relator-requires-clause-found c =
    let P = c.args.presentation.now.presentation in
    let own = c.relations_are_own.ensures P c.requires.check.valid.presentation in
    let traced = c.answers_are_traced.ensures c.args.answer.now c.requires.check.answer in
    subst (CanTraceElement c.args.answer.now.field (answer_table c.args.answer.now) (unit c.args.row)) (sym c.relator-relator.ensures)
    (relator_found P c.args.answer.now c.requires.check own c.args.number c.args.row traced c.requires.number c.requires.row)

pub returns : goal.returns
returns c =
    let A = c.args.answer.now in
    let action = (answer_of A).action in
    let r = relator c.args.presentation.now.presentation c.args.number in
    let traced = c.answers_are_traced.ensures A c.requires.check.answer in
    let value : IsReducedOf ◌<◌ nat_eq A.field c.in_ok-value.value (row_times_element action (unit c.args.row) r) =
    subst (λ s. IsReducedOf ◌<◌ nat_eq A.field c.in_ok-value.value (row_times_element action (unit c.args.row) s)) c.relator-relator.ensures
    (subst (IsReducedOf ◌<◌ nat_eq A.field c.in_ok-value.value) (traced.elements (unit c.args.row) c.relator-relator.result.now) c.in_ok-value.ensures.traced) in
    subst (λ p. IsTrue (nat_eq c.len.result 0) ↔ IsZeroRow p (row_times_element action (unit c.args.row) r)) c.requires.check.shape.prime
    (vanishing_told A.field c.len.result c.in_ok-value.value (row_times_element action (unit c.args.row) r) c.reduced_lists_are_unique.ensures c.len.ensures value)
