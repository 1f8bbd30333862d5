use Rattle.std.proofs.Common.{◌<◌, nat_eq, All, sym, subst}
use Rattle.std.specs.Prelude.{◌↔◌, IsTrue}
use Rattle.ve_theory.specs.Combinations.{IsReducedOf}
use Rattle.ve_theory.specs.Presentations.{submodule_relation}
use Rattle.ve_theory.specs.Answers.{IsZeroRow, evaluation}
use Rattle.ve_matrix.specs.Answers.{answer_of}
use Rattle.ve_matrix.specs.Evaluating.{IsAnswerWord}
use Rattle.ve_check.proofs.Tracing.{submodule_residues, submodule_words}
use Rattle.ve_check.proofs.Vanishing.{vanishing_told}
use Rattle.ve_check.proofs.relations.sub_vanishes.Goals as goal

pub eval_free-requires-clause-residues : goal.eval_free-requires-clause-residues
eval_free-requires-clause-residues c =
    let P = c.args.presentation.now.presentation in
    subst (λ q. All (λ t. t.1 < c.args.answer.now.field) q) (sym c.sub.ensures)
    (submodule_residues P c.args.answer.now c.requires.check (c.relations_are_own.ensures P c.requires.check.valid.presentation) c.args.number c.requires.number)

pub eval_free-requires-clause-words : goal.eval_free-requires-clause-words
eval_free-requires-clause-words c =
    let P = c.args.presentation.now.presentation in
    subst (λ q. All (λ t. IsAnswerWord c.args.answer.now t.0) q) (sym c.sub.ensures)
    (submodule_words P c.args.answer.now c.requires.check (c.relations_are_own.ensures P c.requires.check.valid.presentation) c.args.number c.requires.number)

pub returns : goal.returns
returns c =
    let A = c.args.answer.now in
    let action = (answer_of A).action in
    let q = submodule_relation c.args.presentation.now.presentation c.args.number in
    let value : IsReducedOf ◌<◌ nat_eq A.field c.in_ok-value.value (evaluation action q) =
    subst (λ e. IsReducedOf ◌<◌ nat_eq A.field c.in_ok-value.value (evaluation action e)) c.sub.ensures c.in_ok-value.ensures.value in
    subst (λ p. IsTrue (nat_eq c.len.result 0) ↔ IsZeroRow p (evaluation action q)) c.requires.check.shape.prime
    (vanishing_told A.field c.len.result c.in_ok-value.value (evaluation action q) c.reduced_lists_are_unique.ensures c.len.ensures value)
