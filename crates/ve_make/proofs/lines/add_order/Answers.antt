use Rattle.std.proofs.Common.{sym, subst, All}
use Rattle.ve_theory.specs.Combinations.{IsReduced}
use Rattle.ve_theory.specs.Words.{ShortlexLetters}
use Rattle.ve_theory.specs.Presentations.{HasLetters}
use Rattle.ve_pres.specs.Drafts.{TakesRelation, IsRelationFault}
use Rattle.ve_make.specs.Symmetric.{order_relation}
use Rattle.ve_make.proofs.Rooms.{order_letters, took_order, refused_order}
use Rattle.ve_make.proofs.lines.add_order.Goals as goal

pub add_relation-requires-clause-residues : goal.add_relation-requires-clause-residues
add_relation-requires-clause-residues c = subst (λ p. IsReduced ShortlexLetters p c.in_ok-order_relation.field-0) c.requires.field c.in_ok-order_relation.ensures.reduced

pub add_relation-requires-clause-letters : goal.add_relation-requires-clause-letters
add_relation-requires-clause-letters c =
    let P = c.args.presentation.now.presentation in
    subst (λ r. All (λ t. HasLetters P t.0) r) (sym c.in_ok-order_relation.ensures.relation)
    (subst (λ p. All (λ t. HasLetters P t.0) (order_relation p c.args.first c.args.second)) (sym c.requires.field) (order_letters P c.args.first c.args.second c.requires.order c.requires.last))

pub returns-in-Ok : goal.returns-in-Ok
returns-in-Ok c =
    took_order c.args.presentation.now c.add_relation.new.self c.args.field.now c.args.first c.args.second c.requires.plain
    (subst (λ r. TakesRelation c.args.presentation.now r c.add_relation.new.self) c.in_ok-order_relation.ensures.relation c.in-Ok.ensures.ok)

pub unreachable-requires : goal.unreachable-requires
unreachable-requires c =
    refused_order c.args.presentation.now c.args.field.now c.args.first c.args.second c.in-Err-Limit.field-0 c.in-Err-Limit.field-0-0 c.requires.plain c.requires.room
    c.in-Err-Limit.field-0-is (subst (λ r. IsRelationFault c.args.presentation.now r c.in-Err-Limit.field-0) c.in_ok-order_relation.ensures.relation c.in-Err-Limit.ensures.fault)
