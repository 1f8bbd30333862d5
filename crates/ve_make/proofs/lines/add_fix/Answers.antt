use Rattle.std.proofs.Common.{sym, subst, All}
use Rattle.ve_theory.specs.Combinations.{IsReduced}
use Rattle.ve_theory.specs.Words.{Shortlex}
use Rattle.ve_theory.specs.Presentations.{IsWord}
use Rattle.ve_pres.specs.Drafts.{TakesSubmoduleRelation, IsSubmoduleRelationFault}
use Rattle.ve_make.specs.Symmetric.{fixing_relation}
use Rattle.ve_make.proofs.Rooms.{fixing_words, took_fix, refused_fix}
use Rattle.ve_make.proofs.lines.add_fix.Goals as goal

pub add_sub-requires-clause-residues : goal.add_sub-requires-clause-residues
add_sub-requires-clause-residues c = subst (λ p. IsReduced Shortlex p c.in_ok-fixing_relation.field-0) c.requires.field c.in_ok-fixing_relation.ensures.reduced

pub add_sub-requires-clause-words : goal.add_sub-requires-clause-words
add_sub-requires-clause-words c =
    let P = c.args.presentation.now.presentation in
    subst (λ v. All (λ t. IsWord P t.0) v) (sym c.in_ok-fixing_relation.ensures.relation)
    (subst (λ p. All (λ t. IsWord P t.0) (fixing_relation p c.args.swap)) (sym c.requires.field) (fixing_words P c.args.swap c.requires.letter c.requires.generator))

pub returns-in-Ok : goal.returns-in-Ok
returns-in-Ok c =
    took_fix c.args.presentation.now c.add_sub.new.self c.args.field.now c.args.swap
    (subst (λ r. TakesSubmoduleRelation c.args.presentation.now r c.add_sub.new.self) c.in_ok-fixing_relation.ensures.relation c.in-Ok.ensures.ok)

pub unreachable-requires : goal.unreachable-requires
unreachable-requires c =
    refused_fix c.args.presentation.now c.args.field.now c.args.swap c.in-Err-Limit.field-0 c.in-Err-Limit.field-0-0 c.requires.room
    c.in-Err-Limit.field-0-is (subst (λ r. IsSubmoduleRelationFault c.args.presentation.now r c.in-Err-Limit.field-0) c.in_ok-fixing_relation.ensures.relation c.in-Err-Limit.ensures.fault)
