use Rattle.std.proofs.Common.{inr, Err}
use Rattle.std.proofs.lemmas.Result.{err_from_is_err_and}
use Rattle.ve_formats.specs.Causes.{Cause}
use Rattle.ve_formats.specs.ModuleExpressions as modules
use Rattle.ve_formats.specs.ModuleValues.{HasModuleValue}
use Rattle.ve_formats.specs.PresentationLines.{Works, submodule, refuses_submodule_count, refuses_submodule_value}
use Rattle.ve_read.specs.Drafts.{built_of}
use Rattle.ve_read.proofs.Told.{tells_more, value_tells}
use Rattle.ve_read.proofs.RelationLines.{valid_readable, submodule_refused, submodule_taken}
use Rattle.ve_read.proofs.building.Building.keep_submodule.Goals as goal

pub returns-then-self-ge-MOST_RELATIONS : goal.returns-then-self-ge-MOST_RELATIONS
returns-then-self-ge-MOST_RELATIONS c = λ d e left right. inr (c.requires.stage, refuses_submodule_count d e c.if-self-ge-MOST_RELATIONS.true)

pub returns-in_err-relation : goal.returns-in_err-relation
returns-in_err-relation c = λ d e left right.
    let failed = err_from_is_err_and c.from_residual.result c.from_residual.ensures.1 in
    let P = c.args.self.now.presentation.presentation in
    let Q : Cause → Type 0 = λ cause. HasModuleValue P (modules.difference d e) (Err cause) in
    let R : Cause → Type 0 = λ cause. Works (built_of c.args.self.now) (submodule d e) (Err cause) in
    rw (failed.1, failed.2)
    (inr (c.requires.stage, tells_more Q R _ (λ cause. refuses_submodule_value d e cause c.if-self-ge-MOST_RELATIONS.false) (value_tells Q _ (c.in_err-relation.ensures d e left.spell right.spell))))

pub add_sub-requires-clause-residues : goal.add_sub-requires-clause-residues
add_sub-requires-clause-residues c = (c.in_ok-relation.ensures c.requires.left.0 c.requires.right.0 c.requires.left.1.spell c.requires.right.1.spell).reduced

pub add_sub-requires-clause-words : goal.add_sub-requires-clause-words
add_sub-requires-clause-words c =
    let P = c.args.self.now.presentation.presentation in
    let worth = c.in_ok-relation.ensures c.requires.left.0 c.requires.right.0 c.requires.left.1.spell c.requires.right.1.spell in
    (c.values_are_elements.ensures.modules P _ _ (valid_readable P c.is_valid.ensures.valid) worth.value).words

pub returns-in_err-add_sub : goal.returns-in_err-add_sub
returns-in_err-add_sub c = λ d e left right.
    let failed = err_from_is_err_and c.from_residual-in_err-add_sub.result c.from_residual-in_err-add_sub.ensures.1 in
    let worth = c.in_ok-relation.ensures d e left.spell right.spell in
    rw (failed.1, failed.2)
    (submodule_refused c.args.self.now c.requires.stage c.requires.kept c.if-self-ge-MOST_RELATIONS.false d e c.in_ok-relation.relation worth.value _ c.in_err-add_sub.ensures.fault)

pub returns : goal.returns
returns c = λ d e left right.
    let worth = c.in_ok-relation.ensures d e left.spell right.spell in
    rw c.count.ensures
    (submodule_taken c.args.self.now c.requires.stage c.requires.kept c.if-self-ge-MOST_RELATIONS.false d e c.in_ok-relation.relation worth.value _ c.in_ok-add_sub.ensures.ok)
