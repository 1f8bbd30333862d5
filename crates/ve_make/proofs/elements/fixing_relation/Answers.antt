use Rattle.std.proofs.Common.{◌-◌, ◌++◌, sym, ap₂, subst}
use Rattle.ve_theory.specs.Combinations.{IsReduced}
use Rattle.ve_theory.specs.Words.{Shortlex, generator, times}
use Rattle.ve_theory.specs.Elements.{IsElementOf}
use Rattle.ve_pres.specs.declared.free_mod.FreeMod.{FreeMod}
use Rattle.ve_make.specs.Symmetric.{fixing_relation}
use Rattle.ve_make.proofs.Vanishing.{word_reduced, same_element, opposite_generator, fixing_reduced, no_element_pair}
use Rattle.ve_make.proofs.elements.fixing_relation.Goals as goal

pub scale-requires-clause-residues : goal.scale-requires-clause-residues
scale-requires-clause-residues c = c.in_ok-root.ensures.reduced _ c.prime.ensures.above_one

pub plus-requires-clause-left : goal.plus-requires-clause-left
plus-requires-clause-left c =
    subst (λ v. IsReduced Shortlex c.args.field.now v) (sym c.in_ok-moved.ensures) (word_reduced c.args.field.now (times (generator 0) c.args.letter) c.prime.ensures.above_one)

pub plus-requires-clause-right : goal.plus-requires-clause-right
plus-requires-clause-right c = c.in_ok-opposite.ensures.multiple.reduced

pub returns-in-Ok-clause-relation : goal.returns-in-Ok-clause-relation
returns-in-Ok-clause-relation c =
    let p = c.args.field.now in
    let opposite = opposite_generator c.reduced_lists_are_unique.ensures p c.in_ok-root.field-0 c.in_ok-opposite.opposite c.prime.result c.prime.ensures.prime c.prime.ensures.above_one c.in_ok-root.ensures.root c.in_ok-opposite.ensures.multiple in
    same_element c.reduced_lists_are_unique.ensures p c.in-Ok.relation (fixing_relation p c.args.letter) (fixing_reduced p c.args.letter c.prime.ensures.above_one)
    (subst (λ e. IsElementOf p c.in-Ok.relation e) (ap₂ (λ u v. u ++ v) c.in_ok-moved.ensures opposite) c.in-Ok.ensures.sum)

pub unreachable-requires : goal.unreachable-requires
unreachable-requires c =
    let p = c.args.field.now in
    let opposite = opposite_generator c.reduced_lists_are_unique.ensures p c.in_ok-root.field-0 c.in_ok-opposite.opposite c.prime.result c.prime.ensures.prime c.prime.ensures.above_one c.in_ok-root.ensures.root c.in_ok-opposite.ensures.multiple in
    no_element_pair FreeMod (p - 1) (times (generator 0) c.args.letter) c.in_ok-moved.moved c.in_ok-opposite.opposite _ _ c.in_ok-moved.ensures opposite
    c.in-Err-Limit.field-0-is c.in-Err-Limit.ensures.limit

pub returns-in-Ok-clause-reduced : goal.returns-in-Ok-clause-reduced
returns-in-Ok-clause-reduced c = c.in-Ok.ensures.sum.reduced
