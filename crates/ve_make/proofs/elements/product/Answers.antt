use Rattle.std.proofs.Common.{arith, subst, ap₂, ◌∷◌, [], ◌∙◌}
use Rattle.ve_theory.specs.Elements.{IsAlgebraElementOf, product as product_of}
use Rattle.ve_theory.specs.Combinations.{unit}
use Rattle.ve_pres.specs.declared.free_alg.FreeAlg.{FreeAlg}
use Rattle.ve_make.proofs.Vanishing.{same_algebra, unit_reduced, unit_product, no_unit_product}
use Rattle.ve_make.proofs.elements.product.Goals as goal

pub mul-requires-clause-left : goal.mul-requires-clause-left
mul-requires-clause-left c = c.in_ok-first.ensures.reduced _ c.requires

pub mul-requires-clause-right : goal.mul-requires-clause-right
mul-requires-clause-right c = c.in_ok-second.ensures.reduced _ c.requires

pub returns-in-Ok : goal.returns-in-Ok
returns-in-Ok c =
    let letters = c.args.first ∷ c.args.second ∷ [] in
    same_algebra c.reduced_lists_are_unique.ensures c.args.field.now c.in-Ok.product (unit letters) (unit_reduced _ letters c.requires)
    (subst (λ e. IsAlgebraElementOf c.args.field.now c.in-Ok.product e)
    (ap₂ product_of c.in_ok-first.ensures.letter c.in_ok-second.ensures.letter ∙ unit_product (c.args.first ∷ []) (c.args.second ∷ [])) c.in-Ok.ensures.product)

pub unreachable-requires : goal.unreachable-requires
unreachable-requires c =
    no_unit_product FreeAlg (c.args.first ∷ []) (c.args.second ∷ []) c.in_ok-first.first c.in_ok-second.second _ _ c.in_ok-first.ensures.letter c.in_ok-second.ensures.letter
    (omega arith) c.in-Err-Limit.field-0-is c.in-Err-Limit.ensures.limit
