use Rattle.std.proofs.Common.{sym, subst, ◌∷◌, []}
use Rattle.ve_theory.specs.Combinations.{IsReduced}
use Rattle.ve_theory.specs.Words.{ShortlexLetters}
use Rattle.ve_pres.specs.Powers.{Reaches}
use Rattle.ve_make.proofs.Vanishing.{unit_reduced, reached_power, no_power}
use Rattle.ve_make.proofs.elements.product_power.Goals as goal

pub pow-requires-clause-residues : goal.pow-requires-clause-residues
pow-requires-clause-residues c =
    subst (λ r. IsReduced ShortlexLetters c.args.field.now r) (sym c.in_ok-product.ensures) (unit_reduced c.args.field.now (c.args.first ∷ c.args.second ∷ []) c.requires.field)

pub returns-in-Ok : goal.returns-in-Ok
returns-in-Ok c =
    reached_power c.reduced_lists_are_unique.ensures c.args.field.now c.args.first c.args.second c.requires.field c.args.order c.in-Ok.power
    (subst (λ r. Reaches c.args.field.now r c.args.order c.in-Ok.power) c.in_ok-product.ensures (c.in-Ok.ensures.limit c.requires.positive))

pub unreachable-requires : goal.unreachable-requires
unreachable-requires c =
    no_power c.reduced_lists_are_unique.ensures c.args.field.now c.args.first c.args.second c.args.order c.in_ok-product.product _ _ c.requires.field c.requires.small
    c.in_ok-product.ensures c.in-Err-Limit.field-0-is c.in-Err-Limit.ensures.limit
