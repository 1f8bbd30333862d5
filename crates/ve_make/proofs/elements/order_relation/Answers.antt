use Rattle.std.proofs.Common.{◌≡◌, ◌-◌, ◌++◌, arith, sym, ap₂, subst}
use Rattle.std.proofs.lemmas.Bool.Decides.{nat_tests}
use Rattle.ve_theory.specs.Combinations.{unit, IsReduced}
use Rattle.ve_theory.specs.Words.{ShortlexLetters}
use Rattle.ve_theory.specs.Elements.{IsAlgebraElementOf}
use Rattle.ve_pres.specs.declared.free_alg.FreeAlg.{FreeAlg}
use Rattle.ve_make.specs.Symmetric.{order_relation, product_order, product_power}
use Rattle.ve_make.proofs.Vanishing.{same_algebra, unit_reduced, order_reduced, opposite_constant, no_pair}
use Rattle.ve_make.proofs.elements.order_relation.Goals as goal
use Rattle.ve_make.proofs.elements.order_relation.Goals.{then-second-first, else-second-first}

pub plus-requires-clause-left : goal.plus-requires-clause-left
plus-requires-clause-left c =
    subst (λ r. IsReduced ShortlexLetters c.args.field.now r) (sym c.in_ok-power.ensures)
    (unit_reduced c.args.field.now (product_power c.args.first c.args.second c.if-second-first.order) c.prime.ensures.above_one)

pub plus-requires-clause-right : goal.plus-requires-clause-right
plus-requires-clause-right c = c.in_ok-opposite.ensures.constant.reduced

pub returns-in-Ok-clause-relation : goal.returns-in-Ok-clause-relation
returns-in-Ok-clause-relation c =
    let p = c.args.field.now in
    let law = c.reduced_lists_are_unique.ensures in
    let order : c.if-second-first.order ≡ product_order c.args.first c.args.second = elim c.if-second-first.branch [ then-second-first w ↦ grind (arith, nat_tests) | else-second-first w ↦ grind (arith, nat_tests) ] in
    let power : c.in_ok-power.power ≡ unit (product_power c.args.first c.args.second (product_order c.args.first c.args.second)) =
    subst (λ n. c.in_ok-power.power ≡ unit (product_power c.args.first c.args.second n)) order c.in_ok-power.ensures in
    let opposite = opposite_constant c.reduced_lists_are_unique.ensures c.args.field.now c.in_ok-opposite.opposite c.prime.result c.prime.ensures.prime c.prime.ensures.above_one c.in_ok-opposite.ensures.constant in
    same_algebra law p c.in-Ok.relation (order_relation p c.args.first c.args.second) (order_reduced p c.args.first c.args.second c.prime.ensures.above_one)
    (subst (λ e. IsAlgebraElementOf p c.in-Ok.relation e) (ap₂ (λ u v. u ++ v) power opposite) c.in-Ok.ensures.sum)

pub unreachable-requires : goal.unreachable-requires
unreachable-requires c =
    no_pair FreeAlg (c.args.field.now - 1) (product_power c.args.first c.args.second c.if-second-first.order) c.in_ok-power.power c.in_ok-opposite.opposite _ _
    c.in_ok-power.ensures (opposite_constant c.reduced_lists_are_unique.ensures c.args.field.now c.in_ok-opposite.opposite c.prime.result c.prime.ensures.prime c.prime.ensures.above_one c.in_ok-opposite.ensures.constant)
    c.in-Err-Limit.field-0-is c.in-Err-Limit.ensures.limit

pub returns-in-Ok-clause-reduced : goal.returns-in-Ok-clause-reduced
returns-in-Ok-clause-reduced c = c.in-Ok.ensures.sum.reduced
