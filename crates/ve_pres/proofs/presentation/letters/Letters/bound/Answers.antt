use Rattle.std.proofs.Common.{◌≡◌, ◌∙◌, ◌<◌, get_or, length, ap, arith}
use Rattle.ve_theory.specs.Elements.{algebra_weight}
use Rattle.ve_pres.proofs.Bounds.{greatest_of-none, greatest_of-take}
use Rattle.ve_pres.proofs.presentation.letters.Letters.bound.Goals as goal

pub loop-relator-init : goal.loop-relator-init
loop-relator-init c = omega (arith, greatest_of-none (algebra_weight c.args.self.now.weights.items), c.from-bound.ensures, c.greatest_weight.ensures)

pub loop-relator-preserved : goal.loop-relator-preserved
loop-relator-preserved c =
    let weight : c.weight.result ≡ algebra_weight c.args.self.now.weights.items c.relator-item.result =
    c.weight.ensures.weight ∙ ap (λ ws. algebra_weight ws c.relator-item.result) c.deref.ensures.value in
    let same : c.deref-relator-items.result.now ≡ c.args.self.now.relators.items = c.deref-relator-items.ensures.value in
    let below : c.loop-relator.relator-index < length c.args.self.now.relators.items = omega (arith, c.loop-relator-test.true, ap length same) in
    let here : c.relator-item.result ≡ get_or c.args.self.now.relators.items c.loop-relator.relator-index c.relator-item.result =
    c.relator-item.is ∙ ap (λ u. get_or u c.loop-relator.relator-index c.relator-item.result) same in
    omega (
      arith,
      weight,
      c.loop-relator.invariant,
      c.max-bound.ensures,
      greatest_of-take (algebra_weight c.args.self.now.weights.items) c.args.self.now.relators.items c.loop-relator.relator-index c.relator-item.result below here,
    )
