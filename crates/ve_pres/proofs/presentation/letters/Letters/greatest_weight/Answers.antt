use Rattle.std.proofs.Common.{◌≡◌, ◌∙◌, max, ap, arith, get_or, take, sym, ◌+◌, ℕ, List}
use Rattle.ve_theory.specs.Presentations.{greatest_of}
use Rattle.ve_pres.proofs.Bounds.{greatest_of-none, greatest_of-take_number}
use Rattle.ve_pres.proofs.WeightSums.{ord_max-nat}
use Rattle.ve_pres.proofs.presentation.letters.Letters.greatest_weight.Goals as goal

pub loop-weight-init : goal.loop-weight-init
loop-weight-init c = omega (arith, greatest_of-none (λ (w : ℕ). w))

pub loop-weight-preserved : goal.loop-weight-preserved
loop-weight-preserved c =
    let items : List ℕ = c.deref-weight-items.result.now in
    let same : items ≡ c.args.self.now.weights.items = c.deref-weight-items.ensures.value in
    let greater : c.max-greatest.result ≡ max c.loop-weight.greatest (get_or items c.loop-weight.weight-index 0) = c.max-greatest.ensures ∙ ord_max-nat c.loop-weight.greatest (get_or items c.loop-weight.weight-index 0) in
    let next : greatest_of (λ w. w) (take (c.loop-weight.weight-index + 1) items) ≡ max (greatest_of (λ w. w) (take c.loop-weight.weight-index items)) (get_or items c.loop-weight.weight-index 0) =
    greatest_of-take_number items c.loop-weight.weight-index c.loop-weight-test.true in
    let front : greatest_of (λ w. w) (take c.loop-weight.weight-index c.args.self.now.weights.items) ≡ greatest_of (λ w. w) (take c.loop-weight.weight-index items) = ap (λ u. greatest_of (λ w. w) (take c.loop-weight.weight-index u)) (sym same) in
    let whole : greatest_of (λ w. w) (take (c.loop-weight.weight-index + 1) items) ≡ greatest_of (λ w. w) (take (c.loop-weight.weight-index + 1) c.args.self.now.weights.items) = ap (λ u. greatest_of (λ w. w) (take (c.loop-weight.weight-index + 1) u)) same in
    let old : c.loop-weight.greatest ≡ max 1 (greatest_of (λ w. w) (take c.loop-weight.weight-index c.args.self.now.weights.items)) = c.loop-weight.invariant in
    omega (arith, greater, next, front, whole, old)
