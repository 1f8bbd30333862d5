use Rattle.std.proofs.Common.{ℕ, map, ap, ◌∙◌}
use Rattle.ve_theory.specs.Combinations.{IsReduced}
use Rattle.ve_vec.specs.Terms.{pairs}
use Rattle.ve_vec.proofs.Scaling.{products, no_product, products-reduced, map-products}
use Rattle.ve_vec.proofs.sparse.Sparse.scale.Goals as goal

pub invariant_of-self : goal.invariant_of-self
unfolding IsReduced
invariant_of-self c = rw c.new.ensures (0, tt)

pub returns-then-by-eq0-clause-product : goal.returns-then-by-eq0-clause-product
returns-then-by-eq0-clause-product c = no_product _ _ _ _ (ap pairs c.new.ensures) c.if-by-eq0.true

pub returns-clause-product : goal.returns-clause-product
returns-clause-product c =
    products-reduced _ _ _ _ (c.scale.ensures.product ∙ ap (products c.args.field.now c.args.by) c.self.view_is) c.scale.ensures.fits

pub returns-clause-same_ids : goal.returns-clause-same_ids
returns-clause-same_ids c =
    λ nonzero.
    ap (map (λ (t : ℕ × ℕ). t.0)) (c.scale.ensures.product ∙ ap (products c.args.field.now c.args.by) c.self.view_is)
    ∙ map-products c.args.field.now c.args.by c.args.self.now
