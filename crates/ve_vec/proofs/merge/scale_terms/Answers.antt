use Rattle.std.proofs.Common.{refl, ap, ◌∙◌, arith}
use Rattle.ve_vec.specs.Terms.{pairs}
use Rattle.ve_vec.proofs.Scaling.{product_of, written_all, write_product, pairs-products, IsReduced-set, IsReduced-at}
use Rattle.ve_vec.proofs.merge.scale_terms.Goals as goal

pub loop-term-init : goal.loop-term-init
loop-term-init c = (c.requires.fits, refl)

pub mul-term-requires-clause-second : goal.mul-term-requires-clause-second
mul-term-requires-clause-second c = (IsReduced-at _ _ _ _ c.loop-term.invariant.0 (omega (arith, c.loop-term-test.true, c.loop-term.auto.term-items))).1

pub loop-term-preserved : goal.loop-term-preserved
loop-term-preserved c =
    let here = IsReduced-at _ _ _ _ c.loop-term.invariant.0 (omega (arith, c.loop-term-test.true, c.loop-term.auto.term-items)) in (
      IsReduced-set _ _ _ _ _ c.loop-term.invariant.0 (c.mul-term.ensures.nonzero c.requires.nonzero here.0) c.mul-term.ensures.residue,
      write_product _ _ _ _ _ _ _ (omega (arith, c.loop-term-test.true, c.loop-term.auto.term-items)) c.loop-term.invariant.1 c.mul-term.ensures.product,
    )

pub returns-clause-product : goal.returns-clause-product
returns-clause-product c =
    ap pairs (c.loop-term.invariant.1 ∙ written_all (product_of c.args.field.now c.args.by) c.args.terms.now c.loop-term.term-index (omega (arith, c.loop-term-test.false, c.loop-term.auto.term-items)))
    ∙ pairs-products _ _ _
