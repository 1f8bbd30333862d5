use Rattle.std.proofs.Common.{◌≡◌, ◌∙◌, ◌*◌, length, ap, ap₂, arith}
use Rattle.ve_theory.specs.Elements.{element_times}
use Rattle.ve_pres.specs.Terms.{pairs, residues}
use Rattle.ve_pres.proofs.KeptElements.{residue_of_item, sum_of_residues, summable_product, whole_product}
use Rattle.ve_pres.proofs.Products.{times_step}
use Rattle.ve_pres.proofs.WordBounds.{words_of_times}
use Rattle.ve_pres.proofs.free_mod.FreeMod.times.Goals as goal

pub loop-term-init : goal.loop-term-init
unfolding element_times
loop-term-init c = ap pairs c.in_ok-terms.ensures.items

pub push_products-requires-clause-residue : goal.push_products-requires-clause-residue
push_products-requires-clause-residue c =
    residue_of_item _ _ _ _ c.term-item.result c.requires.left (ap pairs c.deref-term-items.ensures.value ∙ c.self.view_is) c.loop-term-test.true c.term-item.is

pub loop-term-preserved : goal.loop-term-preserved
loop-term-preserved c = times_step _ _ _ c.term-item.result _ _ _ c.loop-term-test.true c.term-item.is c.loop-term.invariant c.in_ok-push_products.ensures

shown : (c : goal.After-loop-term) → pairs c.loop-term.terms.items ≡ residues c.args.field.now (element_times c.args.self.now c.args.right.now)
shown c =
    let all : c.loop-term.term-index ≡ length c.deref-term-items.result.now = omega arith in
    whole_product _ _ _ _ _ _ c.loop-term.invariant all (ap pairs c.deref-term-items.ensures.value ∙ c.self.view_is)

pub from_terms-requires : goal.from_terms-requires
from_terms-requires c =
    let count : c.term_count.result * c.term_count-2.result ≡ length c.args.self.now * length c.args.right.now = ap₂ (λ m n. m * n) c.term_count.ensures.count c.term_count-2.ensures.count in
    summable_product _ _ _ _ c.requires.left (omega (arith, count, c.in_ok-check_product.ensures.terms))
    (λ some. omega (arith, count, c.in_ok-check_product.ensures.length (omega (arith, count)))) (shown c)

pub returns-clause-product : goal.returns-clause-product
returns-clause-product c =
    let all : c.loop-term.term-index ≡ length c.deref-term-items.result.now = omega arith in
    sum_of_residues _ _ _ _ (whole_product _ _ _ _ _ _ c.loop-term.invariant all (ap pairs c.deref-term-items.ensures.value ∙ c.self.view_is)) c.in_ok-from_terms.ensures.sum

pub returns-clause-words : goal.returns-clause-words
returns-clause-words c m n left right =
    let all : c.loop-term.term-index ≡ length c.deref-term-items.result.now = omega arith in
    words_of_times _ m n _ _ _ (sum_of_residues _ _ _ _ (whole_product _ _ _ _ _ _ c.loop-term.invariant all (ap pairs c.deref-term-items.ensures.value ∙ c.self.view_is)) c.in_ok-from_terms.ensures.sum) left right
