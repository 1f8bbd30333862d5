use Rattle.std.proofs.Common.{◌<◌, ◌∙◌, ◌*◌, ◌%◌, length, ap, arith, sym, ℕ}
use Rattle.std.proofs.lemmas.List.{append-nil}
use Rattle.ve_theory.specs.Combinations.{scaled}
use Rattle.ve_theory.specs.Words.{times_all}
use Rattle.ve_theory.specs.Elements.{word_times}
use Rattle.ve_pres.specs.Terms.{pairs}
use Rattle.ve_pres.proofs.KeptElements.{residue_of_term}
use Rattle.ve_pres.proofs.Products.{products_step, push_step}
use Rattle.ve_pres.proofs.free_mod.push_products.Goals as goal

pub loop-at-init : goal.loop-at-init
unfolding scaled word_times
loop-at-init c = sym (append-nil (pairs c.args.terms.now.items))

pub mul-requires-clause-second : goal.mul-requires-clause-second
mul-requires-clause-second c =
    let below : c.loop-at.at < length c.args.right.now = omega (arith, c.loop-at-test.true, c.term_count-at-end.ensures.count) in
    omega (arith, residue_of_term _ _ _ c.requires.residues below, c.coef_at.ensures)

pub loop-at-preserved : goal.loop-at-preserved
loop-at-preserved c =
    let below : c.loop-at.at < length c.args.right.now = omega (arith, c.loop-at-test.true, c.term_count-at-end.ensures.count) in
    push_step _ _ _ _ _ _ c.in_ok-push.ensures.items c.loop-at.invariant
    (products_step _ _ c.args.term.now _ _ below
    (c.in_ok-times_letters.ensures ∙ ap (times_all c.args.term.now.word) (c.deref.ensures.value ∙ c.word_at.ensures.word))
    (c.mul.ensures.product ∙ ap (λ (n : ℕ). c.args.term.now.coef * n % c.args.field.now) c.coef_at.ensures))
