use Rattle.std.proofs.Common.{◌∙◌, ap, sym}
use Rattle.std.proofs.lemmas.List.{append-nil}
use Rattle.ve_theory.specs.Combinations.{scaled}
use Rattle.ve_pres.specs.Terms.{pairs}
use Rattle.ve_pres.proofs.KeptElements.{residue_of_item}
use Rattle.ve_pres.proofs.Products.{push_step, scaled_step}
use Rattle.ve_pres.proofs.free_mod.FreeMod.push_scaled.Goals as goal

pub loop-term-init : goal.loop-term-init
unfolding scaled
loop-term-init c = sym (append-nil (pairs c.args.terms.now.items))

pub mul-requires-clause-second : goal.mul-requires-clause-second
mul-requires-clause-second c =
    residue_of_item _ _ _ _ c.term-item.result c.requires.residues (ap pairs c.deref-term-items.ensures.value ∙ c.self.view_is) c.loop-term-test.true c.term-item.is

pub loop-term-preserved : goal.loop-term-preserved
loop-term-preserved c =
    push_step _ _ _ _ _ _ c.in_ok-push.ensures.items c.loop-term.invariant
    (scaled_step _ _ _ _ c.term-item.result _ c.loop-term-test.true c.term-item.is c.in_ok-copy.ensures c.mul.ensures.product)
