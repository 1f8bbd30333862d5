use Rattle.std.proofs.Common.{◌≡◌, ◌≢◌, ◌+◌, ◌<◌, ◌∙◌, [], max, length, ap, subst, sym, arith}
use Rattle.ve_theory.specs.Elements.{algebra_weight}
use Rattle.ve_theory.specs.Validity.{algebra_cells, cells, most_relations}
use Rattle.ve_pres.specs.Drafts.{Draft}
use Rattle.ve_pres.specs.Relations.{IsKeepable}
use Rattle.ve_pres.proofs.ValidPresentations.{relation_built}
use Rattle.ve_pres.proofs.presentation.Presentation.keep_relator.Goals as goal

pub invariant_of-self-2 : goal.invariant_of-self-2
invariant_of-self-2 c =
    let some : c.args.relator ≢ [] = λ none. omega (arith, c.if-term_count-eq0.false, c.term_count.ensures.count, ap length none) in
    let K : Draft → Type 0 = λ d. IsKeepable d.presentation c.args.relator in
    let C : Draft → Type 0 = λ d. d.counted < most_relations in
    let R : Draft → Type 0 = λ d. c.args.cells ≡ cells d.presentation + algebra_cells c.args.relator in
    let weight : c.weight.result ≡ algebra_weight c.self.inside.letters.weights.items c.args.relator = c.weight.ensures.weight ∙ ap (λ ws. algebra_weight ws c.args.relator) c.deref.ensures.value in
    relation_built c.self.inside c.push.new.self c.args.relator c.args.cells c.max-d.result c.self.invariant c.in_ok-push.ensures.items some
    (subst K (sym c.self.view_is) c.requires.relator) (subst C (sym c.self.view_is) c.requires.room) (subst R (sym c.self.view_is) c.requires.cells) c.requires.within
    (c.max-d.ensures ∙ ap (max _) weight)
