use Rattle.std.proofs.Common.{◌≡◌, ◌≢◌, ◌+◌, ◌<◌, ◌∙◌, [], max, length, ap, subst, sym, arith}
use Rattle.ve_theory.specs.Elements.{element_weight}
use Rattle.ve_theory.specs.Validity.{element_cells, cells, most_relations}
use Rattle.ve_pres.specs.Drafts.{Draft}
use Rattle.ve_pres.specs.Relations.{IsKeepableSubmodule}
use Rattle.ve_pres.proofs.ValidPresentations.{submodule_built}
use Rattle.ve_pres.proofs.presentation.Presentation.keep_submodule_relation.Goals as goal

pub invariant_of-self-2 : goal.invariant_of-self-2
invariant_of-self-2 c =
    let some : c.args.relation ≢ [] = λ none. omega (arith, c.if-term_count-eq0.false, c.term_count.ensures.count, ap length none) in
    let K : Draft → Type 0 = λ d. IsKeepableSubmodule d.presentation c.args.relation in
    let C : Draft → Type 0 = λ d. d.counted < most_relations in
    let R : Draft → Type 0 = λ d. c.args.cells ≡ cells d.presentation + element_cells c.args.relation in
    let weight : c.weight.result ≡ element_weight c.self.inside.letters.weights.items c.args.relation = c.weight.ensures.weight ∙ ap (λ ws. element_weight ws c.args.relation) c.deref.ensures.value in
    submodule_built c.self.inside c.push.new.self c.args.relation c.args.cells c.max-m.result c.self.invariant c.in_ok-push.ensures.items some
    (subst K (sym c.self.view_is) c.requires.relation) (subst C (sym c.self.view_is) c.requires.room) (subst R (sym c.self.view_is) c.requires.cells) c.requires.within
    (c.max-m.ensures ∙ ap (max _) weight)
