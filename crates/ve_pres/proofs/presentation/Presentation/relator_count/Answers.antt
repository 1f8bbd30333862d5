use Rattle.std.proofs.Common.{arith, length, ap, sym, ◌≡◌, ◌∙◌, ◌≤◌}
use Rattle.ve_theory.specs.Presentations.{inverse_relators}
use Rattle.ve_pres.specs.Drafts.{Draft}
use Rattle.ve_pres.proofs.ValidPresentations.{few_relations, few_relators}
use Rattle.ve_pres.proofs.presentation.Presentation.relator_count.Goals as goal

pub overflow_add-result : goal.overflow_add-result
overflow_add-result c =
    let few : length c.self.inside.letters.relators.items ≤ 32 = few_relators c.self.inside c.self.invariant in
    let count : c.letter_relators.result ≡ length c.self.inside.letters.relators.items =
    c.letter_relators.ensures
    ∙ (ap (λ (d : Draft). length (inverse_relators d.presentation.prime 0 d.presentation.inverses)) (sym c.self.view_is) ∙ ap length (sym c.self.invariant.relators)) in
    omega (arith, few, count, few_relations c.self.inside c.self.invariant)
