use Rattle.std.proofs.Common.{◌<◌, ◌∙◌, All, length, ap, sym}
use Rattle.ve_theory.specs.Elements.{algebra_weight}
use Rattle.ve_pres.proofs.WeightSums.{algebra_weight-in_algebra, words_in_algebra}
use Rattle.ve_pres.proofs.free_alg.FreeAlg.weight.Goals as goal

pub weight-requires-clause-letters : goal.weight-requires-clause-letters
weight-requires-clause-letters c = words_in_algebra (λ u. All (λ x. x < length c.args.weights.now) u) _ _ c.self.view_is c.requires.letters

pub returns-clause-weight : goal.returns-clause-weight
returns-clause-weight c =
    c.weight.ensures.weight ∙ (sym (algebra_weight-in_algebra c.args.weights.now c.self.inside.element) ∙ ap (algebra_weight c.args.weights.now) c.self.view_is)
