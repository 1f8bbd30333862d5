use Rattle.std.proofs.Common.{ap, sym, ◌∙◌, []}
use Rattle.ve_make.specs.Parts.{swaps_draft}
use Rattle.ve_make.proofs.Building.{no_swaps}
use Rattle.ve_make.proofs.symmetric.make.Goals as goal

pub add_swaps-requires-clause-bare : goal.add_swaps-requires-clause-bare
add_swaps-requires-clause-bare c = c.new-presentation.ensures.bare ∙ no_swaps _ ∙ ap (λ p. swaps_draft p 0 [] []) (sym (ap (λ d. d.presentation.prime) c.new-presentation.ensures.bare))
