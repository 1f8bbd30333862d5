use Rattle.std.proofs.Common.{◌<◌, ◌≤◌, length, ap, arith}
use Rattle.ve_theory.specs.Words.{word_length}
use Rattle.ve_theory.specs.Validity.{most_length}
use Rattle.ve_pres.specs.Terms.{pairs}
use Rattle.ve_pres.proofs.KeptElements.{length-pairs}
use Rattle.ve_pres.proofs.WeightSums.{word_of_item}
use Rattle.ve_pres.proofs.free_mod.FreeMod.word_at.Goals as goal

pub returns-clause-within : goal.returns-clause-within
returns-clause-within c =
    let below : c.args.at < length c.self.inside.terms.items = omega (arith, c.requires, length-pairs c.self.inside.terms.items, ap length c.self.view_is) in
    word_of_item (λ w. word_length w ≤ most_length) _ c.self.inside.terms.items c.args.at c.index.result.now c.self.invariant.lengths (λ i. pairs c.self.inside.terms.items) below c.index.ensures
