use Rattle.std.proofs.Common.{◌≡◌, ◌≤◌, ◌+◌, ap, arith, get_or, sym, ◌∙◌}
use Rattle.ve_theory.specs.Words.{letters_weight}
use Rattle.ve_pres.proofs.WeightSums.{letters_none, letters_step, weight_in_range}
use Rattle.ve_pres.proofs.weights.letters_weight.Goals as goal

pub loop-letter-init : goal.loop-letter-init
unfolding letters_weight
loop-letter-init c = (sym (letters_none c.args.weights.now c.args.letters.now), omega arith)

pub loop-letter-preserved : goal.loop-letter-preserved
loop-letter-preserved c =
    let weight : c.from-weight.result ≡ get_or c.args.weights.now (get_or c.args.letters.now c.loop-letter.letter-index 0) 0 =
    c.from-weight.ensures ∙ ap (λ x. get_or c.args.weights.now x 0) c.from.ensures in
    let small : get_or c.args.weights.now (get_or c.args.letters.now c.loop-letter.letter-index 0) 0 ≤ 16 =
    weight_in_range _ _ _ c.loop-letter-test.true c.requires.letters c.requires.weights in
    (ap (λ w. c.loop-letter.weight + w) weight ∙ letters_step _ _ _ _ c.loop-letter-test.true c.requires.letters c.loop-letter.invariant.0, omega (arith, weight, small, c.loop-letter.invariant.1))
