use Rattle.std.proofs.Common.{◌≡◌, ◌≤◌, ◌<◌, ◌∙◌, [], All, length, max, ap, ap₂, arith, subst, sym, List, ℕ}
use Rattle.ve_theory.specs.Words.{letters, letters_weight, word_length, word_weight}
use Rattle.ve_theory.specs.Validity.{most_length}
use Rattle.ve_lemmas.proofs.Weights.{word_weight-letters}
use Rattle.ve_pres.specs.Terms.{pairs}
use Rattle.ve_pres.proofs.WeightSums.{element_none, greatest_step_on, ord_max-nat, word_of_item}
use Rattle.ve_pres.proofs.free_mod.FreeMod.weight.Goals as goal

pub loop-term-init : goal.loop-term-init
loop-term-init c = (sym (element_none c.args.weights.now []), omega arith)

spelled : (c : goal.After-deref) → letters c.term-item.result.word ≡ c.deref.result.now
spelled c = sym c.spelling.ensures ∙ sym c.deref.ensures.value

pub letters_weight-requires-clause-letters : goal.letters_weight-requires-clause-letters
letters_weight-requires-clause-letters c =
    let P : List ℕ → Type 0 = λ u. All (λ x. x < length c.args.weights.now) u in
    subst P (spelled c) (word_of_item (λ w. P (letters w)) _ _ _ c.term-item.result c.requires.letters (ap pairs c.deref-term-items.ensures.value ∙ c.self.view_is) c.loop-term-test.true c.term-item.is)

pub letters_weight-requires-clause-count : goal.letters_weight-requires-clause-count
letters_weight-requires-clause-count c =
    let within : word_length c.term-item.result.word ≤ most_length =
    word_of_item (λ w. word_length w ≤ most_length) _ _ _ c.term-item.result c.self.invariant.lengths (ap pairs c.deref-term-items.ensures.value) c.loop-term-test.true c.term-item.is in
    omega (arith, within, ap length (spelled c))

pub loop-term-preserved : goal.loop-term-preserved
loop-term-preserved c =
    let weight : c.letters_weight.result ≡ word_weight c.args.weights.now c.term-item.result.word =
    c.letters_weight.ensures.weight ∙ (ap (letters_weight c.args.weights.now) (c.deref.ensures.value ∙ c.spelling.ensures) ∙ sym (word_weight-letters c.args.weights.now c.term-item.result.word)) in
    let greater : c.max-greatest.result ≡ max c.loop-term.greatest c.letters_weight.result = c.max-greatest.ensures ∙ ord_max-nat c.loop-term.greatest c.letters_weight.result in (
      greater ∙ (ap₂ max c.loop-term.invariant.0 weight ∙ sym (greatest_step_on c.args.weights.now _ _ c.term-item.result c.loop-term-test.true c.term-item.is)),
      omega (arith, greater, c.letters_weight.ensures.within, c.loop-term.invariant.1),
    )
