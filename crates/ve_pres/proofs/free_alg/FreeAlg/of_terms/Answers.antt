use Rattle.std.proofs.Common.{refl, subst}
use Rattle.ve_theory.specs.Elements.{Element, IsElementOf}
use Rattle.ve_pres.proofs.InAlgebra.{first_two, first_words, sum_in_algebra, two_pairs, words_of_two}
use Rattle.ve_pres.proofs.free_alg.FreeAlg.of_terms.Goals as goal

pub invariant_of-result : goal.invariant_of-result
invariant_of-result c =
    let P : Element → Type 0 = λ e. IsElementOf c.args.field.now c.in_ok-element.element e in
    let sum = subst P (two_pairs _ _ _ _ _ c.in_ok-push-2.ensures.items c.in_ok-push.ensures.items c.in_ok-terms.ensures.items) c.in_ok-element.ensures.sum in
    first_words _ _ _ sum (first_two _ _ c.requires.first.first c.requires.second.first)

pub returns-clause-sum : goal.returns-clause-sum
returns-clause-sum c =
    let P : Element → Type 0 = λ e. IsElementOf c.args.field.now c.in_ok-element.element e in
    let sum = subst P (two_pairs _ _ _ _ _ c.in_ok-push-2.ensures.items c.in_ok-push.ensures.items c.in_ok-terms.ensures.items) c.in_ok-element.ensures.sum in
    sum_in_algebra _ _ _ _ (first_two _ _ c.requires.first.first c.requires.second.first) refl sum

pub returns-clause-words : goal.returns-clause-words
returns-clause-words c =
    let P : Element → Type 0 = λ e. IsElementOf c.args.field.now c.in_ok-element.element e in
    let sum = subst P (two_pairs _ _ _ _ _ c.in_ok-push-2.ensures.items c.in_ok-push.ensures.items c.in_ok-terms.ensures.items) c.in_ok-element.ensures.sum in
    words_of_two _ _ _ _ sum
