use Rattle.std.proofs.Common.{◌≡◌, ◌∙◌, ◌≤◌, Some, slice_get, ap, arith, sym}
use Rattle.ve_theory.specs.Words.{word_length}
use Rattle.ve_theory.specs.Elements.{element_length}
use Rattle.ve_theory.specs.Validity.{most_length}
use Rattle.ve_pres.proofs.KeptElements.{length_of_first, length_of_none}
use Rattle.ve_pres.proofs.free_mod.FreeMod.length.Goals as goal

first :
    (c : goal.After-len) →
    (word_length c.in-Some.first.now.word ≡ element_length c.args.self.now) × (word_length c.in-Some.first.now.word ≤ most_length)
first c =
    let shown : slice_get c.self.inside.terms.items 0 ≡ Some c.in-Some.first.now = ap (λ u. slice_get u 0) (sym c.deref.ensures.value) ∙ sym c.in-Some.ensures.value in
    length_of_first _ _ _ c.self.invariant c.self.view_is shown

pub overflow_cast-result : goal.overflow_cast-result
overflow_cast-result c = let h = (first c).1 in omega (arith, c.len.ensures.count, h)

pub returns-in-Some-clause-length : goal.returns-in-Some-clause-length
returns-in-Some-clause-length c = c.len.ensures.count ∙ (first c).0

pub returns-in-Some-clause-within : goal.returns-in-Some-clause-within
returns-in-Some-clause-within c = let h = (first c).1 in omega (arith, c.len.ensures.count, h)

pub returns-in-None-clause-length : goal.returns-in-None-clause-length
returns-in-None-clause-length c =
    length_of_none _ _ c.self.view_is (ap (λ u. slice_get u 0) (sym c.deref.ensures.value) ∙ sym c.in-None.ensures.value)
