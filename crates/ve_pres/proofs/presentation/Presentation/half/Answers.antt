use Rattle.std.proofs.Common.{◌≡◌, ◌<◌, ◌≤◌, ◌∙◌, [], ◌∷◌, length, get_or, drop, ap, subst, arith, ℕ, Option, MatchOption, None}
use Rattle.ve_theory.specs.Words.{Word, letters}
use Rattle.ve_theory.specs.Elements.{IsAlgebraElementOf, inverse_of_letters}
use Rattle.ve_theory.specs.Validity.{most_length}
use Rattle.ve_pres.specs.Drafts.{Draft}
use Rattle.ve_pres.specs.Halves.{AreHalfWords, kept_of}
use Rattle.ve_pres.proofs.HalfSteps.{first_longer, half_of_other, is_half, left_summand, right_summand, without_half}
use Rattle.ve_pres.proofs.KeptElements.{residue_of_term}
use Rattle.ve_pres.proofs.presentation.Presentation.half.Goals as goal

pub returns-then-term_count-ne2 : goal.returns-then-term_count-ne2
returns-then-term_count-ne2 c = half_of_other c.args.self.now.presentation.inverses c.args.element.now (λ two. omega (arith, two, c.if-term_count-ne2.true, c.term_count.ensures.count))

pub half_words-requires-clause-lengths : goal.half_words-requires-clause-lengths
half_words-requires-clause-lengths c =
    let two : length c.args.element.now ≡ 2 = omega (arith, c.if-term_count-ne2.false, c.term_count.ensures.count) in
    let h : length (get_or c.args.element.now 1 ([], 0)).0 ≤ length (get_or c.args.element.now 0 ([], 0)).0 = first_longer c.args.self.now.presentation.prime c.args.element.now two c.requires.residues in
    omega (arith, h, ap length c.word_at.ensures.word, ap length c.word_at-2.ensures.word, ap length c.deref.ensures.value, ap length c.deref-2.ensures.value)

pub returns-in_default : goal.returns-in_default
returns-in_default c =
    let two : length c.args.element.now ≡ 2 = omega (arith, c.if-term_count-ne2.false, c.term_count.ensures.count) in
    let P : Option (Word × Word) → Type 0 = λ o. MatchOption o
    (inverse_of_letters c.args.self.now.presentation.inverses (drop (kept_of c.deref.result.now c.deref-2.result.now) c.deref.result.now) ≡ None)
    (λ words. AreHalfWords c.args.self.now.presentation c.deref.result.now c.deref-2.result.now words.0 words.1) in
    without_half _ c.args.element.now c.deref.result.now c.deref-2.result.now two (c.deref.ensures.value ∙ c.word_at.ensures.word) (c.deref-2.ensures.value ∙ c.word_at-2.ensures.word)
    (subst P c.in_default.is c.in_ok-left.ensures)

pub of_terms-requires-clause-first : goal.of_terms-requires-clause-first
of_terms-requires-clause-first c =
    let two : length c.args.element.now ≡ 2 = omega (arith, c.if-term_count-ne2.false, c.term_count.ensures.count) in
    let P : Option (Word × Word) → Type 0 = λ o. MatchOption o
    (inverse_of_letters c.args.self.now.presentation.inverses (drop (kept_of c.deref.result.now c.deref-2.result.now) c.deref.result.now) ≡ None)
    (λ words. AreHalfWords c.args.self.now.presentation c.deref.result.now c.deref-2.result.now words.0 words.1) in
    let words : AreHalfWords c.args.self.now.presentation c.deref.result.now c.deref-2.result.now c.in-Some.left c.in-Some.right = subst P c.in-Some.is c.in_ok-left.ensures in
    let first : c.deref.result.now ≡ (get_or c.args.element.now 0 ([], 0)).0 = c.deref.ensures.value ∙ c.word_at.ensures.word in
    let second : c.deref-2.result.now ≡ (get_or c.args.element.now 1 ([], 0)).0 = c.deref-2.ensures.value ∙ c.word_at-2.ensures.word in
    let ordered : length (get_or c.args.element.now 1 ([], 0)).0 ≤ length (get_or c.args.element.now 0 ([], 0)).0 = first_longer c.args.self.now.presentation.prime c.args.element.now two c.requires.residues in
    let shorter : length c.deref-2.result.now ≤ length c.deref.result.now = omega (arith, ordered, ap length first, ap length second) in
    let short : length c.deref.result.now ≤ most_length = omega (arith, c.word_at.ensures.within, ap length c.deref.ensures.value) in
    let field : c.self.inside.field ≡ c.args.self.now.presentation.prime = ap (λ (d : Draft). d.presentation.prime) c.self.view_is in
    let residue : (get_or c.args.element.now 0 ([], 0)).1 < c.args.self.now.presentation.prime = residue_of_term c.args.self.now.presentation.prime 0 c.args.element.now c.requires.residues (omega (arith, two)) in
    left_summand _ _ _ c.in-Some.left c.in-Some.right words _ _ (omega (arith, residue, field, c.coef_at.ensures)) short

pub of_terms-requires-clause-second : goal.of_terms-requires-clause-second
of_terms-requires-clause-second c =
    let two : length c.args.element.now ≡ 2 = omega (arith, c.if-term_count-ne2.false, c.term_count.ensures.count) in
    let P : Option (Word × Word) → Type 0 = λ o. MatchOption o
    (inverse_of_letters c.args.self.now.presentation.inverses (drop (kept_of c.deref.result.now c.deref-2.result.now) c.deref.result.now) ≡ None)
    (λ words. AreHalfWords c.args.self.now.presentation c.deref.result.now c.deref-2.result.now words.0 words.1) in
    let words : AreHalfWords c.args.self.now.presentation c.deref.result.now c.deref-2.result.now c.in-Some.left c.in-Some.right = subst P c.in-Some.is c.in_ok-left.ensures in
    let first : c.deref.result.now ≡ (get_or c.args.element.now 0 ([], 0)).0 = c.deref.ensures.value ∙ c.word_at.ensures.word in
    let second : c.deref-2.result.now ≡ (get_or c.args.element.now 1 ([], 0)).0 = c.deref-2.ensures.value ∙ c.word_at-2.ensures.word in
    let ordered : length (get_or c.args.element.now 1 ([], 0)).0 ≤ length (get_or c.args.element.now 0 ([], 0)).0 = first_longer c.args.self.now.presentation.prime c.args.element.now two c.requires.residues in
    let shorter : length c.deref-2.result.now ≤ length c.deref.result.now = omega (arith, ordered, ap length first, ap length second) in
    let short : length c.deref.result.now ≤ most_length = omega (arith, c.word_at.ensures.within, ap length c.deref.ensures.value) in
    let field : c.self.inside.field ≡ c.args.self.now.presentation.prime = ap (λ (d : Draft). d.presentation.prime) c.self.view_is in
    let residue : (get_or c.args.element.now 1 ([], 0)).1 < c.args.self.now.presentation.prime = residue_of_term c.args.self.now.presentation.prime 1 c.args.element.now c.requires.residues (omega (arith, two)) in
    right_summand _ _ _ c.in-Some.left c.in-Some.right words _ _ (omega (arith, residue, field, c.coef_at-2.ensures)) shorter short

pub returns : goal.returns
returns c =
    let two : length c.args.element.now ≡ 2 = omega (arith, c.if-term_count-ne2.false, c.term_count.ensures.count) in
    let P : Option (Word × Word) → Type 0 = λ o. MatchOption o
    (inverse_of_letters c.args.self.now.presentation.inverses (drop (kept_of c.deref.result.now c.deref-2.result.now) c.deref.result.now) ≡ None)
    (λ words. AreHalfWords c.args.self.now.presentation c.deref.result.now c.deref-2.result.now words.0 words.1) in
    let words : AreHalfWords c.args.self.now.presentation c.deref.result.now c.deref-2.result.now c.in-Some.left c.in-Some.right = subst P c.in-Some.is c.in_ok-left.ensures in
    let first : c.deref.result.now ≡ (get_or c.args.element.now 0 ([], 0)).0 = c.deref.ensures.value ∙ c.word_at.ensures.word in
    let second : c.deref-2.result.now ≡ (get_or c.args.element.now 1 ([], 0)).0 = c.deref-2.ensures.value ∙ c.word_at-2.ensures.word in
    let ordered : length (get_or c.args.element.now 1 ([], 0)).0 ≤ length (get_or c.args.element.now 0 ([], 0)).0 = first_longer c.args.self.now.presentation.prime c.args.element.now two c.requires.residues in
    let shorter : length c.deref-2.result.now ≤ length c.deref.result.now = omega (arith, ordered, ap length first, ap length second) in
    let short : length c.deref.result.now ≤ most_length = omega (arith, c.word_at.ensures.within, ap length c.deref.ensures.value) in
    let field : c.self.inside.field ≡ c.args.self.now.presentation.prime = ap (λ (d : Draft). d.presentation.prime) c.self.view_is in
    let Q : ℕ → Type 0 = λ p. IsAlgebraElementOf p c.in_ok-half.half ((letters c.in-Some.left, c.coef_at.result) ∷ (letters c.in-Some.right, c.coef_at-2.result) ∷ []) in
    is_half _ _ _ c.in-Some.left c.in-Some.right words c.args.element.now c.in_ok-half.half c.coef_at.result c.coef_at-2.result two first second c.coef_at.ensures c.coef_at-2.ensures shorter c.requires.letters
    (subst Q field c.in_ok-half.ensures.sum) c.in_ok-half.ensures.count c.in_ok-half.ensures.words
