-- Weights of words as sums over their letters.
use Rattle.std.proofs.Common.{◌≡◌, ◌<◌, ◌⊎◌, ℕ, List, [], ◌∷◌, ◌++◌, All, length, inl, inr, refl, ◌∙◌, ◌+◌, ap, sum_by, arith}
use Rattle.std.proofs.lemmas.Bool.{cases_lt}
use Rattle.std.proofs.lemmas.List.{get_or_past}
use Rattle.std.proofs.lemmas.List.Sums.{sum_by-append, sum_by-cons}
use Rattle.ve_theory.specs.Words.{Word, generator, times, letters, letter_weight, word_weight}

pub word_weight-sum : (weights : List ℕ) (w : Word) → word_weight weights w ≡ sum_by (letter_weight weights) (letters w)
unfolding word_weight letters
word_weight-sum weights (generator i) = refl
word_weight-sum weights (times w x) =
    omega (arith, word_weight-sum weights w, sum_by-append (letter_weight weights) (letters w) (x ∷ []))

positive-letter : (weights : List ℕ) (x : ℕ) → All (λ weight. 0 < weight) weights → 0 < letter_weight weights x
positive-letter weights x positive =
    elim (cases_lt x (length weights)) [
      | inl within ↦ positive x 1 within
      | inr past ↦ rw (get_or_past weights x 1 past) (omega arith)
    ]

-- where all weights are positive, a word weighs more than its proper beginnings
longer-heavier :
    (weights : List ℕ) → All (λ weight. 0 < weight) weights →
    (v w : Word) (x : ℕ) (t : List ℕ) → letters v ≡ letters w ++ x ∷ t → word_weight weights w < word_weight weights v
longer-heavier weights positive v w x t longer =
    let f = letter_weight weights in
    let total : sum_by f (letters v) ≡ sum_by f (letters w) + sum_by f (x ∷ t) =
    ap (sum_by f) longer ∙ sum_by-append f (letters w) (x ∷ t) in
    let first : sum_by f (x ∷ t) ≡ f x + sum_by f t = sum_by-cons f x t in
    let here : 0 < f x = positive-letter weights x positive in
    omega (arith, word_weight-sum weights v, word_weight-sum weights w)

pub same_weight-ends :
    (weights : List ℕ) → All (λ weight. 0 < weight) weights →
    (v w : Word) → word_weight weights v ≡ word_weight weights w →
    (t : List ℕ) → (letters v ≡ letters w ++ t) ⊎ (letters w ≡ letters v ++ t) → t ≡ []
same_weight-ends weights positive v w same [] e = refl
same_weight-ends weights positive v w same (x ∷ t) e =
    absurd (elim e [
      | inl a ↦ omega (arith, longer-heavier weights positive v w x t a)
      | inr a ↦ omega (arith, longer-heavier weights positive w v x t a)
    ])
