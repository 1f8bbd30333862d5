-- Words and elements of the module times elements of the algebra.
use Rattle.std.proofs.Common.{◌≡◌, ℕ, ◌+◌, ◌*◌, [], ◌∷◌, ◌++◌, length, refl, ◌∙◌, length-append, arith}
use Rattle.ve_theory.specs.Combinations.{Combination, scaled}
use Rattle.ve_theory.specs.Words.{Word}
use Rattle.ve_theory.specs.Elements.{AlgebraElement, Element, word_times, element_times}
pub use Rattle.ve_theory.proofs.AnswerKernels.{All-word_times}

-- how many terms there are

pub length-scaled : {K : Type 0} (c : ℕ) (v : Combination K) → length (scaled c v) ≡ length v
unfolding scaled
length-scaled c [] = refl
length-scaled c (t ∷ v) = omega (arith, length-scaled c v)

pub length-word_times : (w : Word) (r : AlgebraElement) → length (word_times w r) ≡ length r
unfolding word_times
length-word_times w [] = refl
length-word_times w (t ∷ r) = omega (arith, length-word_times w r)

pub length-element_times : (u : Element) (r : AlgebraElement) → length (element_times u r) ≡ length u * length r
unfolding element_times
length-element_times [] r = omega arith
length-element_times (s ∷ u) r =
    let all : length (scaled s.1 (word_times s.0 r) ++ element_times u r) ≡ length (scaled s.1 (word_times s.0 r)) + length (element_times u r) = length-append (scaled s.1 (word_times s.0 r)) (element_times u r) in
    let here : length (scaled s.1 (word_times s.0 r)) ≡ length r = length-scaled s.1 (word_times s.0 r) ∙ length-word_times s.0 r in
    omega (arith, all, here, length-element_times u r)
