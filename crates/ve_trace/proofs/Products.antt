-- Elements of the module times letters, and their reach.
use Rattle.std.proofs.Common.{◌≡◌, ℕ, ◌+◌, ◌*◌, ◌%◌, ◌≤◌, List, [], ◌∷◌, ◌++◌, All, refl, sym, ap, ◌∙◌, arith}
use Rattle.ve_theory.specs.Combinations.{unit, scaled}
use Rattle.ve_theory.specs.Words.{Word, times, times_all, letters_weight}
use Rattle.ve_theory.specs.Elements.{Element, word_times, element_times, times_letter}
use Rattle.ve_theory.specs.Presentations.{Presentation, reach}
use Rattle.ve_theory.specs.Laws.{ReachAddsUp}
use Rattle.ve_theory.proofs.Products.{weigh-times_letter}
use Rattle.ve_theory.proofs.Sums.{weigh, weigh-append, weigh-scaled, SameWeights}

-- an element times letters, as the sum of its words times them

weigh-times_unit : (h : Word → ℕ) (e : Element) (u : List ℕ) → weigh h (element_times e (unit u)) ≡ weigh (λ w. h (times_all w u)) e
unfolding weigh element_times word_times scaled
weigh-times_unit h [] u = refl
weigh-times_unit h (t ∷ e) u = omega (arith, weigh-times_unit h e u)

pub times_unit-alike : (p : ℕ) (e f : Element) (u : List ℕ) → SameWeights p e f → SameWeights p (element_times e (unit u)) (element_times f (unit u))
times_unit-alike p e f u same = record {
  at = λ h. ap (λ n. n % p) (weigh-times_unit h e u) ∙ (same.at (λ w. h (times_all w u)) ∙ ap (λ n. n % p) (sym (weigh-times_unit h f u)));
}

-- no letters; a letter more at the front
pub times_no_letters : (p : ℕ) (e : Element) → SameWeights p (element_times e (unit [])) e
unfolding times_all
times_no_letters p e = record { at = λ h. ap (λ n. n % p) (weigh-times_unit h e []) }

pub times_first_letter : (p : ℕ) (e : Element) (x : ℕ) (u : List ℕ) → SameWeights p (element_times e (unit (x ∷ u))) (element_times (times_letter e x) (unit u))
unfolding times_all
times_first_letter p e x u = record {
  at = λ h. ap (λ n. n % p) (weigh-times_unit h e (x ∷ u) ∙ sym (weigh-times_unit h (times_letter e x) u ∙ weigh-times_letter (λ w. h (times_all w u)) e x));
}

pub times_sum : (p : ℕ) (e f : Element) (u : List ℕ) → SameWeights p (element_times (e ++ f) (unit u)) (element_times e (unit u) ++ element_times f (unit u))
times_sum p e f u = record {
  at = λ h. ap (λ n. n % p)
      (weigh-times_unit h (e ++ f) u
      ∙ (weigh-append (λ w. h (times_all w u)) e f ∙ sym (weigh-append h (element_times e (unit u)) (element_times f (unit u)) ∙ sums (weigh-times_unit h e u) (weigh-times_unit h f u))));
}
  where
    sums : {a b c d : ℕ} → a ≡ b → c ≡ d → a + c ≡ b + d
    sums e f = omega arith

pub times_scaled : (p c : ℕ) (e : Element) (u : List ℕ) → SameWeights p (element_times (scaled c e) (unit u)) (scaled c (element_times e (unit u)))
times_scaled p c e u = record {
  at = λ h. ap (λ n. n % p)
      (weigh-times_unit h (scaled c e) u
      ∙ (weigh-scaled (λ w. h (times_all w u)) c e ∙ sym (weigh-scaled h c (element_times e (unit u)) ∙ ap (λ n. c * n) (weigh-times_unit h e u))));
}

-- words times letters reach further by the letters' weight
pub reach-times_all : ReachAddsUp → (P : Presentation) (w : Word) (u : List ℕ) → reach P (times_all w u) ≡ reach P w + letters_weight P.weights u
unfolding times_all letters_weight
reach-times_all adds P w [] = omega arith
reach-times_all adds P w (x ∷ u) = omega (arith, reach-times_all adds P (times w x) u, (adds P).1 w x)

-- an element whose words, times the letters, reach at most k
abbrev pub StaysFor : Presentation → ℕ → List ℕ → Element → Type 0
StaysFor P k u e = All (λ t. reach P t.0 + letters_weight P.weights u ≤ k) e
