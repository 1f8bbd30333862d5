-- Reaches in a valid presentation are small, since words have few letters and letters little weight.
use Rattle.std.proofs.Common.{ℕ, zero, suc, ◌+◌, ◌-◌, ◌*◌, ◌<◌, ◌≤◌, List, [], ◌∷◌, length, get_or, All, Option, Some, None, arith}
use Rattle.std.proofs.Math.Nat.{mul-le-mul_left}
use Rattle.std.proofs.lemmas.List.Elements.{All-head, All-tail, All-append, All-cons, All-nil, All-weaker}
use Rattle.ve_theory.specs.Combinations.{Combination}
use Rattle.ve_theory.specs.Words.{Word, letters, letter_weight, letters_weight, word_weight, word_length}
use Rattle.ve_theory.specs.Elements.{AlgebraElement, greatest, algebra_length}
use Rattle.ve_theory.specs.Presentations.{Presentation, most_weight, greatest_of, greatest_step, relator_reach, element_reach, relators, inverse_relators}
use Rattle.ve_theory.specs.Validity.{most_length, IsValid}
use Rattle.ve_theory.specs.Laws.{ValidReachesAreSmall}
use Rattle.ve_theory.proofs.Orders.{word_weight-letters}

-- greatest numbers

greatest_of-bounded : {X : Type 0} (size : X → ℕ) (n : ℕ) (xs : List X) → All (λ x. size x ≤ n) xs → greatest_of size xs ≤ n
unfolding greatest_of
greatest_of-bounded size n [] all = omega arith
greatest_of-bounded size n (x ∷ xs) all =
    let first : size x ≤ n = All-head (λ x. size x ≤ n) x xs all in
    omega (arith, first, greatest_of-bounded size n xs (All-tail (λ x. size x ≤ n) x xs all))

greatest-bounded : {K : Type 0} (size other : K → ℕ) (n m : ℕ) → ((k : K) → size k ≤ n * other k) → (v : Combination K) → greatest other v ≤ m → greatest size v ≤ n * m
unfolding greatest
greatest-bounded size other n m each [] within = omega arith
greatest-bounded size other n m each (t ∷ v) within =
    let first : n * other t.0 ≤ n * m = mul-le-mul_left n (omega arith) in
    omega (arith, first, each t.0, greatest-bounded size other n m each v (omega arith))

-- weights

letter_light : (weights : List ℕ) (x : ℕ) → All (λ w. w ≤ most_weight) weights → letter_weight weights x ≤ most_weight
letter_light [] x all = omega arith
letter_light (w ∷ weights) zero all = All-head (λ w. w ≤ most_weight) w weights all
letter_light (w ∷ weights) (suc x) all = letter_light weights x (All-tail (λ w. w ≤ most_weight) w weights all)

letters_light : (weights : List ℕ) → All (λ w. w ≤ most_weight) weights → (u : List ℕ) → letters_weight weights u ≤ most_weight * length u
unfolding letters_weight
letters_light weights light [] = omega arith
letters_light weights light (x ∷ u) = omega (arith, letter_light weights x light, letters_light weights light u)

module _ (P : Presentation) (V : IsValid P) where
  light : All (λ w. w ≤ most_weight) P.weights
  light = All-weaker (λ w. (0 < w) × (w ≤ most_weight)) (λ w. w ≤ most_weight) (λ w h. h.1) P.weights V.presentation.weights

  word_light : (w : Word) → word_weight P.weights w ≤ most_weight * word_length w
  word_light w = omega (arith, word_weight-letters P.weights w, letters_light P.weights light (letters w))

  short_relator : (r : AlgebraElement) → algebra_length r ≤ most_length → relator_reach P r ≤ most_weight * most_length
  short_relator r short = greatest-bounded (letters_weight P.weights) length most_weight most_length (letters_light P.weights light) r short

  inverse_short : (first : ℕ) (inverses : List (Option ℕ)) → All (λ r. relator_reach P r ≤ most_weight * most_length) (inverse_relators P.prime first inverses)
  unfolding inverse_relators greatest
  inverse_short first [] = All-nil (λ (r : AlgebraElement). relator_reach P r ≤ most_weight * most_length)
  inverse_short first (None ∷ rest) = inverse_short (first + 1) rest
  inverse_short first (Some y ∷ rest) =
      All-cons (λ (r : AlgebraElement). relator_reach P r ≤ most_weight * most_length) ((first ∷ y ∷ [], 1) ∷ ([], P.prime - 1) ∷ []) (inverse_relators P.prime (first + 1) rest)
      (short_relator ((first ∷ y ∷ [], 1) ∷ ([], P.prime - 1) ∷ []) (omega arith)) (inverse_short (first + 1) rest)

  relators_short : All (λ r. relator_reach P r ≤ most_weight * most_length) (relators P)
  relators_short =
      All-append (λ (r : AlgebraElement). relator_reach P r ≤ most_weight * most_length) (inverse_relators P.prime 0 P.inverses) P.relations (inverse_short 0 P.inverses)
      (λ k d l. short_relator (get_or P.relations k d) (V.relations k d l).1)

  steps_light : greatest_step P ≤ most_weight
  steps_light = omega (arith, greatest_of-bounded (λ w. w) most_weight P.weights light)

pub valid_reaches_are_small : ValidReachesAreSmall
valid_reaches_are_small P V = record {
  steps = steps_light P V;
  relators = omega (arith, steps_light P V, greatest_of-bounded (relator_reach P) (most_weight * most_length) (relators P) (relators_short P V));
  submodule =
      greatest_of-bounded (element_reach P) (most_weight * most_length) P.submodule
      (λ k d l. greatest-bounded (word_weight P.weights) word_length most_weight most_length (word_light P V) (get_or P.submodule k d) (V.submodule k d l).1);
}
