-- Only finitely many words are before a word; with equal weights the order is shortlex.
use Rattle.std.proofs.Common.{◌≡◌, ℕ, zero, suc, ◌<◌, ◌≤◌, ◌⊎◌, ◌↔◌, inl, inr, List, [], ◌∷◌, ◌++◌, length, map, flat_map, get_or, All, Contains, refl, arith, length-append}
use Rattle.std.proofs.lemmas.Bool.{cases_lt}
use Rattle.std.proofs.lemmas.List.{get_or_past}
use Rattle.std.proofs.lemmas.List.Elements.{Contains-append_left, Contains-append_right}
use Rattle.ve_theory.specs.Words.{Word, generator, times, letters, word_length, word_weight, letter_weight, Shortlex, Weighted}
use Rattle.ve_theory.specs.Presentations.{Presentation, IsPresentation, IsWord, letter_count, step, reach, before}
use Rattle.ve_theory.proofs.Orders.{step_positive, before_reach}
use Rattle.ve_theory.proofs.Members.{Contains-map, Contains-flat_map, below, Contains-below, IsWord-prefix, IsWord-last, IsWord-start}

-- the words of at most n letters
children : Presentation → Word → List Word
children P w = map (times w) (below (letter_count P))

words_up_to : Presentation → ℕ → List Word
words_up_to P zero = map generator (below P.generators)
words_up_to P (suc n) = words_up_to P n ++ flat_map (children P) (words_up_to P n)

Contains-words_up_to : (P : Presentation) → IsPresentation P → (n : ℕ) (w : Word) → IsWord P w → reach P w ≤ n → Contains (words_up_to P n) w
unfolding words_up_to children word_weight
Contains-words_up_to P V zero (generator i) h k = Contains-map generator (below P.generators) i (Contains-below P.generators i (IsWord-start P i h))
Contains-words_up_to P V zero (times w x) h k = let s : 0 < step P x = step_positive P V x in absurd (omega arith)
Contains-words_up_to P V (suc n) (generator i) h k =
    Contains-append_left (words_up_to P n) (flat_map (children P) (words_up_to P n)) (generator i) (Contains-words_up_to P V n (generator i) h (omega arith))
Contains-words_up_to P V (suc n) (times w x) h k =
    let s : 0 < step P x = step_positive P V x in
    let there : Contains (words_up_to P n) w = Contains-words_up_to P V n w (IsWord-prefix P w x h) (omega arith) in
    let here : Contains (children P w) (times w x) = Contains-map (times w) (below (letter_count P)) x (Contains-below (letter_count P) x (IsWord-last P w x h)) in
    Contains-append_right (words_up_to P n) (flat_map (children P) (words_up_to P n)) (times w x) (Contains-flat_map (children P) (words_up_to P n) w (times w x) there here)

pub finitely_many_before : (P : Presentation) (w : Word) → IsPresentation P → (ws : List Word) × ((v : Word) → IsWord P v → before P v w → Contains ws v)
finitely_many_before P w V = (words_up_to P (reach P w), λ v h k. Contains-words_up_to P V (reach P w) v h (before_reach P v w k))

equal_letter : (weights : List ℕ) → All (λ s. s ≡ 1) weights → (x : ℕ) → letter_weight weights x ≡ 1
equal_letter weights h x = cases (cases_lt x (length weights))
  where
    cases : (x < length weights) ⊎ (length weights ≤ x) → get_or weights x 1 ≡ 1
    cases (inl k) = h x 1 k
    cases (inr k) = get_or_past weights x 1 k

equal_weight : (weights : List ℕ) → All (λ s. s ≡ 1) weights → (w : Word) → word_weight weights w ≡ word_length w
unfolding word_weight letters
equal_weight weights h (generator i) = refl
equal_weight weights h (times w x) =
    let e : letter_weight weights x ≡ 1 = equal_letter weights h x in
    let k : word_weight weights w ≡ length (letters w) = equal_weight weights h w in
    omega (arith, length-append (letters w) (x ∷ []))

pub equal_weights_are_shortlex : (weights : List ℕ) (v w : Word) → All (λ s. s ≡ 1) weights → (Weighted weights v w ↔ Shortlex v w)
unfolding Weighted Shortlex
equal_weights_are_shortlex weights v w h = (there, back)
  where
    a : word_weight weights v ≡ word_length v
    a = equal_weight weights h v

    b : word_weight weights w ≡ word_length w
    b = equal_weight weights h w

    there : Weighted weights v w → Shortlex v w
    there (inl k) = inl (omega (arith, a, b))
    there (inr k) = inr (omega (arith, a, b, k.0), k.1)

    back : Shortlex v w → Weighted weights v w
    back (inl k) = inl (omega (arith, a, b))
    back (inr k) = inr (omega (arith, a, b, k.0), k.1)
