-- What is derived within a level, in sums and times letters.
use Rattle.std.proofs.Common.{ℕ, ◌+◌, ◌<◌, ◌≤◌, List, [], ◌∷◌, All, arith}
use Rattle.std.proofs.lemmas.List.Elements.{All-head, All-tail, All-weaker}
use Rattle.ve_theory.specs.Combinations.{unit}
use Rattle.ve_theory.specs.Words.{Word, times, letters_weight}
use Rattle.ve_theory.specs.Elements.{Element, element_times, times_letter}
use Rattle.ve_theory.specs.Presentations.{Presentation, HasLetters, letter_count, reach}
use Rattle.ve_theory.specs.Derivations.{DerivedWithin}
use Rattle.ve_theory.specs.Laws.{ReachAddsUp}
use Rattle.ve_theory.proofs.Sums.{SameWeights-sym}
use Rattle.ve_theory.proofs.Members.{All-times_letter}
use Rattle.ve_theory.proofs.DerivationTrees.{Within-words}
use Rattle.ve_theory.proofs.DerivedElements.{DerivedWithin-alike, DerivedWithin-times}
use Rattle.ve_trace.proofs.Products.{StaysFor, times_no_letters, times_first_letter}

pub stays_for_next : ReachAddsUp → (P : Presentation) (k x : ℕ) (u : List ℕ) (e : Element) → StaysFor P k (x ∷ u) e → StaysFor P k u (times_letter e x)
unfolding letters_weight
stays_for_next adds P k x u e stays =
    All-times_letter (λ w. reach P w + letters_weight P.weights u ≤ k) e x
    (All-weaker (λ (t : Word × ℕ). reach P t.0 + letters_weight P.weights (x ∷ u) ≤ k) (λ (t : Word × ℕ). reach P (times t.0 x) + letters_weight P.weights u ≤ k)
    (λ t h. omega (arith, (adds P).1 t.0 x)) e stays)

pub derived-times : ReachAddsUp → (P : Presentation) (k : ℕ) (u : List ℕ) (e : Element) → HasLetters P u → StaysFor P k u e → DerivedWithin P k e → DerivedWithin P k (element_times e (unit u))
derived-times adds P k [] e has stays h = DerivedWithin-alike P k (SameWeights-sym (times_no_letters P.prime e)) h
derived-times adds P k (x ∷ u) e has stays h =
    let next : StaysFor P k u (times_letter e x) = stays_for_next adds P k x u e stays in
    let within : All (λ t. reach P t.0 ≤ k) (times_letter e x) =
    All-weaker (λ (t : Word × ℕ). reach P t.0 + letters_weight P.weights u ≤ k) (λ (t : Word × ℕ). reach P t.0 ≤ k) (λ t m. omega arith) (times_letter e x) next in
    DerivedWithin-alike P k (SameWeights-sym (times_first_letter P.prime e x u))
    (derived-times adds P k u (times_letter e x) (All-tail (λ y. y < letter_count P) x u has) next
    (DerivedWithin-times P k x (All-head (λ y. y < letter_count P) x u has) (Within-words P k (times_letter e x) within) h))
