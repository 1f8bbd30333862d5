-- Members of lists, and the words of a presentation.
use Rattle.std.proofs.Common.{◌≡◌, ℕ, zero, suc, ◌*◌, ◌<◌, ◌≤◌, ◌⊎◌, inl, inr, List, [], ◌∷◌, ◌++◌, length, map, flat_map, All, Contains, refl, sym, subst, arith, length-append}
use Rattle.std.proofs.lemmas.Bool.{cases_lt}
use Rattle.std.proofs.lemmas.List.{get_or_append_left, get_or_push}
use Rattle.std.proofs.lemmas.List.Elements.{All-nil, All-cons, All-head, All-tail, Contains-append_left, Contains-append_right, All-push}
use Rattle.ve_theory.specs.Combinations.{Combination, scaled}
use Rattle.ve_theory.specs.Elements.{Element, times_letter}
use Rattle.ve_theory.specs.Words.{Word, generator, times, start, letters}
use Rattle.ve_theory.specs.Presentations.{Presentation, IsWord, letter_count}

pub Contains-here : {X : Type 0} (x : X) (xs : List X) → Contains (x ∷ xs) x
Contains-here x xs = (0, omega arith, refl)

pub Contains-later : {X : Type 0} (y x : X) (xs : List X) → Contains xs x → Contains (y ∷ xs) x
Contains-later y x xs h = (suc h.0, omega (arith, h.1), h.2)

pub Contains-nil : {X : Type 0} (x : X) → Contains [] x → ⊥
Contains-nil x h = omega (arith, h.1)

pub Contains-cons : {X : Type 0} (y x : X) (xs : List X) → Contains (y ∷ xs) x → (y ≡ x) ⊎ Contains xs x
Contains-cons y x xs (zero, h, e) = inl e
Contains-cons y x xs (suc k, h, e) = inr (k, omega arith, e)

pub Contains-map : {X Y : Type 0} (f : X → Y) (xs : List X) (x : X) → Contains xs x → Contains (map f xs) (f x)
Contains-map f [] x h = absurd (Contains-nil x h)
Contains-map f (y ∷ xs) x h = cases (Contains-map f xs x) (Contains-cons y x xs h)
  where
    cases : (Contains xs x → Contains (map f xs) (f x)) → (y ≡ x) ⊎ Contains xs x → Contains (f y ∷ map f xs) (f x)
    cases later (inl e) = subst (λ z. Contains (f z ∷ map f xs) (f x)) (sym e) (Contains-here (f x) (map f xs))
    cases later (inr k) = Contains-later (f y) (f x) (map f xs) (later k)

pub Contains-flat_map : {X Y : Type 0} (f : X → List Y) (xs : List X) (x : X) (y : Y) → Contains xs x → Contains (f x) y → Contains (flat_map f xs) y
Contains-flat_map f [] x y h k = absurd (Contains-nil x h)
Contains-flat_map f (z ∷ xs) x y h k = cases (Contains-flat_map f xs x y) (Contains-cons z x xs h)
  where
    cases : (Contains xs x → Contains (f x) y → Contains (flat_map f xs) y) → (z ≡ x) ⊎ Contains xs x → Contains (f z ++ flat_map f xs) y
    cases later (inl e) = subst (λ t. Contains (f t ++ flat_map f xs) y) (sym e) (Contains-append_left (f x) (flat_map f xs) y k)
    cases later (inr m) = Contains-append_right (f z) (flat_map f xs) y (later m k)

-- the numbers below n
pub below : ℕ → List ℕ
below zero = []
below (suc n) = below n ++ n ∷ []

pub Contains-below : (n i : ℕ) → i < n → Contains (below n) i
unfolding below
Contains-below zero i h = absurd (omega arith)
Contains-below (suc n) i h = cases (Contains-below n i) (cases_lt i n)
  where
    cases : (i < n → Contains (below n) i) → (i < n) ⊎ (n ≤ i) → Contains (below n ++ n ∷ []) i
    cases later (inl k) = Contains-append_left (below n) (n ∷ []) i (later k)
    cases later (inr k) = let e : n ≡ i = omega arith in subst (λ j. Contains (below n ++ n ∷ []) j) e (Contains-append_right (below n) (n ∷ []) n (Contains-here n []))

pub All-front : {X : Type 0} (Q : X → Type 0) (xs : List X) (x : X) → All Q (xs ++ x ∷ []) → All Q xs
All-front Q xs x h k d l = subst Q (get_or_append_left xs (x ∷ []) d k l) (h k d (omega (arith, length-append xs (x ∷ []))))

pub All-last : {X : Type 0} (Q : X → Type 0) (xs : List X) (x : X) → All Q (xs ++ x ∷ []) → Q x
All-last Q xs x h = subst Q (get_or_push xs x x (length xs) refl) (h (length xs) x (omega (arith, length-append xs (x ∷ []))))

-- the keys of sums

pub All-scaled : {K : Type 0} (Q : K → Type 0) (c : ℕ) (v : Combination K) → All (λ t. Q t.0) v → All (λ t. Q t.0) (scaled c v)
unfolding scaled
All-scaled {K} Q c [] h = All-nil (λ (t : K × ℕ). Q t.0)
All-scaled {K} Q c (t ∷ v) h =
    All-cons (λ (s : K × ℕ). Q s.0) (t.0, c * t.1) (scaled c v) (All-head (λ (s : K × ℕ). Q s.0) t v h) (All-scaled Q c v (All-tail (λ (s : K × ℕ). Q s.0) t v h))

pub All-times_letter : (Q : Word → Type 0) (v : Element) (x : ℕ) → All (λ t. Q (times t.0 x)) v → All (λ t. Q t.0) (times_letter v x)
unfolding times_letter
All-times_letter Q [] x h = All-nil (λ (t : Word × ℕ). Q t.0)
All-times_letter Q (t ∷ v) x h =
    All-cons (λ (s : Word × ℕ). Q s.0) (times t.0 x, t.1) (times_letter v x) (All-head (λ (s : Word × ℕ). Q (times s.0 x)) t v h)
    (All-times_letter Q v x (All-tail (λ (s : Word × ℕ). Q (times s.0 x)) t v h))

-- a word and the word before its last letter

pub IsWord-prefix : (P : Presentation) (w : Word) (x : ℕ) → IsWord P (times w x) → IsWord P w
unfolding start letters
IsWord-prefix P w x h = (h.0, All-front (λ y. y < letter_count P) (letters w) x h.1)

pub IsWord-last : (P : Presentation) (w : Word) (x : ℕ) → IsWord P (times w x) → x < letter_count P
unfolding letters
IsWord-last P w x h = All-last (λ y. y < letter_count P) (letters w) x h.1

pub IsWord-times : (P : Presentation) (w : Word) (x : ℕ) → IsWord P w → x < letter_count P → IsWord P (times w x)
unfolding start letters
IsWord-times P w x h k = (h.0, All-push (λ y. y < letter_count P) (letters w) x h.1 k)

pub IsWord-start : (P : Presentation) (i : ℕ) → IsWord P (generator i) → i < P.generators
unfolding start
IsWord-start P i h = h.0
