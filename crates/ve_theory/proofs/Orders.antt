-- The reach of words, and their order.
use Rattle.std.proofs.Common.{◌≡◌, ℕ, zero, suc, ◌+◌, ◌<◌, ◌≤◌, max, ◌⊎◌, inl, inr, List, [], ◌∷◌, ◌++◌, length, get_or, refl, sym, ap, ◌∙◌, arith}
use Rattle.std.proofs.lemmas.Bool.{cases_order, cases_lt}
use Rattle.std.proofs.lemmas.List.{get_or_past}
use Rattle.ve_theory.specs.Words.{Word, generator, times, start, letters, times_all, DiffersBelow, letter_weight, letters_weight, word_weight, Weighted, spelled_back}
use Rattle.ve_theory.specs.Elements.{greatest}
use Rattle.ve_theory.specs.Presentations.{Presentation, IsPresentation, relators, relator, relator_reach, submodule_relation, element_reach, step, reach, before, greatest_of, greatest_step, relator_bound, submodule_bound}
use Rattle.ve_theory.specs.Laws.{HasBounds, IsTotalOrder}

-- reach

pub reach-generator : (P : Presentation) (i : ℕ) → reach P (generator i) ≡ 0
unfolding word_weight
reach-generator P i = refl

pub reach-times : (P : Presentation) (w : Word) (x : ℕ) → reach P (times w x) ≡ reach P w + step P x
unfolding word_weight
reach-times P w x = refl

-- bounds

pub step_positive : (P : Presentation) → IsPresentation P → (x : ℕ) → 0 < step P x
step_positive P V x = cases (cases_lt x (length P.weights))
  where
    cases : (x < length P.weights) ⊎ (length P.weights ≤ x) → 0 < step P x
    cases (inl h) = (V.weights x 1 h).0
    cases (inr h) = let e : get_or P.weights x 1 ≡ 1 = get_or_past P.weights x 1 h in omega arith

greatest_of-get_or : {X : Type 0} (size : X → ℕ) (xs : List X) (i : ℕ) (d : X) → size (get_or xs i d) ≤ max (size d) (greatest_of size xs)
unfolding greatest_of
greatest_of-get_or size [] i d = omega arith
greatest_of-get_or size (x ∷ xs) zero d = omega arith
greatest_of-get_or size (x ∷ xs) (suc i) d = let h : size (get_or xs i d) ≤ max (size d) (greatest_of size xs) = greatest_of-get_or size xs i d in omega arith

pub step_bounded : (P : Presentation) (x : ℕ) → step P x ≤ greatest_step P
step_bounded P x = greatest_of-get_or (λ w. w) P.weights x 1

pub relator_bounded : (P : Presentation) (number : ℕ) → relator_reach P (relator P number) ≤ relator_bound P
unfolding greatest
relator_bounded P number =
    let h : relator_reach P (relator P number) ≤ max 0 (greatest_of (relator_reach P) (relators P)) = greatest_of-get_or (relator_reach P) (relators P) number [] in
    omega arith

pub submodule_bounded : (P : Presentation) (number : ℕ) → element_reach P (submodule_relation P number) ≤ submodule_bound P
unfolding greatest
submodule_bounded P number =
    let h : element_reach P (submodule_relation P number) ≤ max 0 (greatest_of (element_reach P) P.submodule) = greatest_of-get_or (element_reach P) P.submodule number [] in
    omega arith

pub has_bounds : (P : Presentation) → IsPresentation P → HasBounds P
has_bounds P V = record {
  positive = step_positive P V;
  steps = step_bounded P;
  greatest = omega arith;
  relators = relator_bounded P;
  submodule = submodule_bounded P;
}

-- the order of letters, at the first place where they differ

pub differs_irreflexive : (u : List ℕ) → DiffersBelow u u → ⊥
unfolding DiffersBelow
differs_irreflexive [] h = h
differs_irreflexive (x ∷ u) (inl h) = omega arith
differs_irreflexive (x ∷ u) (inr h) = differs_irreflexive u h.1

pub differs_transitive : (u v w : List ℕ) → DiffersBelow u v → DiffersBelow v w → DiffersBelow u w
unfolding DiffersBelow
differs_transitive [] v w h k = absurd h
differs_transitive (x ∷ u) [] w h k = absurd h
differs_transitive (x ∷ u) (y ∷ v) [] h k = absurd k
differs_transitive (x ∷ u) (y ∷ v) (z ∷ w) (inl h) (inl k) = inl (omega arith)
differs_transitive (x ∷ u) (y ∷ v) (z ∷ w) (inl h) (inr k) = inl (omega arith)
differs_transitive (x ∷ u) (y ∷ v) (z ∷ w) (inr h) (inl k) = inl (omega arith)
differs_transitive (x ∷ u) (y ∷ v) (z ∷ w) (inr h) (inr k) = inr (h.0 ∙ k.0, differs_transitive u v w h.1 k.1)

pub differs_append : (u v s t : List ℕ) → DiffersBelow u v → DiffersBelow (u ++ s) (v ++ t)
unfolding DiffersBelow
differs_append [] v s t h = absurd h
differs_append (x ∷ u) [] s t h = absurd h
differs_append (x ∷ u) (y ∷ v) s t (inl h) = inl h
differs_append (x ∷ u) (y ∷ v) s t (inr h) = inr (h.0, differs_append u v s t h.1)

-- weights

pub letters_weight-push : (weights u : List ℕ) (x : ℕ) → letters_weight weights (u ++ x ∷ []) ≡ letters_weight weights u + letter_weight weights x
unfolding letters_weight
letters_weight-push weights [] x = omega arith
letters_weight-push weights (y ∷ u) x = let h : letters_weight weights (u ++ x ∷ []) ≡ letters_weight weights u + letter_weight weights x = letters_weight-push weights u x in omega arith

pub word_weight-letters : (weights : List ℕ) (w : Word) → word_weight weights w ≡ letters_weight weights (letters w)
unfolding word_weight letters letters_weight
word_weight-letters weights (generator i) = refl
word_weight-letters weights (times w x) =
    let h : word_weight weights w ≡ letters_weight weights (letters w) = word_weight-letters weights w in
    let k : letters_weight weights (letters w ++ x ∷ []) ≡ letters_weight weights (letters w) + letter_weight weights x = letters_weight-push weights (letters w) x in
    omega arith

pub same_words : (v w : Word) → start v ≡ start w → letters v ≡ letters w → v ≡ w
same_words v w h k =
    let a : times_all (generator (start v)) (letters v) ≡ v = spelled_back v in
    let b : times_all (generator (start w)) (letters w) ≡ w = spelled_back w in
    cc

-- letters of one weight are equal, or differ at some place
letters_total : (weights : List ℕ) → ((x : ℕ) → 0 < letter_weight weights x) → (u v : List ℕ) → letters_weight weights u ≡ letters_weight weights v
    → DiffersBelow u v ⊎ ((u ≡ v) ⊎ DiffersBelow v u)
unfolding DiffersBelow letters_weight
letters_total weights positive [] [] e = inr (inl refl)
letters_total weights positive [] (y ∷ v) e = let h : 0 < letter_weight weights y = positive y in absurd (omega arith)
letters_total weights positive (x ∷ u) [] e = let h : 0 < letter_weight weights x = positive x in absurd (omega arith)
letters_total weights positive (x ∷ u) (y ∷ v) e = cases (letters_total weights positive u v) (cases_order x y)
  where
    rest : x ≡ y → DiffersBelow u v ⊎ ((u ≡ v) ⊎ DiffersBelow v u) → DiffersBelow (x ∷ u) (y ∷ v) ⊎ (((x ∷ u) ≡ (y ∷ v)) ⊎ DiffersBelow (y ∷ v) (x ∷ u))
    rest h (inl k) = inl (inr (h, k))
    rest h (inr (inl k)) = inr (inl (cc))
    rest h (inr (inr k)) = inr (inr (inr (sym h, k)))

    cases : (letters_weight weights u ≡ letters_weight weights v → DiffersBelow u v ⊎ ((u ≡ v) ⊎ DiffersBelow v u)) → (x ≡ y) ⊎ ((x < y) ⊎ (y < x))
        → DiffersBelow (x ∷ u) (y ∷ v) ⊎ (((x ∷ u) ≡ (y ∷ v)) ⊎ DiffersBelow (y ∷ v) (x ∷ u))
    cases later (inl h) = let k : letter_weight weights x ≡ letter_weight weights y = ap (letter_weight weights) h in rest h (later (omega arith))
    cases later (inr (inl h)) = inl (inl h)
    cases later (inr (inr h)) = inr (inr (inl h))

-- the order of words

pub before_irreflexive : (P : Presentation) (v : Word) → before P v v → ⊥
unfolding Weighted
before_irreflexive P v (inl h) = omega arith
before_irreflexive P v (inr (e, inl h)) = omega arith
before_irreflexive P v (inr (e, inr h)) = differs_irreflexive (letters v) h.1

pub before_transitive : (P : Presentation) (u v w : Word) → before P u v → before P v w → before P u w
unfolding Weighted
before_transitive P u v w (inl h) (inl k) = inl (omega arith)
before_transitive P u v w (inl h) (inr k) = inl (omega (arith, k.0))
before_transitive P u v w (inr h) (inl k) = inl (omega (arith, h.0))
before_transitive P u v w (inr (d, inl h)) (inr (e, inl k)) = inr (d ∙ e, inl (omega arith))
before_transitive P u v w (inr (d, inl h)) (inr (e, inr k)) = inr (d ∙ e, inl (omega (arith, k.0)))
before_transitive P u v w (inr (d, inr h)) (inr (e, inl k)) = inr (d ∙ e, inl (omega (arith, h.0)))
before_transitive P u v w (inr (d, inr h)) (inr (e, inr k)) = inr (d ∙ e, inr (h.0 ∙ k.0, differs_transitive (letters u) (letters v) (letters w) h.1 k.1))

pub before_by_reach : (P : Presentation) (v w : Word) → reach P v < reach P w → before P v w
unfolding Weighted
before_by_reach P v w h = inl h

-- a word before another reaches no further
pub before_reach : (P : Presentation) (v w : Word) → before P v w → reach P v ≤ reach P w
unfolding Weighted
before_reach P v w (inl h) = omega arith
before_reach P v w (inr h) = omega (arith, h.0)

pub before_times : (P : Presentation) (v w : Word) (x : ℕ) → before P v w → before P (times v x) (times w x)
unfolding Weighted word_weight letters start
before_times P v w x (inl h) = inl (omega arith)
before_times P v w x (inr (e, inl h)) = inr (omega arith, inl h)
before_times P v w x (inr (e, inr h)) = inr (omega arith, inr (h.0, differs_append (letters v) (letters w) (x ∷ []) (x ∷ []) h.1))

pub before_total : (P : Presentation) → IsPresentation P → (v w : Word) → before P v w ⊎ (v ≡ w) ⊎ before P w v
unfolding Weighted
before_total P V v w = by_weight (cases_order (reach P v) (reach P w))
  where
    by_letters : reach P v ≡ reach P w → start v ≡ start w → DiffersBelow (letters v) (letters w) ⊎ ((letters v ≡ letters w) ⊎ DiffersBelow (letters w) (letters v))
        → before P v w ⊎ (v ≡ w) ⊎ before P w v
    by_letters e h (inl k) = inl (inr (e, inr (h, k)))
    by_letters e h (inr (inl k)) = inr (inl (same_words v w h k))
    by_letters e h (inr (inr k)) = inr (inr (inr (sym e, inr (sym h, k))))

    by_start : reach P v ≡ reach P w → (start v ≡ start w) ⊎ ((start v < start w) ⊎ (start w < start v)) → before P v w ⊎ (v ≡ w) ⊎ before P w v
    by_start e (inl h) =
        by_letters e h (letters_total P.weights (step_positive P V) (letters v) (letters w) (sym (word_weight-letters P.weights v) ∙ (e ∙ word_weight-letters P.weights w)))
    by_start e (inr (inl h)) = inl (inr (e, inl h))
    by_start e (inr (inr h)) = inr (inr (inr (sym e, inl h)))

    by_weight : (reach P v ≡ reach P w) ⊎ ((reach P v < reach P w) ⊎ (reach P w < reach P v)) → before P v w ⊎ (v ≡ w) ⊎ before P w v
    by_weight (inl e) = by_start e (cases_order (start v) (start w))
    by_weight (inr (inl h)) = inl (inl h)
    by_weight (inr (inr h)) = inr (inr (inl h))

pub is_total_order : (P : Presentation) → IsPresentation P → IsTotalOrder P
is_total_order P V = record { irreflexive = before_irreflexive P; transitive = before_transitive P; total = before_total P V; by_reach = before_by_reach P }
