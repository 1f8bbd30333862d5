-- Shortlex is a strict total order.
use Rattle.std.proofs.Common.{◌≡◌, ℕ, ◌<◌, ◌⊎◌, inl, inr, Bool, true, false, List, [], ◌∷◌, length, refl, sym, subst, ◌∙◌, arith}
use Rattle.std.proofs.lemmas.Bool.{cases_order}
use Rattle.std.specs.Cmp.{IsStrictWeakOrder}
use Rattle.std.specs.declared.cmp.Ordering.{Ordering}
use Rattle.std.specs.declared.cmp.Ordering.TheVariants.{Less, Equal, Greater}
use Rattle.std.specs.Ordering.{is_lt}
use Rattle.ve_theory.specs.Words.{Word, start, letters, word_length, DiffersBelow, Shortlex}
use Rattle.ve_lemmas.proofs.Orders.{differs_irreflexive, differs_transitive}
use Rattle.ve_lemmas.proofs.Words.{same_words}
use Rattle.ve_pres.specs.Gathering.{IsAtMost}

-- letters of one length are equal, or differ at some place
differs_total : (u v : List ℕ) → length u ≡ length v → DiffersBelow u v ⊎ ((u ≡ v) ⊎ DiffersBelow v u)
unfolding DiffersBelow
differs_total [] [] e = inr (inl refl)
differs_total [] (y ∷ v) e = absurd (omega arith)
differs_total (x ∷ u) [] e = absurd (omega arith)
differs_total (x ∷ u) (y ∷ v) e = cases (cases_order x y) (differs_total u v (omega arith))
  where
    rest : x ≡ y → DiffersBelow u v ⊎ ((u ≡ v) ⊎ DiffersBelow v u) → DiffersBelow (x ∷ u) (y ∷ v) ⊎ (((x ∷ u) ≡ (y ∷ v)) ⊎ DiffersBelow (y ∷ v) (x ∷ u))
    rest h (inl k) = inl (inr (h, k))
    rest h (inr (inl k)) = inr (inl (cc))
    rest h (inr (inr k)) = inr (inr (inr (sym h, k)))

    cases : (x ≡ y) ⊎ ((x < y) ⊎ (y < x)) → DiffersBelow u v ⊎ ((u ≡ v) ⊎ DiffersBelow v u) → DiffersBelow (x ∷ u) (y ∷ v) ⊎ (((x ∷ u) ≡ (y ∷ v)) ⊎ DiffersBelow (y ∷ v) (x ∷ u))
    cases (inl h) later = rest h later
    cases (inr (inl h)) later = inl (inl h)
    cases (inr (inr h)) later = inr (inr (inl h))

pub shortlex_irreflexive : (v : Word) → Shortlex v v → ⊥
unfolding Shortlex
shortlex_irreflexive v (inl h) = omega arith
shortlex_irreflexive v (inr (e, inl h)) = omega arith
shortlex_irreflexive v (inr (e, inr h)) = differs_irreflexive (letters v) h.1

pub shortlex_transitive : (u v w : Word) → Shortlex u v → Shortlex v w → Shortlex u w
unfolding Shortlex
shortlex_transitive u v w (inl h) (inl k) = inl (omega arith)
shortlex_transitive u v w (inl h) (inr k) = inl (omega (arith, k.0))
shortlex_transitive u v w (inr h) (inl k) = inl (omega (arith, h.0))
shortlex_transitive u v w (inr (d, inl h)) (inr (e, inl k)) = inr (d ∙ e, inl (omega arith))
shortlex_transitive u v w (inr (d, inl h)) (inr (e, inr k)) = inr (d ∙ e, inl (omega (arith, k.0)))
shortlex_transitive u v w (inr (d, inr h)) (inr (e, inl k)) = inr (d ∙ e, inl (omega (arith, h.0)))
shortlex_transitive u v w (inr (d, inr h)) (inr (e, inr k)) = inr (d ∙ e, inr (h.0 ∙ k.0, differs_transitive (letters u) (letters v) (letters w) h.1 k.1))

pub shortlex_total : (v w : Word) → Shortlex v w ⊎ ((v ≡ w) ⊎ Shortlex w v)
unfolding Shortlex
shortlex_total v w = by_length (cases_order (word_length v) (word_length w))
  where
    by_letters : word_length v ≡ word_length w → start v ≡ start w → DiffersBelow (letters v) (letters w) ⊎ ((letters v ≡ letters w) ⊎ DiffersBelow (letters w) (letters v))
        → Shortlex v w ⊎ ((v ≡ w) ⊎ Shortlex w v)
    by_letters e h (inl k) = inl (inr (e, inr (h, k)))
    by_letters e h (inr (inl k)) = inr (inl (same_words v w h k))
    by_letters e h (inr (inr k)) = inr (inr (inr (sym e, inr (sym h, k))))

    by_start : word_length v ≡ word_length w → (start v ≡ start w) ⊎ ((start v < start w) ⊎ (start w < start v)) → Shortlex v w ⊎ ((v ≡ w) ⊎ Shortlex w v)
    by_start e (inl h) = by_letters e h (differs_total (letters v) (letters w) e)
    by_start e (inr (inl h)) = inl (inr (e, inl h))
    by_start e (inr (inr h)) = inr (inr (inr (sym e, inl h)))

    by_length : (word_length v ≡ word_length w) ⊎ ((word_length v < word_length w) ⊎ (word_length w < word_length v)) → Shortlex v w ⊎ ((v ≡ w) ⊎ Shortlex w v)
    by_length (inl e) = by_start e (cases_order (start v) (start w))
    by_length (inr (inl h)) = inl (inl h)
    by_length (inr (inr h)) = inr (inr (inl h))

-- at most, and before

pub at_most_before : (u v w : Word) → IsAtMost u v → Shortlex v w → Shortlex u w
at_most_before u v w (inl e) h = let P : Word → Type 0 = λ x. Shortlex x w in subst P (sym e) h
at_most_before u v w (inr k) h = shortlex_transitive u v w k h

pub at_most_trans : (u v w : Word) → IsAtMost u v → IsAtMost v w → IsAtMost u w
at_most_trans u v w h (inl e) = let P : Word → Type 0 = λ x. IsAtMost u x in subst P e h
at_most_trans u v w h (inr k) = inr (at_most_before u v w h k)

-- a test of the order

pub is_before : Word → Word → Bool
is_before v w = elim (shortlex_total v w) [ inl h ↦ true | inr h ↦ false ]

pub before_from_test : (v w : Word) → is_before v w ≡ true → Shortlex v w
unfolding is_before
before_from_test v w = by (shortlex_total v w)
  where
    by : (c : Shortlex v w ⊎ ((v ≡ w) ⊎ Shortlex w v)) → elim c as (λ _. Bool) [ inl h ↦ true | inr h ↦ false ] ≡ true → Shortlex v w
    by (inl h) e = h
    by (inr h) e = absurd cc

pub at_most_from_test : (v w : Word) → is_before v w ≡ false → IsAtMost w v
unfolding is_before
at_most_from_test v w = by (shortlex_total v w)
  where
    by : (c : Shortlex v w ⊎ ((v ≡ w) ⊎ Shortlex w v)) → elim c as (λ _. Bool) [ inl h ↦ true | inr h ↦ false ] ≡ false → IsAtMost w v
    by (inl h) e = absurd cc
    by (inr (inl h)) e = inl (sym h)
    by (inr (inr h)) e = inr h

pub test_not_before : (v w : Word) → IsAtMost w v → is_before v w ≡ false
unfolding is_before
test_not_before v w at_most = by (shortlex_total v w)
  where
    by : (c : Shortlex v w ⊎ ((v ≡ w) ⊎ Shortlex w v)) → elim c as (λ _. Bool) [ inl h ↦ true | inr h ↦ false ] ≡ false
    by (inl h) = absurd (shortlex_irreflexive w (at_most_before w v w at_most h))
    by (inr h) = refl

pub test_before : (v w : Word) → Shortlex v w → is_before v w ≡ true
unfolding is_before
test_before v w before = by (shortlex_total v w)
  where
    by : (c : Shortlex v w ⊎ ((v ≡ w) ⊎ Shortlex w v)) → elim c as (λ _. Bool) [ inl h ↦ true | inr h ↦ false ] ≡ true
    by (inl h) = refl
    by (inr (inl h)) = absurd (shortlex_irreflexive w (let P : Word → Type 0 = λ x. Shortlex x w in subst P h before))
    by (inr (inr h)) = absurd (shortlex_irreflexive v (shortlex_transitive v w v before h))

-- what a sort by shortlex asks
pub sorts_by_words : {X : Type 0} (word : X → Word) → IsStrictWeakOrder (λ x y. is_before (word x) (word y))
sorts_by_words word = record {
  one_way = λ x y h. test_not_before (word y) (word x) (inr (before_from_test (word x) (word y) h));
  chain = λ x y z h k. test_not_before (word x) (word z) (at_most_trans (word z) (word y) (word x) (at_most_from_test (word y) (word z) k) (at_most_from_test (word x) (word y) h));
}

not_less : {v w : Word} → Shortlex v w ⊎ ((v ≡ w) ⊎ Shortlex w v) → (Shortlex v w → ⊥) → IsAtMost w v
not_less (inl h) no_less = absurd (no_less h)
not_less (inr (inl h)) no_less = inl (sym h)
not_less (inr (inr h)) no_less = inr h

-- a comparison that answers less exactly where the test holds
pub test_from_order : (r : Ordering) (v w : Word) → (r ≡ Less → Shortlex v w) → (Shortlex v w → r ≡ Less) → is_lt r ≡ is_before v w
test_from_order Less v w h k = sym (test_before v w (h refl))
test_from_order Equal v w h k = sym (test_not_before v w (not_less (shortlex_total v w) (λ b. absurd (let e : Equal ≡ Less = k b in cc))))
test_from_order Greater v w h k = sym (test_not_before v w (not_less (shortlex_total v w) (λ b. absurd (let e : Greater ≡ Less = k b in cc))))
