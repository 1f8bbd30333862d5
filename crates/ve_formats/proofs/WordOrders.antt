-- Shortlex is a strict total order, and so is the order of letters.
use Rattle.std.proofs.Common.{◌≡◌, ℕ, ◌<◌, ◌⊎◌, inl, inr, List, [], ◌∷◌, length, refl, sym, ◌∙◌, arith}
use Rattle.std.proofs.lemmas.Bool.{cases_order, and_from, eq-eqb}
use Rattle.ve_theory.specs.Words.{Word, start, letters, same_letters, same_word, DiffersBelow, Shortlex, ShortlexLetters}
use Rattle.ve_lemmas.proofs.Orders.{differs_transitive}
use Rattle.ve_lemmas.proofs.Words.{same_words}
use Rattle.ve_formats.proofs.SameNames.{same_letters-refl}
use Rattle.ve_formats.proofs.Collecting.{IsKeyOrder}

abbrev Compared : {K : Type 0} → (K → K → Type 0) → K → K → Type 0
Compared before j k = before j k ⊎ ((j ≡ k) ⊎ before k j)

differs_total : (u v : List ℕ) → length u ≡ length v → Compared DiffersBelow u v
unfolding DiffersBelow
differs_total [] [] e = inr (inl refl)
differs_total [] (y ∷ v) e = absurd (omega arith)
differs_total (x ∷ u) [] e = absurd (omega arith)
differs_total (x ∷ u) (y ∷ v) e = by_first (cases_order x y) (differs_total u v (omega arith))
  where
    by_first : (x ≡ y) ⊎ ((x < y) ⊎ (y < x)) → Compared DiffersBelow u v → Compared DiffersBelow (x ∷ u) (y ∷ v)
    by_first (inr (inl h)) later = inl (inl h)
    by_first (inr (inr h)) later = inr (inr (inl h))
    by_first (inl h) (inl k) = inl (inr (h, k))
    by_first (inl h) (inr (inl k)) = inr (inl (λ i. h i ∷ k i))
    by_first (inl h) (inr (inr k)) = inr (inr (inr (sym h, k)))

pub letters_order : IsKeyOrder ShortlexLetters same_letters
unfolding ShortlexLetters
letters_order = record { transitive = transitive; total = total; itself = same_letters-refl }
  where
    transitive : (u v w : List ℕ) → ShortlexLetters u v → ShortlexLetters v w → ShortlexLetters u w
    transitive u v w (inl g) (inl h) = inl (omega arith)
    transitive u v w (inl g) (inr h) = inl (omega (arith, h.0))
    transitive u v w (inr g) (inl h) = inl (omega (arith, g.0))
    transitive u v w (inr g) (inr h) = inr (g.0 ∙ h.0, differs_transitive u v w g.1 h.1)

    by_letters : (u v : List ℕ) → length u ≡ length v → Compared DiffersBelow u v → Compared ShortlexLetters u v
    by_letters u v e (inl h) = inl (inr (e, h))
    by_letters u v e (inr (inl h)) = inr (inl h)
    by_letters u v e (inr (inr h)) = inr (inr (inr (sym e, h)))

    by_length : (u v : List ℕ) → (length u ≡ length v) ⊎ ((length u < length v) ⊎ (length v < length u)) → Compared ShortlexLetters u v
    by_length u v (inr (inl h)) = inl (inl h)
    by_length u v (inr (inr h)) = inr (inr (inl h))
    by_length u v (inl e) = by_letters u v e (differs_total u v e)

    total : (u v : List ℕ) → Compared ShortlexLetters u v
    total u v = by_length u v (cases_order (length u) (length v))

pub words_order : IsKeyOrder Shortlex same_word
unfolding Shortlex same_word
words_order = record { transitive = transitive; total = total; itself = λ w. and_from _ _ (eq-eqb (start w) (start w) refl) (same_letters-refl (letters w)) }
  where
    transitive : (u v w : Word) → Shortlex u v → Shortlex v w → Shortlex u w
    transitive u v w (inl g) (inl h) = inl (omega arith)
    transitive u v w (inl g) (inr h) = inl (omega (arith, h.0))
    transitive u v w (inr g) (inl h) = inl (omega (arith, g.0))
    transitive u v w (inr (d, inl g)) (inr (e, inl h)) = inr (d ∙ e, inl (omega arith))
    transitive u v w (inr (d, inl g)) (inr (e, inr h)) = inr (d ∙ e, inl (omega (arith, h.0)))
    transitive u v w (inr (d, inr g)) (inr (e, inl h)) = inr (d ∙ e, inl (omega (arith, g.0)))
    transitive u v w (inr (d, inr g)) (inr (e, inr h)) = inr (d ∙ e, inr (g.0 ∙ h.0, differs_transitive (letters u) (letters v) (letters w) g.1 h.1))

    by_letters : (v w : Word) → length (letters v) ≡ length (letters w) → start v ≡ start w → Compared DiffersBelow (letters v) (letters w) → Compared Shortlex v w
    by_letters v w d e (inl h) = inl (inr (d, inr (e, h)))
    by_letters v w d e (inr (inl h)) = inr (inl (same_words v w e h))
    by_letters v w d e (inr (inr h)) = inr (inr (inr (sym d, inr (sym e, h))))

    by_start : (v w : Word) → length (letters v) ≡ length (letters w) → (start v ≡ start w) ⊎ ((start v < start w) ⊎ (start w < start v)) → Compared Shortlex v w
    by_start v w d (inr (inl h)) = inl (inr (d, inl h))
    by_start v w d (inr (inr h)) = inr (inr (inr (sym d, inl h)))
    by_start v w d (inl e) = by_letters v w d e (differs_total (letters v) (letters w) d)

    by_length : (v w : Word) → (length (letters v) ≡ length (letters w)) ⊎ ((length (letters v) < length (letters w)) ⊎ (length (letters w) < length (letters v))) → Compared Shortlex v w
    by_length v w (inr (inl h)) = inl (inl h)
    by_length v w (inr (inr h)) = inr (inr (inl h))
    by_length v w (inl d) = by_start v w d (cases_order (start v) (start w))

    total : (v w : Word) → Compared Shortlex v w
    total v w = by_length v w (cases_order (length (letters v)) (length (letters w)))
