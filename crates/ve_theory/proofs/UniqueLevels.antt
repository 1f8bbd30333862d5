-- Actions that are finished at one level are one. Runs end in one way.
use Rattle.std.proofs.Common.{◌≡◌, ℕ, ◌+◌, ◌-◌, ◌<◌, ◌≤◌, ◌⊎◌, inl, inr, length, slice_index_or, nat_eq, All, sym, ap, subst, arith}
use Rattle.std.proofs.lemmas.Bool.{cases_order}
use Rattle.std.proofs.lemmas.List.Elements.{All-append, All-weaker}
use Rattle.ve_theory.specs.Combinations.{unit, scaled, difference, extended}
use Rattle.ve_theory.specs.Words.{Word, generator, times}
use Rattle.ve_theory.specs.Elements.{Element}
use Rattle.ve_theory.specs.Presentations.{Presentation, IsPresentation, reach, step}
use Rattle.ve_theory.specs.Derivations.{DerivedWithin}
use Rattle.ve_theory.specs.Levels.{IsNormal, FitsLimit, IsOutgrown, IsFinishedAt}
use Rattle.ve_theory.specs.Answers.{Row, Action, AreSameRows, basis_word, dimension, image_row, matrix_row, word_row, evaluation, combination_of, IsRowUpTo}
use Rattle.ve_theory.specs.FinishedLevels.{IsFinishedLevel}
use Rattle.ve_theory.specs.Laws.{FinishedLevelsAreUnique, EndingsExclude}
use Rattle.ve_theory.proofs.Sums.{SameWeights, SameWeights-sym, SameWeights-trans, SameWeights-extended_by, extended-difference, extended-extended, extended-unit, extended-by_units, same_from_difference, Alike_from_weights, prime-large}
use Rattle.ve_theory.proofs.DerivedElements.{DerivedWithin-alike, DerivedWithin-combined}
use Rattle.ve_theory.proofs.Members.{All-scaled}
use Rattle.ve_theory.proofs.Kernels.{row_weights}
use Rattle.ve_theory.proofs.FinishedLevels.{settles_level, level_derived_vanishes}
use Rattle.ve_theory.proofs.RisingLists.{same_Lists, sizes}
use Rattle.ve_theory.proofs.UniqueAnswers.{difference_of_differences}

module _ (P : Presentation) (k : ℕ) (A : Action) (V : IsPresentation P) (F : IsFinishedLevel P k A) where
  -- a row of basis words is what its combination evaluates to
  combination_row : (row : Row) → All (λ t. t.0 < dimension A) row → SameWeights P.prime (evaluation A (combination_of A row)) row
  combination_row row placed =
      SameWeights-trans (extended-extended P.prime (word_row A) (λ j. unit (basis_word A j)) row)
      (SameWeights-trans
      (SameWeights-extended_by (λ j. evaluation A (unit (basis_word A j))) unit row
      (All-weaker (λ (t : ℕ × ℕ). t.0 < dimension A) (λ (t : ℕ × ℕ). SameWeights P.prime (evaluation A (unit (basis_word A t.0))) (unit t.0))
      (λ t l. SameWeights-trans (extended-unit P.prime (word_row A) (basis_word A t.0)) (row_weights P.prime (word_row A (basis_word A t.0)) (unit t.0) (F.own_rows t.0 l))) row placed))
      (extended-by_units P.prime row))

  -- rows that stand for one word within the level are equal
  same_rows : (u : Element) (r s : Row) → All (λ t. t.0 < dimension A) r → All (λ t. t.0 < dimension A) s
      → DerivedWithin P k (difference P.prime u (combination_of A r)) → DerivedWithin P k (difference P.prime u (combination_of A s)) → AreSameRows P.prime r s
  same_rows u r s f g d e =
      Alike_from_weights nat_eq
      (same_from_difference P.prime r s positive
      (SameWeights-trans (SameWeights-sym (combination_row (difference P.prime r s) (All-append (λ (t : ℕ × ℕ). t.0 < dimension A) r (scaled (P.prime - 1) s) f (All-scaled (λ j. j < dimension A) (P.prime - 1) s g))))
      (level_derived_vanishes P k A V F (combination_of A (difference P.prime r s)) derived)))
    where
      positive : 0 < P.prime
      positive = omega (arith, prime-large P.prime V.field)

      derived : DerivedWithin P k (combination_of A (difference P.prime r s))
      derived =
          DerivedWithin-alike P k
          (SameWeights-trans (difference_of_differences P.prime u (combination_of A r) (combination_of A s) positive)
          (SameWeights-sym (extended-difference P.prime (λ j. unit (basis_word A j)) r s)))
          (DerivedWithin-combined P k (P.prime - 1) 1 d e)

placed_row : (P : Presentation) (A : Action) (w : Word) (row : Row) → IsRowUpTo P A w row → All (λ t. t.0 < dimension A) row
placed_row P A w row upto = λ m t l. (upto m t l).0

pub finished_levels_are_unique : FinishedLevelsAreUnique
finished_levels_are_unique P k A B V F G =
    let same : A.basis ≡ B.basis = same_Lists P (IsNormal P k) A.basis B.basis (settles_level P k A V F).normal (settles_level P k B V G).normal in
    let words : (j : ℕ) → basis_word A j ≡ basis_word B j = λ j. ap (λ ws. slice_index_or ws j (generator 0)) same in
    let placed : (w : Word) (row : Row) → IsRowUpTo P B w row → All (λ t. t.0 < dimension A) row =
    λ w row upto. subst (λ n. All (λ t. t.0 < n) row) (ap length (sym same)) (placed_row P B w row upto) in
    let here : (w : Word) (row : Row) → DerivedWithin P k (difference P.prime (unit w) (combination_of B row)) → DerivedWithin P k (difference P.prime (unit w) (combination_of A row)) =
    λ w row. subst (λ ws. DerivedWithin P k (difference P.prime (unit w) (extended (λ j. unit (slice_index_or ws j (generator 0))) row))) (sym same) in
    record {
      basis = same;
      images = λ i l.
          same_rows P k A V F (unit (generator i)) (image_row A i) (image_row B i) (placed_row P A (generator i) (image_row A i) (F.images i l).1)
          (placed (generator i) (image_row B i) (G.images i l).1) (F.images i l).0 (here (generator i) (image_row B i) (G.images i l).0);
      matrices = λ x j l m within.
          let w : Word = times (basis_word A j) x in
          let in_other = G.matrices x j l (subst (λ n. j < n) (ap length same) m) (subst (λ v. reach P v + step P x ≤ k) (words j) within) in
          same_rows P k A V F (unit w) (matrix_row A x j) (matrix_row B x j) (placed_row P A w (matrix_row A x j) (F.matrices x j l m within).1)
          (placed (times (basis_word B j) x) (matrix_row B x j) in_other.1) (F.matrices x j l m within).0
          (here w (matrix_row B x j) (subst (λ v. DerivedWithin P k (difference P.prime (unit (times v x)) (combination_of B (matrix_row B x j)))) (sym (words j)) in_other.0));
    }

-- a level that fits the limit isn't the outgrown one
too_large : (P : Presentation) (limit k n : ℕ) → IsPresentation P → IsOutgrown P limit k n → FitsLimit P limit k → ⊥
too_large P limit k n V over (m, size, fits) = absurd (omega (arith, sizes P k m n V size over.size, over.exceeds, fits))

pub endings_exclude : EndingsExclude
endings_exclude = record {
  outgrown_once = λ P limit j k m n V f g. once P limit j k m n V f g (cases_order j k);
  not_both = λ P limit j k n V done over. both P limit j k n V done over (cases_order k j);
}
  where
    same_level : (P : Presentation) (limit j k m n : ℕ) → IsPresentation P → IsOutgrown P limit j m → IsOutgrown P limit k n → j ≡ k → (j ≡ k) × (m ≡ n)
    same_level P limit j k m n V f g e = (e, sizes P k m n V (subst (λ i. IsOutgrown P limit i m) e f).size g.size)

    once : (P : Presentation) (limit j k m n : ℕ) → IsPresentation P → IsOutgrown P limit j m → IsOutgrown P limit k n → (j ≡ k) ⊎ ((j < k) ⊎ (k < j)) → (j ≡ k) × (m ≡ n)
    once P limit j k m n V f g (inl e) = same_level P limit j k m n V f g e
    once P limit j k m n V f g (inr (inl h)) = absurd (too_large P limit j m V f (g.fits_before j h))
    once P limit j k m n V f g (inr (inr h)) = absurd (too_large P limit k n V g (f.fits_before k h))

    both : (P : Presentation) (limit j k n : ℕ) → IsPresentation P → IsFinishedAt P limit j → IsOutgrown P limit k n → (k ≡ j) ⊎ ((k < j) ⊎ (j < k)) → ⊥
    both P limit j k n V done over (inl e) = too_large P limit k n V over (done.fits k (omega (arith, e)))
    both P limit j k n V done over (inr (inl h)) = too_large P limit k n V over (done.fits k (omega (arith, h)))
    both P limit j k n V done over (inr (inr h)) = over.open_before j h done.closing.closes
