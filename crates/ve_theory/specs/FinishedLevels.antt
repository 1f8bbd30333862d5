-- Levels at which nothing is left to do.
use Rattle.std.specs.Prelude.{ℕ, ◌+◌, ◌<◌, ◌≤◌, length, All, AllPairs}
use Rattle.ve_theory.specs.Combinations.{unit, difference}
use Rattle.ve_theory.specs.Words.{generator, times}
use Rattle.ve_theory.specs.Presentations.{Presentation, letter_count, relators, relator, submodule_relation, step, reach, element_reach, due, before, IsWord}
use Rattle.ve_theory.specs.Derivations.{DerivedWithin}
use Rattle.ve_theory.specs.Answers.{Action, basis_word, dimension, image_row, matrix_row, combination_of, row_times_element, word_row, evaluation, IsZeroRow, AreSameRows, IsRowUpTo}

-- An action on words of reach at most k, finished at level k. It has the row of a basis word times a letter where their
-- reaches add up to at most k; what it has elsewhere plays no part. Each row is derived within k, and ordered; each
-- relation that is due by level k vanishes.
pub record IsFinishedLevel (P : Presentation) (k : ℕ) (A : Action) : Type 0 where
  pub words : All (λ w. IsWord P w × (reach P w ≤ k)) A.basis
  pub rising : AllPairs (before P) A.basis
  pub own_rows : (j : ℕ) → j < dimension A → AreSameRows P.prime (word_row A (basis_word A j)) (unit j)
  pub images : (i : ℕ) → i < P.generators →
      DerivedWithin P k (difference P.prime (unit (generator i)) (combination_of A (image_row A i))) × IsRowUpTo P A (generator i) (image_row A i)
  pub matrices : (x j : ℕ) → x < letter_count P → j < dimension A → reach P (basis_word A j) + step P x ≤ k →
      DerivedWithin P k (difference P.prime (unit (times (basis_word A j) x)) (combination_of A (matrix_row A x j)))
      × IsRowUpTo P A (times (basis_word A j) x) (matrix_row A x j)
  pub relators : (number j : ℕ) → number < length (relators P) → j < dimension A → due P (basis_word A j) (relator P number) ≤ k →
      IsZeroRow P.prime (row_times_element A (unit j) (relator P number))
  pub submodule : (number : ℕ) → number < length P.submodule → element_reach P (submodule_relation P number) ≤ k →
      IsZeroRow P.prime (evaluation A (submodule_relation P number))
