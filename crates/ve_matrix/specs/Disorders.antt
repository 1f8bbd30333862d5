-- The first way in which an answer isn't ordered.
use Rattle.std.specs.Prelude.{ℕ, zero, suc, ◌+◌, ◌-◌, ◌<◌, AllPairs}
use Rattle.ve_theory.specs.Words.{generator, times}
use Rattle.ve_theory.specs.Presentations.{Presentation, before, letter_count}
use Rattle.ve_theory.specs.Answers.{Action, IsRowUpTo, basis_word, dimension, image_row, matrix_row}
use Rattle.ve_matrix.specs.declared.disorder.Disorder.{Disorder}
use Rattle.ve_matrix.specs.declared.disorder.Disorder.TheVariants.{Rising, Above}

-- the row of a generator, or of a basis word times a letter, has no word after it
abbrev pub ImageIsOrdered : Presentation → Action → ℕ → Type 0
ImageIsOrdered P A i = IsRowUpTo P A (generator i) (image_row A i)

abbrev pub RowIsOrdered : Presentation → Action → (x j : ℕ) → Type 0
RowIsOrdered P A x j = IsRowUpTo P A (times (basis_word A j) x) (matrix_row A x j)

-- each basis word below a place but the first is after the one before it
abbrev pub WordsRiseBelow : Presentation → Action → ℕ → Type 0
WordsRiseBelow P A place = (j : ℕ) → j + 1 < place → before P (basis_word A j) (basis_word A (j + 1))

-- the rows of all generators below a number are ordered, those of a letter below a place, those of all letters below a number
abbrev pub ImagesAreOrderedBelow : Presentation → Action → ℕ → Type 0
ImagesAreOrderedBelow P A count = (i : ℕ) → i < count → ImageIsOrdered P A i

abbrev pub RowsAreOrderedBelow : Presentation → Action → (x place : ℕ) → Type 0
RowsAreOrderedBelow P A x place = (j : ℕ) → j < place → RowIsOrdered P A x j

abbrev pub MatricesAreOrderedBelow : Presentation → Action → ℕ → Type 0
MatricesAreOrderedBelow P A count = (x : ℕ) → x < count → RowsAreOrderedBelow P A x (dimension A)

-- this basis word is the first that isn't after the one before it
pub record FallsFirst (P : Presentation) (A : Action) (place : ℕ) : Type 0 where
  pub second : 0 < place
  pub exists : place < dimension A
  pub earlier : WordsRiseBelow P A place
  pub falls : ¬ before P (basis_word A (place - 1)) (basis_word A place)

-- this row of a letter is the first that isn't ordered
pub record IsFirstAbove (P : Presentation) (A : Action) (x j : ℕ) : Type 0 where
  pub exists : j < dimension A
  pub earlier : RowsAreOrderedBelow P A x j
  pub fails : ¬ RowIsOrdered P A x j

-- this letter is the first with such a row
pub record IsFirstRowAbove (P : Presentation) (A : Action) (x j : ℕ) : Type 0 where
  pub letter : x < letter_count P
  pub earlier : MatricesAreOrderedBelow P A x
  pub row : IsFirstAbove P A x j

-- basis words rise, and this generator's row is the first that isn't ordered
pub record ImageFailsFirst (P : Presentation) (A : Action) (i : ℕ) : Type 0 where
  pub rising : AllPairs (before P) A.basis
  pub exists : i < P.generators
  pub earlier : ImagesAreOrderedBelow P A i
  pub fails : ¬ ImageIsOrdered P A i

-- basis words rise, the rows of generators are ordered, and this row is the first that isn't
pub record RowFailsFirst (P : Presentation) (A : Action) (x j : ℕ) : Type 0 where
  pub rising : AllPairs (before P) A.basis
  pub images : ImagesAreOrderedBelow P A P.generators
  pub first : IsFirstRowAbove P A x j

-- it names the first failure: places, generators and letters from 1, and 0 for the rows of generators
unfoldable pub IsDisorder : Presentation → Action → Disorder → Type 0
IsDisorder P A (Rising row) = (0 < row) × FallsFirst P A (row - 1)
IsDisorder P A (Above zero row) = (0 < row) × ImageFailsFirst P A (row - 1)
IsDisorder P A (Above (suc x) row) = (0 < row) × RowFailsFirst P A x (row - 1)
