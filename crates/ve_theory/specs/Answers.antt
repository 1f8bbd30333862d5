-- Answers: matrices of a module on a basis of words. What they evaluate elements to, and what makes them right.
use Rattle.std.specs.Prelude.{◌≡◌, ℕ, ◌<◌, ◌⊎◌, AllPairs, List, [], ◌∷◌, ◌++◌, length, All, slice_index_or, nat_eq}
use Rattle.ve_theory.specs.Combinations.{Combination, unit, difference, extended, Alike, IsReduced}
use Rattle.ve_theory.specs.Words.{Word, generator, times, start, letters}
use Rattle.ve_theory.specs.Elements.{AlgebraElement, Element}
use Rattle.ve_theory.specs.Presentations.{Presentation, letter_count, relators, relator, submodule_relation, before}
use Rattle.ve_theory.specs.Derivations.{Derived}
use Rattle.ve_theory.specs.Levels.{IsLeast, IsClosingLevel, Lists}

-- a row vector, by its places, numbered from 0
abbrev pub Row : Type 0
Row = Combination ℕ

-- Letters act on a basis of words: the row of each generator and, for each letter, the row of each basis vector times it.
pub record Action : Type 0 where
  pub basis : List Word
  pub images : List Row
  pub matrices : List (List Row)

-- the j-th basis word
abbrev pub basis_word : Action → ℕ → Word
basis_word A j = slice_index_or A.basis j (generator 0)

abbrev pub dimension : Action → ℕ
dimension A = length A.basis

-- the row of a generator, and of the j-th basis vector times the letter x
abbrev pub image_row : Action → ℕ → Row
image_row A i = slice_index_or A.images i []

abbrev pub matrix_row : Action → ℕ → ℕ → Row
matrix_row A x j = slice_index_or (slice_index_or A.matrices x []) j []

-- a row times the matrix of a letter, of letters one after another, and of an element of the algebra
abbrev pub row_times : Action → Row → ℕ → Row
row_times A row x = extended (matrix_row A x) row

unfoldable pub row_times_letters : Action → Row → List ℕ → Row
row_times_letters A row [] = row
row_times_letters A row (x ∷ u) = row_times_letters A (row_times A row x) u

abbrev pub row_times_element : Action → Row → AlgebraElement → Row
row_times_element A row r = extended (row_times_letters A row) r

-- the row of a word: its generator's row times the matrices of its letters
unfoldable pub word_row : Action → Word → Row
word_row A (generator i) = image_row A i
word_row A (times w x) = row_times A (word_row A w) x

-- the row of an element
abbrev pub evaluation : Action → Element → Row
evaluation A v = extended (word_row A) v

-- the row is zero modulo p; two rows are equal modulo p
abbrev pub IsZeroRow : ℕ → Row → Type 0
IsZeroRow p row = Alike nat_eq p row []

abbrev pub AreSameRows : ℕ → Row → Row → Type 0
AreSameRows p r s = Alike nat_eq p r s

-- the combination of basis words that a row stands for
abbrev pub combination_of : Action → Row → Element
combination_of A row = extended (λ j. unit (basis_word A j)) row

-- each basis word is a generator, or an earlier basis word times a letter
pub data IsGrown : List Word → Type 0 where
  none : IsGrown []
  with_generator : (ws : List Word) (i : ℕ) → IsGrown ws → IsGrown (ws ++ generator i ∷ [])
  with_child : (ws : List Word) (j x : ℕ) → IsGrown ws → j < length ws → IsGrown (ws ++ times (slice_index_or ws j (generator 0)) x ∷ [])

-- An answer: an action of the letters, with the field, the names of the letters and the number of generators.
pub record Answer : Type 0 where
  pub prime : ℕ
  pub names : List (List ℕ)
  pub generators : ℕ
  -- the level at which the enumeration closed
  pub closed : ℕ
  pub action : Action

-- a row on a basis of n words: places fall and are below n, coefficients are residues other than 0
abbrev pub IsRow : (p n : ℕ) → Row → Type 0
IsRow p n row = IsReduced ◌<◌ p row × All (λ t. t.0 < n) row

-- The answer's lists have the lengths that they must have, its rows are rows, and its basis words have generators and letters of
-- the answer; each is a generator or an earlier one times a letter.
pub record IsWellFormed (A : Answer) : Type 0 where
  pub one_image_each : length A.action.images ≡ A.generators
  pub one_matrix_each : length A.action.matrices ≡ length A.names
  pub square : All (λ matrix. length matrix ≡ dimension A.action) A.action.matrices
  pub images : All (IsRow A.prime (dimension A.action)) A.action.images
  pub matrices : All (All (IsRow A.prime (dimension A.action))) A.action.matrices
  pub words : All (λ w. (start w < A.generators) × All (λ x. x < length A.names) (letters w)) A.action.basis
  pub grown : IsGrown A.action.basis

-- the answer and the presentation have one field, one list of names and one number of generators
pub record HasShape (P : Presentation) (A : Answer) : Type 0 where
  pub prime : A.prime ≡ P.prime
  pub names : A.names ≡ P.names
  pub generators : A.generators ≡ P.generators

-- the rows of generators, and of basis words times letters, name basis words alone
abbrev pub IsPlaced : Action → Row → Type 0
IsPlaced A row = All (λ t. t.0 < dimension A) row

pub record HasPlacedRows (P : Presentation) (A : Action) : Type 0 where
  pub images : (i : ℕ) → i < P.generators → IsPlaced A (image_row A i)
  pub matrices : (x j : ℕ) → x < letter_count P → j < dimension A → IsPlaced A (matrix_row A x j)

-- the relations derive each row: of a generator, and of a basis word times a letter
pub record HasDerivedRows (P : Presentation) (A : Action) : Type 0 where
  pub images : (i : ℕ) → i < P.generators → Derived P (difference P.prime (unit (generator i)) (combination_of A (image_row A i)))
  pub matrices : (x j : ℕ) → x < letter_count P → j < dimension A →
      Derived P (difference P.prime (unit (times (basis_word A j) x)) (combination_of A (matrix_row A x j)))

-- The module's answer, but for the number of the closing level: its basis is the list of all least words, and the relations
-- derive its rows.
pub record IsModuleAnswer (P : Presentation) (A : Answer) : Type 0 where
  pub shape : HasShape P A
  pub form : IsWellFormed A
  pub basis : Lists P (IsLeast P) A.action.basis
  pub rows : HasDerivedRows P A.action

-- the answer of a presentation
pub record IsAnswer (P : Presentation) (A : Answer) : Type 0 where
  pub module_answer : IsModuleAnswer P A
  pub closed : IsClosingLevel P A.closed

-- v is w or before it
abbrev pub IsNotAfter : Presentation → Word → Word → Type 0
IsNotAfter P v w = before P v w ⊎ (v ≡ w)

-- each place of a row has a basis word that is not after w
abbrev pub IsRowUpTo : Presentation → Action → Word → Row → Type 0
IsRowUpTo P A w row = All (λ t. (t.0 < dimension A) × IsNotAfter P (basis_word A t.0) w) row

-- basis words rise, and no row has an entry after the word that it is the row of
pub record IsOrdered (P : Presentation) (A : Action) : Type 0 where
  pub rising : AllPairs (before P) A.basis
  pub images : (i : ℕ) → i < P.generators → IsRowUpTo P A (generator i) (image_row A i)
  pub matrices : (x j : ℕ) → x < letter_count P → j < dimension A → IsRowUpTo P A (times (basis_word A j) x) (matrix_row A x j)

-- a relator vanishes on a basis row; a submodule relation vanishes; a basis word has its own row
abbrev pub RelatorVanishes : Presentation → Action → ℕ → ℕ → Type 0
RelatorVanishes P A number row = IsZeroRow P.prime (row_times_element A (unit row) (relator P number))

abbrev pub SubmoduleVanishes : Presentation → Action → ℕ → Type 0
SubmoduleVanishes P A number = IsZeroRow P.prime (evaluation A (submodule_relation P number))

abbrev pub HasOwnRow : Presentation → Action → ℕ → Type 0
HasOwnRow P A row = AreSameRows P.prime (word_row A (basis_word A row)) (unit row)

-- all relators below a number vanish on every basis row; all submodule relations below a number; all basis words below a number
abbrev pub RelatorsVanishBelow : Presentation → Action → ℕ → Type 0
RelatorsVanishBelow P A count = (number row : ℕ) → number < count → row < dimension A → RelatorVanishes P A number row

abbrev pub SubmoduleVanishesBelow : Presentation → Action → ℕ → Type 0
SubmoduleVanishesBelow P A count = (number : ℕ) → number < count → SubmoduleVanishes P A number

abbrev pub HaveOwnRowsBelow : Presentation → Action → ℕ → Type 0
HaveOwnRowsBelow P A count = (row : ℕ) → row < count → HasOwnRow P A row

-- all relators vanish, all submodule relations do, and each basis word has its own row
pub record MeetsRelations (P : Presentation) (A : Action) : Type 0 where
  pub relators : RelatorsVanishBelow P A (length (relators P))
  pub submodule : SubmoduleVanishesBelow P A (length P.submodule)
  pub own_rows : HaveOwnRowsBelow P A (dimension A)

-- the action is one of the presented module: elements that are derived have the row zero; each basis word has its own row
pub record IsQuotient (P : Presentation) (A : Answer) : Type 0 where
  pub shape : HasShape P A
  pub vanishes : (v : Element) → Derived P v → IsZeroRow P.prime (evaluation A.action v)
  pub own_rows : HaveOwnRowsBelow P A.action (dimension A.action)
