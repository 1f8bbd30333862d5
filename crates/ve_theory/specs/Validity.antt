-- The presentations that the program takes: what their text can say, and the limits that it keeps.
use Rattle.std.specs.Prelude.{◌≡◌, ◌≢◌, ℕ, ◌+◌, ◌<◌, ◌≤◌, ◌⊎◌, Bool, false, ◌&&◌, ◌||◌, nat_eq, nat_le, List, [], ◌∷◌, length, Some, slice_get, All, AllPairs, sum_by, IsTrue, IsFalse}
use Rattle.std.specs.List.{list_all}
use Rattle.ve_theory.specs.Words.{word_length}
use Rattle.ve_theory.specs.Elements.{AlgebraElement, Element, algebra_length, element_length, halved, IsAlgebraElementOf}
use Rattle.ve_theory.specs.Presentations.{Presentation, IsPresentation, relators}

-- the limits of a presentation
abbrev pub most_letters : ℕ
most_letters = 32

abbrev pub most_generators : ℕ
most_generators = 255

abbrev pub most_relations : ℕ
most_relations = 4096

abbrev pub most_terms : ℕ
most_terms = 4096

abbrev pub most_length : ℕ
most_length = 1000

abbrev pub most_cells : ℕ
most_cells = 8388608

-- a letter of a name: A to Z, a to z, or the low line; a digit
abbrev pub is_name_letter : ℕ → Bool
is_name_letter b = (nat_le 65 b && nat_le b 90) || (nat_le 97 b && nat_le b 122) || nat_eq b 95

abbrev pub is_digit : ℕ → Bool
is_digit b = nat_le 48 b && nat_le b 57

-- a name: a letter of a name, then letters and digits
unfoldable pub is_name : List ℕ → Bool
is_name [] = false
is_name (b ∷ bs) = is_name_letter b && list_all (λ c. is_name_letter c || is_digit c) bs

-- a name that a letter can't have: e followed by digits alone, as generators are written
unfoldable pub is_rooted : List ℕ → Bool
is_rooted [] = false
is_rooted (b ∷ []) = false
is_rooted (b ∷ c ∷ bs) = nat_eq b 101 && list_all is_digit (c ∷ bs)

-- how much room an element takes: over its terms, the letters of the word and one more
abbrev pub algebra_cells : AlgebraElement → ℕ
algebra_cells r = sum_by (λ t. length t.0 + 1) r

abbrev pub element_cells : Element → ℕ
element_cells v = sum_by (λ t. word_length t.0 + 1) v

-- of all relators and submodule relations together
abbrev pub cells : Presentation → ℕ
cells P = sum_by algebra_cells (relators P) + sum_by element_cells P.submodule

-- two letters are neighbours, or one letter
abbrev pub AreBeside : ℕ → ℕ → Type 0
AreBeside x y = (x ≡ y) ⊎ (y ≡ x + 1) ⊎ (x ≡ y + 1)

-- A presentation that a text can say. Version 1 has neither weights nor balance; inverses are declared side by side; relations
-- of a balanced presentation are their own halves.
pub record IsValid (P : Presentation) : Type 0 where
  pub presentation : IsPresentation P
  pub version : (P.version ≡ 1) ⊎ (P.version ≡ 2)
  pub plain : P.version ≡ 1 → IsFalse P.is_balanced × All (λ w. w ≡ 1) P.weights
  pub names : All (λ name. IsTrue (is_name name) × IsFalse (is_rooted name)) P.names
  pub distinct : AllPairs ◌≢◌ P.names
  pub beside : (x y : ℕ) → slice_get P.inverses x ≡ Some (Some y) → AreBeside x y
  pub balanced : IsTrue P.is_balanced → All (λ r. IsAlgebraElementOf P.prime r (halved P.inverses r)) P.relations
  pub letters : length P.names ≤ most_letters
  pub generators : (0 < P.generators) × (P.generators ≤ most_generators)
  pub relation_count : length P.relations + length P.submodule ≤ most_relations
  pub relations : All (λ r. (length r ≤ most_terms) × (algebra_length r ≤ most_length)) P.relations
  pub submodule : All (λ q. (length q ≤ most_terms) × (element_length q ≤ most_length)) P.submodule
  pub cell_count : cells P ≤ most_cells
