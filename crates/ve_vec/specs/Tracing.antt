-- Partial tables of vectors, and how vectors are multiplied along their rows.
use Rattle.std.specs.Prelude.{◌≡◌, ℕ, ◌<◌, List, [], ◌∷◌, Option, None, Some, slice_index_or, unwrap_or, nat_eq, All}
use Rattle.ve_theory.specs.Residues.{Congruent}
use Rattle.ve_theory.specs.Combinations.{Combination, coefficient, extended, IsReduced}
use Rattle.ve_theory.specs.Words.{Word, start, letters}
use Rattle.ve_theory.specs.Elements.{AlgebraElement, Element}

-- for each id and letter the vector of the product, where it is known
abbrev pub PartialTable : Type 0
PartialTable = ℕ → ℕ → Option (Combination ℕ)

-- the vector of a product, and zero where none is known
abbrev pub row_or_zero : PartialTable → ℕ → ℕ → Combination ℕ
row_or_zero rows x b = unwrap_or (rows b x) []

-- a vector times a letter, and times letters one after another
abbrev pub vector_times : PartialTable → Combination ℕ → ℕ → Combination ℕ
vector_times rows v x = extended (row_or_zero rows x) v

unfoldable pub vector_times_letters : PartialTable → Combination ℕ → List ℕ → Combination ℕ
vector_times_letters rows v [] = v
vector_times_letters rows v (x ∷ u) = vector_times_letters rows (vector_times rows v x) u

-- a vector times an element of the algebra, term by term
abbrev pub vector_times_element : PartialTable → Combination ℕ → AlgebraElement → Combination ℕ
vector_times_element rows v r = extended (vector_times_letters rows v) r

-- the vector of a word: its generator's times its letters; and of an element of the module
abbrev pub vector_of_word : PartialTable → List (Combination ℕ) → Word → Combination ℕ
vector_of_word rows images w = vector_times_letters rows (slice_index_or images (start w) []) (letters w)

abbrev pub vector_of : PartialTable → List (Combination ℕ) → Element → Combination ℕ
vector_of rows images q = extended (vector_of_word rows images) q

-- each vector has residues other than 0 as coefficients
abbrev pub AreReduced : ℕ → PartialTable → Type 0
AreReduced p rows = (b x : ℕ) (v : Combination ℕ) → rows b x ≡ Some v → IsReduced ◌<◌ p v

-- each id of the vector has a product with the letter: where none is known, the coefficient is 0
abbrev pub HasProducts : ℕ → PartialTable → Combination ℕ → ℕ → Type 0
HasProducts p rows v x = (b : ℕ) → rows b x ≡ None → Congruent p (coefficient nat_eq v b) 0

-- each id that is met on the way through the letters has a product with the next one
unfoldable pub CanTrace : ℕ → PartialTable → Combination ℕ → List ℕ → Type 0
CanTrace p rows v [] = Unit {0}
CanTrace p rows v (x ∷ u) = HasProducts p rows v x × CanTrace p rows (vector_times rows v x) u

abbrev pub CanTraceElement : ℕ → PartialTable → Combination ℕ → AlgebraElement → Type 0
CanTraceElement p rows v r = All (λ t. CanTrace p rows v t.0) r

abbrev pub CanTraceRelation : ℕ → PartialTable → List (Combination ℕ) → Element → Type 0
CanTraceRelation p rows images q = All (λ t. CanTrace p rows (slice_index_or images (start t.0) []) (letters t.0)) q
