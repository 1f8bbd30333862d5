-- Presentations of an algebra with a module over it.
use Rattle.std.specs.Prelude.{◌≡◌, ◌≢◌, ℕ, ◌+◌, ◌-◌, ◌<◌, ◌≤◌, max, Bool, List, [], ◌∷◌, ◌++◌, length, Option, Some, None, slice_get, slice_index_or, All}
use Rattle.ve_theory.specs.Residues.{IsFieldPrime}
use Rattle.ve_theory.specs.Combinations.{IsReduced}
use Rattle.ve_theory.specs.Words.{Word, start, letters, Shortlex, ShortlexLetters, letter_weight, word_weight, Weighted}
use Rattle.ve_theory.specs.Elements.{AlgebraElement, Element, algebra_weight, element_weight}

-- A presentation: an algebra over the field of `prime` elements, by letters and relations, and a right module over it, by
-- generators and submodule relations. Letters, generators and relations are numbered from 0.
pub record Presentation : Type 0 where
  pub version : ℕ
  pub is_balanced : Bool
  pub prime : ℕ
  -- the names of the letters, as bytes
  pub names : List (List ℕ)
  -- for each letter its inverse, if it has one
  pub inverses : List (Option ℕ)
  -- for each letter its weight
  pub weights : List ℕ
  -- how many generators the module has
  pub generators : ℕ
  -- the relations of the algebra beside those of the inverses, as elements that are to vanish
  pub relations : List AlgebraElement
  -- the submodule relations
  pub submodule : List Element

-- x*y - 1 for each letter x with an inverse y, in the order of the letters, which are numbered from `first`
unfoldable pub inverse_relators : (p first : ℕ) → List (Option ℕ) → List AlgebraElement
inverse_relators p x [] = []
inverse_relators p x (None ∷ rest) = inverse_relators p (x + 1) rest
inverse_relators p x (Some y ∷ rest) = ((x ∷ y ∷ [], 1) ∷ ([], p - 1) ∷ []) ∷ inverse_relators p (x + 1) rest

-- all relators: those of the inverses, then the others
abbrev pub relators : Presentation → List AlgebraElement
relators P = inverse_relators P.prime 0 P.inverses ++ P.relations

-- the relator of a number, and the submodule relation of a number
abbrev pub relator : Presentation → ℕ → AlgebraElement
relator P number = slice_index_or (relators P) number []

abbrev pub submodule_relation : Presentation → ℕ → Element
submodule_relation P number = slice_index_or P.submodule number []

-- how many letters there are
abbrev pub letter_count : Presentation → ℕ
letter_count P = length P.names

-- The reach of a letter, called its step, of a word and of elements is the weight. Levels are counted by it.
abbrev pub step : Presentation → ℕ → ℕ
step P x = letter_weight P.weights x

abbrev pub reach : Presentation → Word → ℕ
reach P w = word_weight P.weights w

abbrev pub relator_reach : Presentation → AlgebraElement → ℕ
relator_reach P r = algebra_weight P.weights r

abbrev pub element_reach : Presentation → Element → ℕ
element_reach P v = element_weight P.weights v

-- the order of words
abbrev pub before : Presentation → Word → Word → Type 0
before P v w = Weighted P.weights v w

-- the level at which a word and a relator meet
abbrev pub due : Presentation → Word → AlgebraElement → ℕ
due P w r = reach P w + relator_reach P r

unfoldable pub greatest_of : {X : Type 0} → (X → ℕ) → List X → ℕ
greatest_of size [] = 0
greatest_of size (x ∷ xs) = max (size x) (greatest_of size xs)

-- the greatest weight of a letter, and 1 where there is none
abbrev pub greatest_step : Presentation → ℕ
greatest_step P = max 1 (greatest_of (λ w. w) P.weights)

-- the larger of that and the greatest reach of a relator
abbrev pub relator_bound : Presentation → ℕ
relator_bound P = max (greatest_step P) (greatest_of (relator_reach P) (relators P))

-- the greatest reach of a submodule relation, and 0 where there is none
abbrev pub submodule_bound : Presentation → ℕ
submodule_bound P = greatest_of (element_reach P) P.submodule

-- the letters are the presentation's
abbrev pub HasLetters : Presentation → List ℕ → Type 0
HasLetters P u = All (λ x. x < letter_count P) u

-- the word is one of the presentation's free module
abbrev pub IsWord : Presentation → Word → Type 0
IsWord P w = (start w < P.generators) × HasLetters P (letters w)

-- the most that a letter may weigh
abbrev pub most_weight : ℕ
most_weight = 16

-- What holds of every presentation. Inverses are mutual; elements are lists of terms in strictly falling shortlex order over
-- the presentation's letters and generators, with residues other than 0 as coefficients; no relation is zero.
pub record IsPresentation (P : Presentation) : Type 0 where
  pub field : IsFieldPrime P.prime
  pub one_inverse_each : length P.inverses ≡ letter_count P
  pub one_weight_each : length P.weights ≡ letter_count P
  pub weights : All (λ w. (0 < w) × (w ≤ most_weight)) P.weights
  pub inverses : (x y : ℕ) → slice_get P.inverses x ≡ Some (Some y) → slice_get P.inverses y ≡ Some (Some x)
  pub relations : All (λ r. IsReduced ShortlexLetters P.prime r × All (λ t. HasLetters P t.0) r × (r ≢ [])) P.relations
  pub submodule : All (λ q. IsReduced Shortlex P.prime q × All (λ t. IsWord P t.0) q × (q ≢ [])) P.submodule
