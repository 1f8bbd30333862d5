-- What holds of the definitions. Each law is the contract of the function of its name.
use Rattle.std.specs.Prelude.{◌≡◌, ℕ, ◌+◌, ◌*◌, ◌<◌, ◌≤◌, ◌⊎◌, ◌↔◌, Bool, List, [], ◌∷◌, ◌++◌, length, All, AllPairs, Contains, nat_eq}
use Rattle.ve_theory.specs.Residues.{IsFieldPrime, Congruent}
use Rattle.ve_theory.specs.Combinations.{Combination, unit, scaled, extended, coefficient, Alike, IsReduced}
use Rattle.ve_theory.specs.Words.{Word, generator, times, times_all, same_word, same_letters, Shortlex, ShortlexLetters, Weighted}
use Rattle.ve_theory.specs.Elements.{AlgebraElement, Element, product, word_times, element_times, times_letter, halved, IsAlgebraElementOf}
use Rattle.ve_theory.specs.Presentations.{Presentation, IsPresentation, most_weight, IsWord, letter_count, relators, relator, submodule_relation, step, reach, relator_reach, element_reach, due, before, greatest_step, relator_bound, submodule_bound}
use Rattle.ve_theory.specs.Derivations.{Derived, DerivedWithin, Within}
use Rattle.ve_theory.specs.Levels.{IsNormal, IsLeast, Lists, HasSize, Closes, IsClosingLevel, IsOutgrown, IsFinishedAt}
use Rattle.ve_theory.specs.Answers.{Row, Action, Answer, HasShape, HasPlacedRows, IsGrown, HasDerivedRows, IsOrdered, IsModuleAnswer, IsAnswer, IsQuotient, MeetsRelations, basis_word, dimension, image_row, matrix_row, evaluation, IsZeroRow, AreSameRows}
use Rattle.ve_theory.specs.FinishedLevels.{IsFinishedLevel}
use Rattle.ve_theory.specs.Validity.{most_length, IsValid}

-- residues

-- each residue other than 0 has an inverse
abbrev pub HasInverses : Type 0
HasInverses = (p a : ℕ) → IsFieldPrime p → 0 < a → a < p → (b : ℕ) × (b < p) × Congruent p (a * b) 1

-- reach and order

-- a word without letters has reach 0; a letter adds its step
abbrev pub ReachAddsUp : Type 0
ReachAddsUp = (P : Presentation) → ((i : ℕ) → reach P (generator i) ≡ 0) × ((w : Word) (x : ℕ) → reach P (times w x) ≡ reach P w + step P x)

-- steps are positive, and no step or relator reaches further than the bound of relators, no submodule relation further than its bound
pub record HasBounds (P : Presentation) : Type 0 where
  pub positive : (x : ℕ) → 0 < step P x
  pub steps : (x : ℕ) → step P x ≤ greatest_step P
  pub greatest : greatest_step P ≤ relator_bound P
  pub relators : (number : ℕ) → relator_reach P (relator P number) ≤ relator_bound P
  pub submodule : (number : ℕ) → element_reach P (submodule_relation P number) ≤ submodule_bound P

abbrev pub ReachesAreBounded : Type 0
ReachesAreBounded = (P : Presentation) → IsPresentation P → HasBounds P

-- words of a valid presentation have at most 1,000 letters, and letters weigh at most 16
pub record HasSmallReaches (P : Presentation) : Type 0 where
  pub steps : greatest_step P ≤ most_weight
  pub relators : relator_bound P ≤ most_weight * most_length
  pub submodule : submodule_bound P ≤ most_weight * most_length

abbrev pub ValidReachesAreSmall : Type 0
ValidReachesAreSmall = (P : Presentation) → IsValid P → HasSmallReaches P

-- a strict total order, in which a word of smaller reach comes first
pub record IsTotalOrder (P : Presentation) : Type 0 where
  pub irreflexive : (v : Word) → ¬ before P v v
  pub transitive : (u v w : Word) → before P u v → before P v w → before P u w
  pub total : (v w : Word) → before P v w ⊎ (v ≡ w) ⊎ before P w v
  pub by_reach : (v w : Word) → reach P v < reach P w → before P v w

abbrev pub WordsAreOrdered : Type 0
WordsAreOrdered = (P : Presentation) → IsPresentation P → IsTotalOrder P

-- a letter on the right keeps the order
abbrev pub LettersKeepOrder : Type 0
LettersKeepOrder = (P : Presentation) (v w : Word) (x : ℕ) → before P v w → before P (times v x) (times w x)

-- only finitely many words are before a word
abbrev pub FinitelyManyBefore : Type 0
FinitelyManyBefore = (P : Presentation) (w : Word) → IsPresentation P → (ws : List Word) × ((v : Word) → IsWord P v → before P v w → Contains ws v)

-- with equal weights the weighted order is shortlex
abbrev pub EqualWeightsAreShortlex : Type 0
EqualWeightsAreShortlex = (weights : List ℕ) (v w : Word) → All (λ s. s ≡ 1) weights → (Weighted weights v w ↔ Shortlex v w)

-- elements

-- a sum adds coefficients, a scaling multiplies them
pub record AddsCoefficients {K : Type 0} (same : K → K → Bool) : Type 0 where
  pub sums : (u v : Combination K) (k : K) → coefficient same (u ++ v) k ≡ coefficient same u k + coefficient same v k
  pub scalings : (c : ℕ) (v : Combination K) (k : K) → coefficient same (scaled c v) k ≡ c * coefficient same v k

-- for words, lists of letters and places
pub record SumsAddCoefficients : Type 0 where
  pub elements : AddsCoefficients same_word
  pub algebra : AddsCoefficients same_letters
  pub rows : AddsCoefficients nat_eq

-- Replacing keys by sums respects alike sums, joined sums, scalings, and replacing twice.
pub record ExtendsSums {J K : Type 0} (same_source : J → J → Bool) (same : K → K → Bool) : Type 0 where
  pub alike : (p : ℕ) (f : J → Combination K) (u v : Combination J) → Alike same_source p u v → Alike same p (extended f u) (extended f v)
  pub values : (p : ℕ) (f g : J → Combination K) (v : Combination J) → All (λ t. Alike same p (f t.0) (g t.0)) v → Alike same p (extended f v) (extended g v)
  pub sums : (p : ℕ) (f : J → Combination K) (u v : Combination J) → Alike same p (extended f (u ++ v)) (extended f u ++ extended f v)
  pub scalings : (p c : ℕ) (f : J → Combination K) (v : Combination J) → Alike same p (extended f (scaled c v)) (scaled c (extended f v))
  pub units : (p : ℕ) (f : J → Combination K) (j : J) → Alike same p (extended f (unit j)) (f j)
  pub nested : (p : ℕ) (f : J → Combination K) (g : ℕ → Combination J) (v : Row) → Alike same p (extended f (extended g v)) (extended (λ j. extended f (g j)) v)

-- for places and words
pub record SumsExtend : Type 0 where
  pub rows : ExtendsSums nat_eq nat_eq
  pub row_elements : ExtendsSums nat_eq same_word
  pub element_rows : ExtendsSums same_word nat_eq
  pub elements : ExtendsSums same_word same_word

-- A product by elements of the algebra is alike for alike factors, linear in both, and joins single keys. This determines it up
-- to alike sums, modulo each p.
pub record IsBilinear {K : Type 0} (same : K → K → Bool) (joined : K → List ℕ → K) (multiply : Combination K → AlgebraElement → Combination K) : Type 0 where
  pub alike : (p : ℕ) (u v : Combination K) (r s : AlgebraElement) → Alike same p u v → Alike same_letters p r s → Alike same p (multiply u r) (multiply v s)
  pub left_sums : (p : ℕ) (u v : Combination K) (r : AlgebraElement) → Alike same p (multiply (u ++ v) r) (multiply u r ++ multiply v r)
  pub right_sums : (p : ℕ) (u : Combination K) (r s : AlgebraElement) → Alike same p (multiply u (r ++ s)) (multiply u r ++ multiply u s)
  pub left_scalings : (p c : ℕ) (u : Combination K) (r : AlgebraElement) → Alike same p (multiply (scaled c u) r) (scaled c (multiply u r))
  pub right_scalings : (p c : ℕ) (u : Combination K) (r : AlgebraElement) → Alike same p (multiply u (scaled c r)) (scaled c (multiply u r))
  pub units : (p : ℕ) (a : K) (b : List ℕ) → Alike same p (multiply (unit a) (unit b)) (unit (joined a b))

-- products in the algebra, and of module elements by elements of the algebra; a module element times a letter, and a word times
-- an element of the algebra, are such products
pub record ProductsAreBilinear : Type 0 where
  pub algebra : IsBilinear same_letters ◌++◌ product
  pub elements : IsBilinear same_word times_all element_times
  pub by_letter : (p : ℕ) (v : Element) (x : ℕ) → Alike same_word p (times_letter v x) (element_times v (unit (x ∷ [])))
  pub of_word : (p : ℕ) (w : Word) (r : AlgebraElement) → Alike same_word p (word_times w r) (element_times (unit w) r)

-- there is one reduced list of terms for a sum
pub record ReducedListsAreUnique : Type 0 where
  pub elements : (p : ℕ) (u v : Element) → IsReduced Shortlex p u → IsReduced Shortlex p v → Alike same_word p u v → u ≡ v
  pub algebra : (p : ℕ) (u v : AlgebraElement) → IsReduced ShortlexLetters p u → IsReduced ShortlexLetters p v → Alike same_letters p u v → u ≡ v
  pub rows : (p : ℕ) (u v : Row) → IsReduced ◌<◌ p u → IsReduced ◌<◌ p v → Alike nat_eq p u v → u ≡ v

-- derivations

-- what is derived within a level is derived within each higher one, and derived; what is derived is derived within some level
pub record LevelsGrow : Type 0 where
  pub higher : (P : Presentation) (j k : ℕ) (v : Element) → j ≤ k → DerivedWithin P j v → DerivedWithin P k v
  pub derived : (P : Presentation) (k : ℕ) (v : Element) → DerivedWithin P k v → Derived P v
  pub some_level : (P : Presentation) (v : Element) → Derived P v → (k : ℕ) × DerivedWithin P k v

-- Within a level the derived elements are closed under sums, scalings and letters, as long as the product stays within it. So
-- are words times relators, and submodule relations.
pub record IsClosedWithin (P : Presentation) (k : ℕ) : Type 0 where
  pub alike : (u v : Element) → Alike same_word P.prime u v → DerivedWithin P k u → DerivedWithin P k v
  pub empty : DerivedWithin P k []
  pub combined : (c d : ℕ) (u v : Element) → DerivedWithin P k u → DerivedWithin P k v → DerivedWithin P k (scaled c u ++ scaled d v)
  pub letters : (v : Element) (x : ℕ) → x < letter_count P → Within P k (times_letter v x) → DerivedWithin P k v → DerivedWithin P k (times_letter v x)
  pub by_relators : (w : Word) (number : ℕ) → IsWord P w → number < length (relators P) → due P w (relator P number) ≤ k
      → DerivedWithin P k (word_times w (relator P number))
  pub by_submodule : (number : ℕ) → number < length P.submodule → element_reach P (submodule_relation P number) ≤ k
      → DerivedWithin P k (submodule_relation P number)

abbrev pub LevelsAreClosed : Type 0
LevelsAreClosed = (P : Presentation) (k : ℕ) → IsClosedWithin P k

-- each word of the element is one of the presentation's
abbrev pub IsElement : Presentation → Element → Type 0
IsElement P v = All (λ t. IsWord P t.0) v

-- quotients

-- an action that meets the relations is one of the presented module
abbrev pub RelationsMakeQuotients : Type 0
RelationsMakeQuotients = (P : Presentation) (A : Answer) → IsPresentation P → HasShape P A → HasPlacedRows P A.action → MeetsRelations P A.action → IsQuotient P A

-- where moreover its rows are derived, an element is derived exactly where it evaluates to zero
abbrev pub DerivedExactlyWhereZero : Type 0
DerivedExactlyWhereZero =
    (P : Presentation) (A : Action) → IsPresentation P → HasPlacedRows P A → MeetsRelations P A → HasDerivedRows P A
    → (v : Element) → IsElement P v → (Derived P v ↔ IsZeroRow P.prime (evaluation A v))

-- where moreover they are ordered, and the basis has words of the presentation, the basis lists the least words
abbrev pub OrderedBasisIsLeast : Type 0
OrderedBasisIsLeast =
    (P : Presentation) (A : Action) → IsPresentation P → MeetsRelations P A → HasDerivedRows P A → IsOrdered P A
    → All (IsWord P) A.basis → Lists P (IsLeast P) A.basis

-- The module's answer meets the relations, and an element is derived exactly where it evaluates to zero.
pub record DecidesModule (P : Presentation) (A : Action) : Type 0 where
  pub meets : MeetsRelations P A
  pub kernel : (v : Element) → IsElement P v → (Derived P v ↔ IsZeroRow P.prime (evaluation A v))

abbrev pub AnswersDecide : Type 0
AnswersDecide = (P : Presentation) (A : Answer) → IsPresentation P → IsModuleAnswer P A → DecidesModule P A.action

-- levels

-- each word of the element is one of the presentation's, of reach at most k
abbrev pub IsElementUpTo : Presentation → ℕ → Element → Type 0
IsElementUpTo P k v = All (λ t. IsWord P t.0 × (reach P t.0 ≤ k)) v

-- The words of a finished level are the normal ones, each of them a generator or an earlier one times a letter. A combination of
-- words of reach at most k is derived within k exactly where it evaluates to zero.
pub record SettlesLevel (P : Presentation) (k : ℕ) (A : Action) : Type 0 where
  pub normal : Lists P (IsNormal P k) A.basis
  pub grown : IsGrown A.basis
  pub kernel : (v : Element) → IsElementUpTo P k v → (DerivedWithin P k v ↔ IsZeroRow P.prime (evaluation A v))

abbrev pub FinishedLevelsSettle : Type 0
FinishedLevelsSettle = (P : Presentation) (k : ℕ) (A : Action) → IsPresentation P → IsFinishedLevel P k A → SettlesLevel P k A

-- At a level that closes, the words of a finished level are the least words of the module, each of them a generator or an
-- earlier one times a letter, and it has the module's kernel.
pub record SettlesModule (P : Presentation) (A : Action) : Type 0 where
  pub least : Lists P (IsLeast P) A.basis
  pub grown : IsGrown A.basis
  pub kernel : (v : Element) → IsElement P v → (Derived P v ↔ IsZeroRow P.prime (evaluation A v))
  pub meets : MeetsRelations P A
  pub rows : HasDerivedRows P A
  pub ordered : IsOrdered P A

abbrev pub ClosingLevelsSettle : Type 0
ClosingLevelsSettle = (P : Presentation) (k : ℕ) (A : Action) → IsPresentation P → IsFinishedLevel P k A → Closes P k → SettlesModule P A

-- uniqueness

-- two actions have one basis, and the same rows wherever level k has them
pub record AreSameLevels (P : Presentation) (k : ℕ) (A B : Action) : Type 0 where
  pub basis : A.basis ≡ B.basis
  pub images : (i : ℕ) → i < P.generators → AreSameRows P.prime (image_row A i) (image_row B i)
  pub matrices : (x j : ℕ) → x < letter_count P → j < dimension A → reach P (basis_word A j) + step P x ≤ k
      → AreSameRows P.prime (matrix_row A x j) (matrix_row B x j)

abbrev pub FinishedLevelsAreUnique : Type 0
FinishedLevelsAreUnique =
    (P : Presentation) (k : ℕ) (A B : Action) → IsPresentation P → IsFinishedLevel P k A → IsFinishedLevel P k B → AreSameLevels P k A B

pub record ListsAreUnique : Type 0 where
  pub of_words : (P : Presentation) (us vs : List Word) → IsPresentation P → AllPairs (before P) us → AllPairs (before P) vs
      → ((w : Word) → Contains us w ↔ Contains vs w) → us ≡ vs
  pub sizes : (P : Presentation) (k m n : ℕ) → IsPresentation P → HasSize P k m → HasSize P k n → m ≡ n
  pub closing_levels : (P : Presentation) (j k : ℕ) → IsClosingLevel P j → IsClosingLevel P k → j ≡ k
  pub module_answers : (P : Presentation) (A B : Answer) → IsPresentation P → IsModuleAnswer P A → IsModuleAnswer P B → A ≡ record B { closed = A.closed }
  pub answers : (P : Presentation) (A B : Answer) → IsPresentation P → IsAnswer P A → IsAnswer P B → A ≡ B

-- An enumeration ends in one way alone: outgrown at one level of one size, or finished.
pub record EndingsExclude : Type 0 where
  pub outgrown_once : (P : Presentation) (limit j k m n : ℕ) → IsPresentation P → IsOutgrown P limit j m → IsOutgrown P limit k n → (j ≡ k) × (m ≡ n)
  pub not_both : (P : Presentation) (limit j k n : ℕ) → IsPresentation P → IsFinishedAt P limit j → ¬ IsOutgrown P limit k n

-- the bound on levels: one that has at most `limit` words, and does not close, is not far up
abbrev pub OpenLevelsAreBounded : Type 0
OpenLevelsAreBounded =
    (P : Presentation) (k n limit : ℕ) → IsPresentation P → HasSize P k n → n ≤ limit → ¬ Closes P k
    → (k < submodule_bound P) ⊎ (k < greatest_step P * limit + relator_bound P)

-- balance

-- the halves of relations, without those that are zero
pub data AreHalvesOf (p : ℕ) (P : Presentation) : List AlgebraElement → List AlgebraElement → Type 0 where
  none : AreHalvesOf p P [] []
  kept : (r h : AlgebraElement) (rs hs : List AlgebraElement) → IsAlgebraElementOf p h (halved P.inverses r) → AreHalvesOf p P rs hs → AreHalvesOf p P (r ∷ rs) (h ∷ hs)
  dropped : (r : AlgebraElement) (rs hs : List AlgebraElement) → IsAlgebraElementOf p [] (halved P.inverses r) → AreHalvesOf p P rs hs → AreHalvesOf p P (r ∷ rs) hs

-- Q is P with halved relations
pub record IsBalanceOf (P Q : Presentation) : Type 0 where
  pub prime : Q.prime ≡ P.prime
  pub names : Q.names ≡ P.names
  pub inverses : Q.inverses ≡ P.inverses
  pub weights : Q.weights ≡ P.weights
  pub generators : Q.generators ≡ P.generators
  pub submodule : Q.submodule ≡ P.submodule
  pub relations : AreHalvesOf P.prime P P.relations Q.relations

-- the same elements are derived, and the module has the same answers, but for the closing level
pub record PresentOneModule (P Q : Presentation) : Type 0 where
  pub derived : (v : Element) → (Derived P v ↔ Derived Q v)
  pub answers : (A : Answer) → (IsModuleAnswer P A ↔ IsModuleAnswer Q A)

abbrev pub BalanceKeepsTheModule : Type 0
BalanceKeepsTheModule = (P Q : Presentation) → IsPresentation P → IsPresentation Q → IsBalanceOf P Q → PresentOneModule P Q
