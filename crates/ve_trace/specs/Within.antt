-- What tracing along the rows of an action table gives, where the product stays within the table's level.
use Rattle.std.specs.Prelude.{◌≡◌, ℕ, ◌<◌, ◌≤◌, List, All, length}
use Rattle.ve_theory.specs.Combinations.{unit, difference}
use Rattle.ve_theory.specs.Elements.{AlgebraElement, Element, element_times, word_times}
use Rattle.ve_theory.specs.Presentations.{HasLetters, IsWord, due, element_reach}
use Rattle.ve_theory.specs.Derivations.{DerivedWithin}
use Rattle.ve_theory.specs.Answers.{Row, IsRow}
use Rattle.ve_vec.specs.Tracing.{PartialTable}
use Rattle.ve_table.specs.Tables.{ActionTable, presented, word_at, row_at, element_of}
use Rattle.ve_table.specs.Sound.{IsSound}

-- the vector stands for the element, but for what is derived within the level
abbrev pub StandsForElement : ActionTable → Element → Row → Type 0
StandsForElement T e v = DerivedWithin (presented T) T.level (difference (presented T).prime e (element_of T v))

-- the rows are those of a sound table over the field
pub record AreRowsOf (T : ActionTable) (p : ℕ) (rows : PartialTable) : Type 0 where
  pub sound : IsSound T
  pub field : (presented T).prime ≡ p
  pub same : (b x : ℕ) → rows b x ≡ row_at T b x

-- a product of a vector with letters
abbrev pub IsTracedWord : ActionTable → ℕ → PartialTable → Row → List ℕ → Row → Type 0
IsTracedWord T p rows start u v =
    let e = element_times (element_of T start) (unit u) in
    AreRowsOf T p rows → IsRow p (length T.words) start → HasLetters (presented T) u → element_reach (presented T) e ≤ T.level
    → StandsForElement T e v × IsRow p (length T.words) v

-- a product of a word with a relator
abbrev pub IsTracedRelator : ActionTable → ℕ → PartialTable → ℕ → AlgebraElement → Row → Type 0
IsTracedRelator T p rows b r v =
    AreRowsOf T p rows → b < length T.words → All (λ t. HasLetters (presented T) t.0) r → due (presented T) (word_at T b) r ≤ T.level
    → StandsForElement T (word_times (word_at T b) r) v × IsRow p (length T.words) v

-- an element of the module
abbrev pub IsTracedRelation : ActionTable → ℕ → PartialTable → List Row → Element → Row → Type 0
IsTracedRelation T p rows images q v =
    AreRowsOf T p rows → images ≡ T.images → All (λ t. IsWord (presented T) t.0) q → element_reach (presented T) q ≤ T.level
    → StandsForElement T q v × IsRow p (length T.words) v
