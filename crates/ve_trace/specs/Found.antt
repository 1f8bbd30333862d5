-- What callers know where they trace: over a sound table, within its level.
use Rattle.std.specs.Prelude.{ℕ, ◌<◌, ◌≤◌, List, All, length, nat_eq}
use Rattle.ve_theory.specs.Combinations.{Combination, unit, Alike, IsReduced}
use Rattle.ve_theory.specs.Elements.{AlgebraElement, Element, element_times}
use Rattle.ve_theory.specs.Presentations.{Presentation, IsPresentation, HasLetters, IsWord, due, element_reach, relator, relators, submodule_relation}
use Rattle.ve_theory.specs.Answers.{Row, IsRow}
use Rattle.ve_vec.specs.Tracing.{PartialTable, AreReduced, CanTrace, CanTraceElement, CanTraceRelation, vector_times_letters}
use Rattle.ve_table.specs.Tables.{ActionTable, presented, word_at, element_of}
use Rattle.ve_trace.specs.Within.{AreRowsOf}

-- rows and images are reduced, and each row that a product within the level needs is there
pub record FindsProducts (T : ActionTable) (p : ℕ) (rows : PartialTable) : Type 0 where
  pub reduced_rows : AreReduced p rows
  pub reduced_images : All (IsReduced ◌<◌ p) T.images
  pub words : (start : Row) (u : List ℕ) → IsRow p (length T.words) start → HasLetters (presented T) u
      → element_reach (presented T) (element_times (element_of T start) (unit u)) ≤ T.level → CanTrace p rows start u
  pub elements : (b : ℕ) (r : AlgebraElement) → b < length T.words → All (λ t. HasLetters (presented T) t.0) r
      → due (presented T) (word_at T b) r ≤ T.level → CanTraceElement p rows (unit b) r
  pub relations : (q : Element) → All (λ t. IsWord (presented T) t.0) q → element_reach (presented T) q ≤ T.level → CanTraceRelation p rows T.images q

abbrev pub SoundTablesFindProducts : Type 0
SoundTablesFindProducts = (T : ActionTable) (p : ℕ) (rows : PartialTable) → AreRowsOf T p rows → FindsProducts T p rows

-- relators and submodule relations have letters, generators and residues of the presentation
pub record HasOwnRelations (P : Presentation) : Type 0 where
  pub letters : (number : ℕ) → number < length (relators P) → All (λ t. HasLetters P t.0) (relator P number)
  pub residues : (number : ℕ) → number < length (relators P) → All (λ t. t.1 < P.prime) (relator P number)
  pub submodule_words : (number : ℕ) → number < length P.submodule → All (λ t. IsWord P t.0) (submodule_relation P number)
  pub submodule_residues : (number : ℕ) → number < length P.submodule → All (λ t. t.1 < P.prime) (submodule_relation P number)

abbrev pub RelationsAreOwn : Type 0
RelationsAreOwn = (P : Presentation) → IsPresentation P → HasOwnRelations P

-- alike vectors times letters are alike, and one can be traced where the other can
abbrev pub AlikeVectorsTraceAlike : Type 0
AlikeVectorsTraceAlike =
    (p : ℕ) (rows : PartialTable) (v w : Combination ℕ) (u : List ℕ) → Alike nat_eq p v w
    → Alike nat_eq p (vector_times_letters rows v u) (vector_times_letters rows w u) × (CanTrace p rows v u → CanTrace p rows w u)
