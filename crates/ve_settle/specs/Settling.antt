-- Rows rewritten by forwards, and the resolved forms of a table's vectors.
use Rattle.std.specs.Prelude.{◌≡◌, ℕ, Bool, IsFalse, Some, [], ◌↔◌}
use Rattle.ve_theory.specs.Words.{Word}
use Rattle.ve_theory.specs.Answers.{Row}
use Rattle.ve_table.specs.Tables.{ActionTable, presented, row_at}
use Rattle.ve_table.specs.Sound.{IsSound, IsVectorOf, HasLiveIds}
use Rattle.ve_table.specs.Changes.{with_row}
use Rattle.ve_machine.specs.Forwards.{IsForwarding, IsResolved, IsRewritten}

-- the table where each dead id of a row was replaced by its forward, once, and whether the row had a dead id
pub record Rewrites (T : ActionTable) (b x : ℕ) (had : Bool) (new : ActionTable) : Type 0 where
  pub row : Row
  pub is_row : row_at T b x ≡ Some row
  pub next : Row
  pub rewritten : IsRewritten (presented T).prime T.forwards row next
  pub change : new ≡ with_row T b x next
  pub settled : IsFalse had ↔ HasLiveIds T row
  pub same : IsFalse had → new ≡ T

-- a vector has at most one resolved form
abbrev pub ResolutionsAreUnique : Type 0
ResolutionsAreUnique = (T : ActionTable) (v w x : Row) → IsSound T
    → IsResolved (presented T).prime T.forwards v w → IsResolved (presented T).prime T.forwards v x → w ≡ x

-- a vector is a combination of ids, each less what stands for it, exactly where its resolved form is zero
abbrev pub ForwardingsResolveToZero : Type 0
ForwardingsResolveToZero = (T : ActionTable) (v w : Row) → IsSound T
    → IsResolved (presented T).prime T.forwards v w → (IsForwarding (presented T).prime T.forwards v ↔ (w ≡ []))

-- the resolved form of a product's or a generator's vector is one too
abbrev pub ResolutionsKeepWords : Type 0
ResolutionsKeepWords = (T : ActionTable) (word : Word) (v w : Row) → IsSound T
    → IsVectorOf T word v → IsResolved (presented T).prime T.forwards v w → IsVectorOf T word w
