-- What is done to a table with a vector that vanishes.
use Rattle.std.specs.Prelude.{◌≡◌, ℕ, ◌↔◌, [], Option, IfSome, IsNone}
use Rattle.ve_theory.specs.Answers.{Row}
use Rattle.ve_table.specs.Tables.{ActionTable, presented}
use Rattle.ve_table.specs.Changes.{with_forward}
use Rattle.ve_machine.specs.Forwards.{IsDrawnFrom, IsResolved}

-- The vector without dead ids that v is equal to gave its greatest id a forward, unless it is zero.
pub record Imposes (T : ActionTable) (v : Row) (died : Option ℕ) (new : ActionTable) : Type 0 where
  pub resolved : Row
  pub is_resolved : IsResolved (presented T).prime T.forwards v resolved
  pub zero : IsNone died ↔ (resolved ≡ [])
  pub same : IsNone died → new ≡ T
  pub dead : IfSome died (λ id. (forward : Row) × IsDrawnFrom (presented T).prime resolved id forward × (new ≡ with_forward T id forward))
