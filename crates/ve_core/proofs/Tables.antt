-- The table of the state is the machine's.
use Rattle.std.proofs.Common.{◌≡◌, ℕ, refl, sym, ap, subst, ◌∙◌}
use Rattle.ve_theory.specs.Answers.{Row}
use Rattle.ve_table.specs.Tables.{ActionTable}
use Rattle.ve_table.specs.Changes.{with_forward, with_row}

-- all but forwards and rows is the opening's
abbrev pub IsAtWork : ActionTable → ActionTable → Type 0
IsAtWork O T = T ≡ record O { forwards = T.forwards; rows = T.rows }

pub at_work_on : (O T U : ActionTable) → IsAtWork O T → IsAtWork T U → IsAtWork O U
at_work_on O T U first second = second ∙ ap (λ (V : ActionTable). record V { forwards = U.forwards; rows = U.rows }) first

pub at_work_where_id_dies : (O T U : ActionTable) (b : ℕ) (f : Row) → IsAtWork O T → U ≡ with_forward T b f → IsAtWork O U
at_work_where_id_dies O T U b f first same = at_work_on O T U first (subst (IsAtWork T) (sym same) refl)

pub at_work_where_rewritten : (O T U : ActionTable) (b x : ℕ) (row : Row) → IsAtWork O T → U ≡ with_row T b x row → IsAtWork O U
at_work_where_rewritten O T U b x row first same = at_work_on O T U first (subst (IsAtWork T) (sym same) refl)

pub at_work_where_same : (O T U : ActionTable) → IsAtWork O T → U ≡ T → IsAtWork O U
at_work_where_same O T U first same = subst (IsAtWork O) (sym same) first
