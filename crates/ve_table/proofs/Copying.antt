-- A table made of the same parts.
use Rattle.std.proofs.Common.{◌≡◌, ap, ◌∙◌}
use Rattle.ve_table.specs.Reaches.{AreReaches}
use Rattle.ve_table.specs.Kept.{table_of, IsKept}
use Rattle.ve_table.specs.declared.table.Table.TheInside.{Inside}
use Rattle.ve_table.specs.declared.reaches.Reaches.{Reaches}
use Rattle.ve_table.proofs.Entries.{tabled}

pub same_parts : (t u : Inside) → u.presentation ≡ t.presentation → u.level ≡ t.level → u.images.items ≡ t.images.items → u.bounds.items ≡ t.bounds.items → u.rows.items ≡ t.rows.items → u.forwards.items ≡ t.forwards.items → u.entries.items ≡ t.entries.items → table_of u ≡ table_of t
same_parts t u presentation level images bounds rows forwards entries =
    ap (λ draft. tabled draft u.level u.images.items u.bounds.items u.rows.items u.forwards.items u.entries.items) presentation
    ∙ ap (λ k. tabled t.presentation k u.images.items u.bounds.items u.rows.items u.forwards.items u.entries.items) level
    ∙ ap (λ l. tabled t.presentation t.level l u.bounds.items u.rows.items u.forwards.items u.entries.items) images
    ∙ ap (λ l. tabled t.presentation t.level t.images.items l u.rows.items u.forwards.items u.entries.items) bounds
    ∙ ap (λ l. tabled t.presentation t.level t.images.items t.bounds.items l u.forwards.items u.entries.items) rows
    ∙ ap (λ l. tabled t.presentation t.level t.images.items t.bounds.items t.rows.items l u.entries.items) forwards
    ∙ ap (tabled t.presentation t.level t.images.items t.bounds.items t.rows.items t.forwards.items) entries

-- the same reaches in another list
pub same_reaches : (t : Inside) → IsKept t → (reaches : Reaches) → reaches.relators.items ≡ t.reaches.relators.items → reaches.submodule.items ≡ t.reaches.submodule.items → AreReaches t.presentation.presentation reaches
same_reaches t kept reaches relators submodule = record { relators = relators ∙ kept.own_reaches.relators; submodule = submodule ∙ kept.own_reaches.submodule }
