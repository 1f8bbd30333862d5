-- What follows where a presentation's first table is opened.
use Rattle.std.specs.Prelude.{◌≡◌, ℕ, ◌<◌, ◌≤◌}
use Rattle.ve_pres.specs.Drafts.{Draft}
use Rattle.ve_table.specs.Changes.{opened}
use Rattle.ve_levels.specs.declared.opening.Opened.{Opened}
use Rattle.ve_levels.specs.declared.opening.Opened.TheVariants.{Open, Over, Memory}

-- level 0 has as many ids as there are generators
abbrev pub Opens : Draft → ℕ → Opened → Type 0
Opens draft limit (Open table) = (table ≡ opened draft) × (draft.presentation.generators ≤ limit)
Opens draft limit (Over size) = (size ≡ draft.presentation.generators) × (limit < size)
Opens draft limit Memory = Unit {0}
