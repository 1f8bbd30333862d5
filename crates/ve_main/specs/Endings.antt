-- How an enumeration ends.
use Rattle.std.specs.Prelude.{◌≡◌, ℕ}
use Rattle.ve_theory.specs.Levels.{IsFinishedAt, IsOutgrown}
use Rattle.ve_pres.specs.Drafts.{Draft}
use Rattle.ve_machine.specs.Finished.{IsPacked}
use Rattle.ve_main.specs.declared.enumeration.Ended.{Ended}
use Rattle.ve_main.specs.declared.enumeration.Ended.TheVariants.{Closed, Over, Memory}

abbrev pub EndsIn : Draft → ℕ → Ended → Type 0
EndsIn draft limit (Closed table) = (table.draft ≡ draft) × IsFinishedAt draft.presentation limit table.level × IsPacked table
EndsIn draft limit (Over level size) = IsOutgrown draft.presentation limit level size
EndsIn draft limit Memory = Unit {0}
