-- Level 0, which has been opened, can be worked on.
use Rattle.std.proofs.Common.{ℕ, ◌≤◌, inl, refl, sym, subst}
use Rattle.ve_theory.specs.Levels.{HasSize, FitsLimit}
use Rattle.ve_pres.specs.Drafts.{Draft}
use Rattle.ve_levels.specs.Opening.{Opens}
use Rattle.ve_levels.specs.declared.opening.Opened.{Opened}
use Rattle.ve_levels.specs.declared.opening.Opened.TheVariants.{Open, Over, Memory}
use Rattle.ve_level_uses.specs.Working.{IsReady, StartsReady}

first_fits : (draft : Draft) (limit : ℕ) → draft.presentation.generators ≤ limit → FitsLimit draft.presentation limit 0
unfolding HasSize
first_fits draft limit small = (draft.presentation.generators, refl, small)

pub starts_ready : (draft : Draft) (limit : ℕ) (answer : Opened) → Opens draft limit answer → StartsReady limit answer
starts_ready draft limit (Open table) opens = subst (IsReady limit) (sym opens.0) (record { opening = inl refl; fits = first_fits draft limit opens.1 })
starts_ready draft limit (Over size) opens = tt
starts_ready draft limit Memory opens = tt
