-- What doesn't vanish first where the relations of a presentation are looked at on an answer.
use Rattle.std.specs.Prelude.{ℕ, ◌<◌, length}
use Rattle.ve_theory.specs.Presentations.{Presentation, relators}
use Rattle.ve_theory.specs.Answers.{Action, HaveOwnRowsBelow, RelatorVanishes, RelatorsVanishBelow, SubmoduleVanishesBelow, dimension}

-- all relators vanish; all submodule relations do; all basis words have their own rows
abbrev pub RelatorsVanish : Presentation → Action → Type 0
RelatorsVanish P A = RelatorsVanishBelow P A (length (relators P))

abbrev pub SubmoduleRelationsVanish : Presentation → Action → Type 0
SubmoduleRelationsVanish P A = SubmoduleVanishesBelow P A (length P.submodule)

abbrev pub HaveOwnRows : Presentation → Action → Type 0
HaveOwnRows P A = HaveOwnRowsBelow P A (dimension A)

-- the relator vanishes on the basis rows below a place, and on all of them
abbrev pub VanishesOnRowsBelow : Presentation → Action → (number place : ℕ) → Type 0
VanishesOnRowsBelow P A number place = (row : ℕ) → row < place → RelatorVanishes P A number row

abbrev pub VanishesOnRows : Presentation → Action → (number : ℕ) → Type 0
VanishesOnRows P A number = VanishesOnRowsBelow P A number (dimension A)

-- this row is the first on which the relator doesn't vanish
pub record IsFirstRow (P : Presentation) (A : Action) (number row : ℕ) : Type 0 where
  pub exists : row < dimension A
  pub earlier : VanishesOnRowsBelow P A number row
  pub fails : ¬ RelatorVanishes P A number row
