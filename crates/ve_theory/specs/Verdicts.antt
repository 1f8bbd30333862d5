-- What a check of an answer says.
use Rattle.std.specs.Prelude.{ℕ, ◌<◌, length}
use Rattle.ve_theory.specs.Presentations.{Presentation, relators}
use Rattle.ve_theory.specs.Answers.{Answer, HasShape, MeetsRelations, RelatorVanishes, SubmoduleVanishes, HasOwnRow, RelatorsVanishBelow, SubmoduleVanishesBelow, HaveOwnRowsBelow, dimension}

-- the answer is a quotient of the presented module, or the first failure; numbers and rows from 0
pub data Verdict : Type 0 where
  is_quotient : Verdict
  shape_differs : Verdict
  relator_fails : (number row : ℕ) → Verdict
  submodule_fails : (number : ℕ) → Verdict
  basis_word_fails : (row : ℕ) → Verdict

-- the shape agrees, and this relator is the first that fails, at its first row
pub record RelatorFailsFirst (P : Presentation) (A : Answer) (number row : ℕ) : Type 0 where
  pub shape : HasShape P A
  pub exists : (number < length (relators P)) × (row < dimension A.action)
  pub earlier : RelatorsVanishBelow P A.action number
  pub earlier_rows : (i : ℕ) → i < row → RelatorVanishes P A.action number i
  pub fails : ¬ RelatorVanishes P A.action number row

-- the relators vanish, and this submodule relation is the first that fails
pub record SubmoduleFailsFirst (P : Presentation) (A : Answer) (number : ℕ) : Type 0 where
  pub shape : HasShape P A
  pub exists : number < length P.submodule
  pub relators_vanish : RelatorsVanishBelow P A.action (length (relators P))
  pub earlier : SubmoduleVanishesBelow P A.action number
  pub fails : ¬ SubmoduleVanishes P A.action number

-- all relations vanish, and this basis word is the first without its own row
pub record BasisWordFailsFirst (P : Presentation) (A : Answer) (row : ℕ) : Type 0 where
  pub shape : HasShape P A
  pub exists : row < dimension A.action
  pub relators_vanish : RelatorsVanishBelow P A.action (length (relators P))
  pub submodule_vanishes : SubmoduleVanishesBelow P A.action (length P.submodule)
  pub earlier : HaveOwnRowsBelow P A.action row
  pub fails : ¬ HasOwnRow P A.action row

-- the verdict names the first failure
unfoldable pub IsVerdict : Presentation → Answer → Verdict → Type 0
IsVerdict P A is_quotient = HasShape P A × MeetsRelations P A.action
IsVerdict P A shape_differs = ¬ HasShape P A
IsVerdict P A (relator_fails number row) = RelatorFailsFirst P A number row
IsVerdict P A (submodule_fails number) = SubmoduleFailsFirst P A number
IsVerdict P A (basis_word_fails row) = BasisWordFailsFirst P A row
