-- The reaches of all relations.
use Rattle.std.specs.Prelude.{◌≡◌, map}
use Rattle.ve_theory.specs.Presentations.{Presentation, relators, relator_reach, element_reach}
use Rattle.ve_table.specs.declared.reaches.Reaches.{Reaches}

-- those of the relators and of the submodule relations, by their numbers
pub record AreReaches (P : Presentation) (reaches : Reaches) : Type 0 where
  pub relators : reaches.relators.items ≡ map (relator_reach P) (relators P)
  pub submodule : reaches.submodule.items ≡ map (element_reach P) P.submodule
