-- The jobs of a level, their values, and what it is that nothing is left to do.
use Rattle.std.specs.Prelude.{◌≡◌, ℕ, ◌<◌, ◌++◌, length, Some, None, slice_get, nat_eq}
use Rattle.ve_theory.specs.Combinations.{scaled, difference, Alike}
use Rattle.ve_theory.specs.Elements.{Element, word_times}
use Rattle.ve_theory.specs.Presentations.{relators, relator, submodule_relation, element_reach, due}
use Rattle.ve_theory.specs.Answers.{Row}
use Rattle.ve_table.specs.Tables.{ActionTable, presented, word_at, row_at, IsDue}
use Rattle.ve_table.specs.Sound.{IsSound}
use Rattle.ve_machine.specs.Forwards.{Forwards, IsForwarding, image_difference}
use Rattle.ve_machine.specs.Known.{Known}

-- an id is live, or has this forward
abbrev pub IsLiveIn : Forwards → ℕ → Type 0
IsLiveIn forwards b = slice_get forwards b ≡ Some None

abbrev pub HasForward : Forwards → ℕ → Row → Type 0
HasForward forwards b f = slice_get forwards b ≡ Some (Some f)

-- a relator at a live id where the two reach the level; a submodule relation that reaches it; a dead id and a letter whose product
-- has a row
pub record IsRelatorJob (O : ActionTable) (forwards : Forwards) (b number : ℕ) : Type 0 where
  pub live : IsLiveIn forwards b
  pub is_relator : number < length (relators (presented O))
  pub due : due (presented O) (word_at O b) (relator (presented O) number) ≡ O.level

pub record IsSubmoduleJob (O : ActionTable) (number : ℕ) : Type 0 where
  pub is_relation : number < length (presented O).submodule
  pub due : element_reach (presented O) (submodule_relation (presented O) number) ≡ O.level

pub record IsImageJob (O : ActionTable) (forwards : Forwards) (b x : ℕ) : Type 0 where
  pub forward : Row
  pub dead : HasForward forwards b forward
  pub due : IsDue O b x

-- their values: the word times the relator, the submodule relation, and the row of the dead id less that of its forward
abbrev pub relator_value : ActionTable → ℕ → ℕ → Element
relator_value O b number = word_times (word_at O b) (relator (presented O) number)

abbrev pub submodule_value : ActionTable → ℕ → Element
submodule_value O number = submodule_relation (presented O) number

abbrev pub image_value : ActionTable → Forwards → ℕ → ℕ → Row
image_value O forwards b x = image_difference (presented O).prime (row_at O) forwards b x

-- combinations of forwards, and of the values of image jobs of dead ids below b at one letter
pub data IsKnownBelow (O : ActionTable) (forwards : Forwards) (b x : ℕ) : Row → Type 0 where
  by_forwards : (v : Row) → IsForwarding (presented O).prime forwards v → IsKnownBelow O forwards b x v
  by_lower : (c : ℕ) → c < b → IsImageJob O forwards c x → IsKnownBelow O forwards b x (image_value O forwards c x)
  alike : (u v : Row) → Alike nat_eq (presented O).prime u v → IsKnownBelow O forwards b x u → IsKnownBelow O forwards b x v
  combined : (c d : ℕ) (u v : Row) → IsKnownBelow O forwards b x u → IsKnownBelow O forwards b x v
      → IsKnownBelow O forwards b x (scaled c u ++ scaled d v)

-- Nothing is left to do: the value of each job is known.
pub record IsSettled (O : ActionTable) (forwards : Forwards) : Type 0 where
  pub relators : (b number : ℕ) → IsRelatorJob O forwards b number → Known O forwards (relator_value O b number)
  pub submodule : (number : ℕ) → IsSubmoduleJob O number → Known O forwards (submodule_value O number)
  pub images : (b x : ℕ) → IsImageJob O forwards b x → IsKnownBelow O forwards b x (image_value O forwards b x)

-- The table is the opening at work: ids have died, and each row differs from the opening's by forwards.
pub record IsUnderWay (O T : ActionTable) : Type 0 where
  pub draft : T.draft ≡ O.draft
  pub level : T.level ≡ O.level
  pub words : T.words ≡ O.words
  pub images : T.images ≡ O.images
  pub sound : IsSound T
  pub rows : (b x : ℕ) (u v : Row) → row_at O b x ≡ Some u → row_at T b x ≡ Some v
      → IsForwarding (presented O).prime T.forwards (difference (presented O).prime u v)
