-- How the work of a level goes on.
use Rattle.std.specs.Prelude.{◌≡◌, ℕ, ◌<◌, ◌⊎◌, List, Option, Contains, length, IfSome, IsNone}
use Rattle.ve_theory.specs.Elements.{Element}
use Rattle.ve_theory.specs.Presentations.{due, element_reach, relator, relators, submodule_relation}
use Rattle.ve_theory.specs.Answers.{Row}
use Rattle.ve_table.specs.Tables.{ActionTable, presented, word_at, IsDue, IsLive}
use Rattle.ve_table.specs.Sound.{IsSound}
use Rattle.ve_table.specs.Changes.{with_forward}
use Rattle.ve_machine.specs.Forwards.{Forwards, IsForwarding}
use Rattle.ve_machine.specs.Known.{Known}
use Rattle.ve_machine.specs.Jobs.{HasForward, IsLiveIn, IsUnderWay, image_value, relator_value, submodule_value}
use Rattle.ve_machine.specs.Finished.{IsOpening}
use Rattle.ve_plain.specs.SameLevel.{IsSameLevel}

-- T is at work on the level that O opens.
pub record IsAtWork (O T : ActionTable) : Type 0 where
  pub opening : IsOpening O
  pub sound : IsSound O
  pub under_way : IsUnderWay O T

-- A later table of the level. Dead ids stay dead, and what was known stays so.
pub record Continues (old new : ActionTable) : Type 0 where
  pub sound : IsSound new
  pub same_level : IsSameLevel old new
  pub dead : (b : ℕ) (f : Row) → HasForward old.forwards b f → HasForward new.forwards b f
  pub forwardings : (p : ℕ) (v : Row) → 0 < p → IsForwarding p old.forwards v → IsForwarding p new.forwards v
  pub known : (O : ActionTable) (v : Element) → 0 < (presented O).prime → Known O old.forwards v → Known O new.forwards v
  pub under_way : (O : ActionTable) → IsUnderWay O old → IsUnderWay O new

abbrev pub with_forwards : ActionTable → Forwards → ActionTable
with_forwards T forwards = record T { forwards = forwards }

-- A vector came to be a forwarding, by the death of a live id where one was needed.
pub record Vanishes (old : ActionTable) (v : Row) (died : Option ℕ) (new : ActionTable) : Type 0 where
  pub continues : Continues old new
  pub forwarding : IsForwarding (presented old).prime new.forwards v
  pub same : IsNone died → new ≡ old
  pub dead : IfSome died (λ id. IsLive old id × ((forward : Row) × (new ≡ with_forward old id forward)))

-- the image jobs of an id are done
abbrev pub HasImages : ActionTable → Forwards → ℕ → Type 0
HasImages O forwards b = (x : ℕ) → IsDue O b x → IsForwarding (presented O).prime forwards (image_value O forwards b x)

-- those of each dead id are, but for the ids that wait
abbrev pub HaveImagesBut : ActionTable → Forwards → List ℕ → Type 0
HaveImagesBut O forwards waiting = (b : ℕ) (f : Row) → HasForward forwards b f → Contains waiting b ⊎ HasImages O forwards b

-- the job of a relator at an id is done, those of all relators at an id, and those of submodule relations
abbrev pub KnowsRelator : ActionTable → Forwards → ℕ → ℕ → Type 0
KnowsRelator O forwards b number =
    IsLiveIn forwards b → due (presented O) (word_at O b) (relator (presented O) number) ≡ O.level → Known O forwards (relator_value O b number)

abbrev pub KnowsRelators : ActionTable → Forwards → ℕ → Type 0
KnowsRelators O forwards b = (number : ℕ) → number < length (relators (presented O)) → KnowsRelator O forwards b number

abbrev pub KnowsSubmodule : ActionTable → Forwards → ℕ → Type 0
KnowsSubmodule O forwards number = element_reach (presented O) (submodule_relation (presented O) number) ≡ O.level → Known O forwards (submodule_value O number)
