-- What was read so far, as the texts' definitions have it, and what becomes of it.
use Rattle.std.specs.Prelude.{◌≡◌, ◌⊎◌, ℕ, ◌<◌, ◌≤◌, Bool, cond, List, Some, None, Ok, Err, Result, MatchResult}
use Rattle.ve_theory.specs.Residues.{IsFieldPrime}
use Rattle.ve_theory.specs.Presentations.{Presentation, most_weight}
use Rattle.ve_formats.specs.PresentationLines as drafts
use Rattle.ve_formats.specs.PresentationLines.{Line, MayStand, Works, Declares, blank_draft}
use Rattle.ve_formats.specs.PresentationText.{Accepts, Refuses}
use Rattle.ve_pres.specs.Drafts as presentations
use Rattle.ve_pres.specs.Drafts.{IsOpen}
use Rattle.ve_read.specs.declared.building.Stage.{Stage}
use Rattle.ve_read.specs.declared.building.Stage.TheVariants.{Letters, Generators, Relations, End}
use Rattle.ve_read.specs.declared.building.Building.{Building}
use Rattle.ve_read.specs.declared.draft.Draft.{Draft}
use Rattle.ve_read.specs.declared.draft.Draft.TheVariants.{Blank, Versioned, Built}
use Rattle.ve_read.specs.declared.why.Why.{Why}
use Rattle.ve_read.specs.declared.why.Why.TheVariants.{WrongLine, BadPrime, BadWeight}
use Rattle.ve_read.specs.Refusals.{Tells}

abbrev pub stage_of : Stage → drafts.Stage
stage_of Letters = drafts.among_letters
stage_of Generators = drafts.after_generators
stage_of Relations = drafts.among_relations
stage_of End = drafts.after_end

abbrev pub version_of : Bool → ℕ
version_of has_weights = cond has_weights 2 1

abbrev pub versioned : Bool → drafts.Draft
versioned has_weights =
    record blank_draft { stage = drafts.after_version; presentation = record blank_draft.presentation { version = version_of has_weights } }

abbrev pub built_of : Building → drafts.Draft
built_of built = record { stage = stage_of built.stage; presentation = built.presentation.presentation; counted = built.counted }

abbrev pub draft_of : Draft → drafts.Draft
draft_of Blank = blank_draft
draft_of (Versioned has_weights) = versioned has_weights
draft_of (Built built) = built_of built

-- no relation stands before the lines of relations
abbrev pub IsOpenAt : Stage → presentations.Draft → Type 0
IsOpenAt Letters presentation = IsOpen presentation
IsOpenAt Generators presentation = IsOpen presentation
IsOpenAt Relations presentation = Unit {0}
IsOpenAt End presentation = Unit {0}

pub record IsBuilding (built : Building) : Type 0 where
  pub counted : built.presentation.counted ≡ built.counted
  pub open_ : IsOpenAt built.stage built.presentation

abbrev pub IsKept : Draft → Type 0
IsKept Blank = Unit {0}
IsKept (Versioned has_weights) = Unit {0}
IsKept (Built built) = IsBuilding built

-- what was built, where the draft is at such a stage
pub record IsStanding (AtStage : drafts.Stage → Type 0) (draft : drafts.Draft) (built : Building) : Type 0 where
  pub is : draft ≡ built_of built
  pub stage : AtStage (stage_of built.stage)
  pub kept : IsBuilding built

pub record IsStarted (has_weights : Bool) (prime : ℕ) (built : Building) : Type 0 where
  pub field : IsFieldPrime prime
  pub is : let draft = versioned has_weights in
      built_of built ≡ drafts.moved draft drafts.among_letters (record draft.presentation { prime = prime })
  pub kept : IsBuilding built

-- the line of the prime: the field of the prime, and nothing in it
abbrev pub Starts : Bool → ℕ → Result Building Why → Type 0
Starts has_weights prime result = MatchResult result (IsStarted has_weights prime) (λ why. (why ≡ BadPrime) × ¬ IsFieldPrime prime)

-- the weight of a declared letter, where it is in range
abbrev pub WeighsAs : drafts.Declared → Result ℕ Why → Type 0
WeighsAs x result = MatchResult result (λ weight. (weight ≡ drafts.weight_of x) × (0 < weight) × (weight ≤ most_weight))
    (λ why. (why ≡ BadWeight) × ((drafts.weight_of x ≡ 0) ⊎ (most_weight < drafts.weight_of x)))

-- the weight of a letter that may be declared, or why it may not
abbrev pub Judges : Presentation → drafts.Declared → Result ℕ Why → Type 0
Judges P x result =
    MatchResult result (λ weight. (weight ≡ drafts.weight_of x) × Declares P x None) (Tells (λ cause. Declares P x (Some cause)))

-- a line that may stand here takes the draft to the next
pub record IsTaken (draft : drafts.Draft) (line : Line) (next : Draft) : Type 0 where
  pub stands : MayStand draft line
  pub works : Works draft line (Ok (draft_of next))
  pub kept : IsKept next

-- a line that may not stand here, or has a fault of meaning
abbrev pub IsNotTaken : drafts.Draft → Line → Why → Type 0
IsNotTaken draft line why =
    ((why ≡ WrongLine) × ¬ MayStand draft line) ⊎ (MayStand draft line × Tells (λ cause. Works draft line (Err cause)) why)

abbrev pub Takes : drafts.Draft → Line → Result Draft Why → Type 0
Takes draft line result = MatchResult result (IsTaken draft line) (IsNotTaken draft line)

-- the same of a whole line
pub record IsAccepted (draft : drafts.Draft) (line : List ℕ) (next : Draft) : Type 0 where
  pub accepts : Accepts draft line (draft_of next)
  pub kept : IsKept next

abbrev pub TakesLine : drafts.Draft → List ℕ → Result Draft Why → Type 0
TakesLine draft line result = MatchResult result (IsAccepted draft line) (Tells (Refuses draft line))
