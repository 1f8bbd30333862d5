-- Kinds of commands, and the texts that they write.
use Rattle.std.specs.Prelude.{◌≡◌, ℕ, ◌⊎◌, Bool, cond, List}
use Rattle.ve_theory.specs.Presentations.{Presentation}
use Rattle.ve_theory.specs.Levels.{IsFinishedAt, IsOutgrown}
use Rattle.ve_theory.specs.Answers.{Answer, IsAnswer}
use Rattle.ve_theory.specs.Laws.{DecidesModule}
use Rattle.ve_formats.specs.CanonicalText.{canonical}
use Rattle.ve_formats.specs.AnswerText.{answer_text}
use Rattle.ve_formats.specs.SummaryText.{summary_text}
use Rattle.ve_formats.specs.OutgrownText.{outgrown_text}
use Rattle.ve_make.specs.Symmetric.{IsMade, symmetric_presentation}
use Rattle.ve_words.specs.declared.command.Command.{Command}
use Rattle.ve_words.specs.declared.command.Command.TheVariants.{Alone, Shared, Show, Check, Make}

-- ---- kinds of commands

-- the command reads a text
abbrev pub IsReading : Command → Type 0
IsReading (Alone limit summary) = Unit {0}
IsReading (Shared workers limit summary) = Unit {0}
IsReading Show = Unit {0}
IsReading Check = Unit {0}
IsReading (Make points node prime) = ⊥

-- the command enumerates the presented module within this limit
abbrev pub HasLimit : Command → ℕ → Type 0
HasLimit (Alone limit summary) bound = bound ≡ limit
HasLimit (Shared workers limit summary) bound = bound ≡ limit
HasLimit Show bound = ⊥
HasLimit Check bound = ⊥
HasLimit (Make points node prime) bound = ⊥

abbrev pub IsShowing : Command → Type 0
IsShowing (Alone limit summary) = ⊥
IsShowing (Shared workers limit summary) = ⊥
IsShowing Show = Unit {0}
IsShowing Check = ⊥
IsShowing (Make points node prime) = ⊥

abbrev pub IsChecking : Command → Type 0
IsChecking (Alone limit summary) = ⊥
IsChecking (Shared workers limit summary) = ⊥
IsChecking Show = ⊥
IsChecking Check = Unit {0}
IsChecking (Make points node prime) = ⊥

-- the command makes a presentation from numbers for which there is one, and from others
abbrev pub CanMake : Command → Type 0
CanMake (Alone limit summary) = ⊥
CanMake (Shared workers limit summary) = ⊥
CanMake Show = ⊥
CanMake Check = ⊥
CanMake (Make points node prime) = IsMade points node prime

abbrev pub CannotMake : Command → Type 0
CannotMake (Alone limit summary) = ⊥
CannotMake (Shared workers limit summary) = ⊥
CannotMake Show = ⊥
CannotMake Check = ⊥
CannotMake (Make points node prime) = ¬ IsMade points node prime

-- ---- the texts

-- Some level is the closing level, it and all before it fit the limit, and the text is that of the presentation's answer, or its
-- summary. In the answer an element evaluates to zero exactly where the relations derive it.
pub record IsAnswerText (P : Presentation) (limit : ℕ) (summary : Bool) (text : List ℕ) : Type 0 where
  pub answer : Answer
  pub finished : IsFinishedAt P limit answer.closed
  pub is_answer : IsAnswer P answer
  pub decides : DecidesModule P answer.action
  pub is_text : text ≡ cond summary (summary_text answer) (answer_text answer)

-- A level is outgrown by the limit, and the text tells it.
pub record IsOverText (P : Presentation) (limit : ℕ) (text : List ℕ) : Type 0 where
  pub level : ℕ
  pub size : ℕ
  pub outgrown : IsOutgrown P limit level size
  pub is_text : text ≡ outgrown_text level size limit

-- how an enumeration ends: its status and its text
abbrev pub Enumerates : Presentation → ℕ → Bool → ℕ → List ℕ → Type 0
Enumerates P limit summary status text = ((status ≡ 0) × IsAnswerText P limit summary text) ⊎ ((status ≡ 1) × IsOverText P limit text)

-- the presentation is shown
abbrev pub Shows : Presentation → ℕ → List ℕ → Type 0
Shows P status text = (status ≡ 0) × (text ≡ canonical P)

-- the presentation that these numbers have is shown
abbrev pub ShowsMade : (points node prime : ℕ) → ℕ → List ℕ → Type 0
ShowsMade points node prime status text = IsMade points node prime × Shows (symmetric_presentation points node prime) status text
