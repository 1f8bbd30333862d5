-- Why a text was not read as an answer.
use Rattle.std.specs.Prelude.{ℕ, List}
use Rattle.ve_formats.specs.AnswerReading.{IsNoAnswerAt}
use Rattle.ve_answers.specs.declared.refusal.AnswerRefusal.{AnswerRefusal}
use Rattle.ve_answers.specs.declared.refusal.AnswerRefusal.TheVariants.{Line, Memory}

-- the line is the text's refused line; want of memory says nothing of the text
abbrev pub IsRefusal : List ℕ → AnswerRefusal → Type 0
IsRefusal text (Line line) = IsNoAnswerAt text line
IsRefusal text Memory = Unit {0}
