-- Reading from one line to the next.
use Rattle.std.specs.Prelude.{◌≡◌, ℕ, ◌+◌, ◌^◌, ◌<◌, List, ◌∷◌, ◌++◌, length}
use Rattle.ve_formats.specs.Lines.{lines_of}
use Rattle.ve_formats.specs.AnswerReading.{Draft, Place, FillAll, FailAt, opened}
use Rattle.ve_answers.specs.declared.lines.Lines.{Lines}
use Rattle.ve_answers.specs.declared.refusal.AnswerRefusal.{AnswerRefusal}
use Rattle.ve_answers.specs.declared.refusal.AnswerRefusal.TheVariants.{Line, Memory}

abbrev pub lines_left : Lines → List (List ℕ)
lines_left lines = lines_of lines.rest.now

-- the lines can be counted on to the end
abbrev pub IsCounted : Lines → Type 0
IsCounted lines = lines.taken + length lines.rest.now < 2 ^ 63

-- one line was taken
pub record TakesLine (old : Lines) (line : List ℕ) (new : Lines) : Type 0 where
  pub lines : lines_left old ≡ line ∷ lines_left new
  pub taken : new.taken ≡ old.taken + 1
  pub counted : IsCounted new

-- there is no line, or the next one isn't among these, which is told by its number
pub record RefusesNext (old : Lines) (Among : List ℕ → Type 0) (refusal : AnswerRefusal) : Type 0 where
  pub number : refusal ≡ Line (old.taken + 1)
  pub other : (line : List ℕ) (behind : List (List ℕ)) → lines_left old ≡ line ∷ behind → Among line → ⊥

-- With these places left, the line of this number is refused.
pub record IsRefusedAt (draft : Draft) (places : List Place) (lines : Lines) (number : ℕ) : Type 0 where
  pub behind : ℕ
  pub count : number ≡ lines.taken + behind
  pub fails : FailAt draft places (lines_left lines) behind

abbrev pub Refuses : Draft → List Place → Lines → AnswerRefusal → Type 0
Refuses draft places lines (Line line) = IsRefusedAt draft places lines line
Refuses draft places lines Memory = Unit {0}

-- The lines lead from a draft and the places that are left to others: what the rest is, the whole is.
pub record Leads (draft : Draft) (places : List Place) (old : Lines) (next : Draft) (left : List Place) (new : Lines) : Type 0 where
  pub filled : (last : Draft) → FillAll next left (lines_left new) last → FillAll draft places (lines_left old) last
  pub failed : (refusal : AnswerRefusal) → Refuses next left new refusal → Refuses draft places old refusal

-- one line fills the place and makes of each draft another; the next line is refused there
abbrev pub ReadsLine : Place → Lines → (Draft → Draft) → Lines → Type 0
ReadsLine place old next new = (draft : Draft) (left : List Place) → Leads draft (place ∷ left) old (next draft) (opened place (next draft) ++ left) new

abbrev pub RefusesLine : Place → Lines → AnswerRefusal → Type 0
RefusesLine place old refusal = (draft : Draft) (left : List Place) → Refuses draft (place ∷ left) old refusal
