-- The texts of presentations: what each spells, and where it is refused.
use Rattle.std.specs.Prelude.{◌≡◌, ◌≢◌, ℕ, ◌+◌, List, [], ◌∷◌, ◌++◌, length, map, Ok, Err, count_by, ◌<◌, Bool, false, nat_eq}
use Rattle.ve_theory.specs.Presentations.{Presentation}
use Rattle.ve_formats.specs.Lines.{lines_of}
use Rattle.ve_formats.specs.Tokens.{Token, name, number, symbol, Placed, Fault, Lexes, FailsToLex}
use Rattle.ve_formats.specs.Causes.{Cause, lexical, too_deep, wrong_line, missing_end, after_end}
use Rattle.ve_formats.specs.PresentationLines as drafts
use Rattle.ve_formats.specs.PresentationLines.{Draft, blank_draft, Line, SpellLine, MayStand, Works}

-- the tokens of a line, without their places
abbrev pub tokens_of : List Placed → List Token
tokens_of placed = map (λ p. p.token) placed

abbrev pub most_open : ℕ
most_open = 64

-- whether the token is this symbol
abbrev pub is_sign : ℕ → Token → Bool
is_sign b (name bytes) = false
is_sign b (number digits) = false
is_sign b (symbol c) = nat_eq b c

-- some tokens from the front have more parentheses open than may be
abbrev pub IsTooDeep : List Token → Type 0
IsTooDeep tokens =
    (front back : List Token) × (tokens ≡ front ++ back) × (count_by (is_sign 41) front + most_open < count_by (is_sign 40) front)

-- a line that is accepted takes a draft to the next
pub data Accepts (draft : Draft) (line : List ℕ) : Draft → Type 0 where
  blank : Lexes 0 line [] → Accepts draft line draft
  taken : {placed : List Placed} {form : Line} {next : Draft} → draft.stage ≢ drafts.after_end → Lexes 0 line placed → ¬ IsTooDeep (tokens_of placed)
      → SpellLine (tokens_of placed) form → MayStand draft form → Works draft form (Ok next) → Accepts draft line next

-- a line that is refused, with its first fault
pub data Refuses (draft : Draft) (line : List ℕ) : Cause → Type 0 where
  behind_end : {placed : List Placed} → draft.stage ≡ drafts.after_end → Lexes 0 line placed → placed ≢ [] → Refuses draft line after_end
  faulty_behind_end : {fault : Fault} → draft.stage ≡ drafts.after_end → FailsToLex 0 line fault → Refuses draft line after_end
  faulty : {fault : Fault} → draft.stage ≢ drafts.after_end → FailsToLex 0 line fault → Refuses draft line (lexical fault)
  deep : {placed : List Placed} → draft.stage ≢ drafts.after_end → Lexes 0 line placed → IsTooDeep (tokens_of placed) → Refuses draft line too_deep
  formless : {placed : List Placed} → draft.stage ≢ drafts.after_end → Lexes 0 line placed → placed ≢ [] → ¬ IsTooDeep (tokens_of placed)
      → ((form : Line) → SpellLine (tokens_of placed) form → ¬ MayStand draft form) → Refuses draft line wrong_line
  meaningless : {placed : List Placed} {form : Line} {cause : Cause} → draft.stage ≢ drafts.after_end → Lexes 0 line placed → ¬ IsTooDeep (tokens_of placed)
      → SpellLine (tokens_of placed) form → MayStand draft form → Works draft form (Err cause) → Refuses draft line cause

-- lines that are accepted one after another
pub data AcceptsAll : Draft → List (List ℕ) → Draft → Type 0 where
  none : {draft : Draft} → AcceptsAll draft [] draft
  one : {draft next last : Draft} {line : List ℕ} {lines : List (List ℕ)} → Accepts draft line next → AcceptsAll next lines last → AcceptsAll draft (line ∷ lines) last

-- the text spells the presentation
pub record Spells (text : List ℕ) (P : Presentation) : Type 0 where
  pub last : Draft
  pub lines : AcceptsAll blank_draft (lines_of text) last
  pub ended : last.stage ≡ drafts.after_end
  pub presentation : last.presentation ≡ P

-- the text is refused at a line, counted from 1, for a cause
pub data IsRefusedAt (text : List ℕ) : ℕ → Cause → Type 0 where
  at_line : {front : List (List ℕ)} (back : List (List ℕ)) {line : List ℕ} {draft : Draft} {cause : Cause} → lines_of text ≡ front ++ line ∷ back
      → AcceptsAll blank_draft front draft → Refuses draft line cause → IsRefusedAt text (length front + 1) cause
  without_end : {last : Draft} → AcceptsAll blank_draft (lines_of text) last → last.stage ≢ drafts.after_end → IsRefusedAt text (length (lines_of text) + 1) missing_end
