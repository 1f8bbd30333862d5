-- Each line is accepted with one next draft, or refused for one cause.
use Rattle.std.proofs.Common.{◌≡◌, ℕ, ◌⊎◌, inl, inr, List, [], ◌∷◌, Result, Ok, Err, refl, ap, ◌∙◌, subst}
use Rattle.ve_theory.specs.Laws.{ReducedListsAreUnique}
use Rattle.ve_formats.specs.Tokens.{Token, Placed, Fault, Lexes, FailsToLex}
use Rattle.ve_formats.specs.Causes.{Cause, lexical, too_deep, wrong_line, missing_end}
use Rattle.ve_formats.specs.Causes as why
use Rattle.ve_formats.specs.Once.{ExactlyOne}
use Rattle.ve_formats.specs.Values.{IsReadable}
use Rattle.ve_formats.specs.PresentationLines as drafts
use Rattle.ve_formats.specs.PresentationLines.{Draft, Stage, blank_draft, Line, SpellLine, MayStand, MayWeigh, IsAmongRelations, Declared, Works}
use Rattle.ve_formats.specs.PresentationText.{tokens_of, IsTooDeep, Accepts, blank, taken, Refuses, behind_end, faulty_behind_end, faulty, deep, formless, meaningless}
use Rattle.ve_formats.proofs.Lexing.{lexed, lexes_once, fails_once, lexes_or_fails}
use Rattle.ve_formats.proofs.LineForms.{formed, same_form, blank_formless}
use Rattle.ve_formats.proofs.LineWork.{one_work}
use Rattle.ve_formats.proofs.Depth.{too_deep_or_not, deep_some}
use Rattle.ve_formats.proofs.Standing.{Decided, same_stage, may_stand}

-- the next draft, or the cause of the refusal
abbrev pub Judges : Draft → List ℕ → Result Draft Cause → Type 0
Judges draft line (Ok next) = Accepts draft line next
Judges draft line (Err cause) = Refuses draft line cause

abbrev Formed : List Token → Type 0
Formed tokens = ((form : Line) × SpellLine tokens form) ⊎ ((form : Line) → SpellLine tokens form → ⊥)

abbrev Lexed : List ℕ → Type 0
Lexed line = ((placed : List Placed) × Lexes 0 line placed) ⊎ ((fault : Fault) × FailsToLex 0 line fault)

module _ (unique : ReducedListsAreUnique) (draft : Draft) (readable : IsReadable draft.presentation) where
  work : Line → Result Draft Cause
  work form = (one_work unique draft readable form).it

  by_place : (form : Line) → Decided (MayStand draft form) → Result Draft Cause
  by_place form (inl stands) = work form
  by_place form (inr none) = Err wrong_line

  by_form : {tokens : List Token} → Formed tokens → Result Draft Cause
  by_form (inl (form, h)) = by_place form (may_stand draft form)
  by_form (inr none) = Err wrong_line

  by_depth : (tokens : List Token) → Decided (IsTooDeep tokens) → Result Draft Cause
  by_depth tokens (inl h) = Err too_deep
  by_depth tokens (inr fine) = by_form (formed tokens)

  abbrev IsEnded : Type 0
  IsEnded = draft.stage ≡ drafts.after_end

  by_tokens : List Placed → Decided IsEnded → Result Draft Cause
  by_tokens [] ended = Ok draft
  by_tokens (p ∷ placed) (inl ended) = Err why.after_end
  by_tokens (p ∷ placed) (inr going) = by_depth (tokens_of (p ∷ placed)) (too_deep_or_not (tokens_of (p ∷ placed)))

  by_lexing : {line : List ℕ} → Lexed line → Decided IsEnded → Result Draft Cause
  by_lexing (inl (placed, h)) ended = by_tokens placed ended
  by_lexing (inr (fault, h)) (inl ended) = Err why.after_end
  by_lexing (inr (fault, h)) (inr going) = Err (lexical fault)

  judged : List ℕ → Result Draft Cause
  judged line = by_lexing (lexed 0 line) (same_stage draft.stage drafts.after_end)

  -- a line is judged so

  module _ {line : List ℕ} {placed : List Placed} (going : IsEnded → ⊥) (lexes : Lexes 0 line placed) (some : placed ≡ [] → ⊥) (fine : IsTooDeep (tokens_of placed) → ⊥) where
    judges_work : (form : Line) → SpellLine (tokens_of placed) form → MayStand draft form → (r : Result Draft Cause) → Works draft form r → Judges draft line r
    judges_work form h stands (Ok next) works = taken going lexes fine h stands works
    judges_work form h stands (Err cause) works = meaningless going lexes fine h stands works

    judges_place : (form : Line) → SpellLine (tokens_of placed) form → (stands : Decided (MayStand draft form)) → Judges draft line (by_place form stands)
    unfolding by_place work
    judges_place form h (inl stands) = judges_work form h stands (work form) (one_work unique draft readable form).holds
    judges_place form h (inr none) = formless going lexes some fine (λ other k stands. none (subst (λ f. MayStand draft f) (same_form k h) stands))

    judges_form : (f : Formed (tokens_of placed)) → Judges draft line (by_form f)
    unfolding by_form
    judges_form (inl (form, h)) = judges_place form h (may_stand draft form)
    judges_form (inr none) = formless going lexes some fine (λ form k stands. none form k)

  judges_depth : {line : List ℕ} {placed : List Placed} → (IsEnded → ⊥) → Lexes 0 line placed → (placed ≡ [] → ⊥) → (d : Decided (IsTooDeep (tokens_of placed)))
      → Judges draft line (by_depth (tokens_of placed) d)
  unfolding by_depth
  judges_depth going lexes some (inl d) = deep going lexes d
  judges_depth {placed} going lexes some (inr fine) = judges_form going lexes some fine (formed (tokens_of placed))

  judges_tokens : {line : List ℕ} (placed : List Placed) → Lexes 0 line placed → (ended : Decided IsEnded) → Judges draft line (by_tokens placed ended)
  unfolding by_tokens
  judges_tokens [] lexes ended = blank lexes
  judges_tokens (p ∷ placed) lexes (inl ended) = behind_end ended lexes (λ e. absurd (cc))
  judges_tokens (p ∷ placed) lexes (inr going) = judges_depth going lexes (λ e. absurd (cc)) (too_deep_or_not (tokens_of (p ∷ placed)))

  judges_lexing : {line : List ℕ} (l : Lexed line) (ended : Decided IsEnded) → Judges draft line (by_lexing l ended)
  unfolding by_lexing
  judges_lexing (inl (placed, h)) ended = judges_tokens placed h ended
  judges_lexing (inr (fault, h)) (inl ended) = faulty_behind_end ended h
  judges_lexing (inr (fault, h)) (inr going) = faulty going h

  -- and not otherwise

  place_is : (form : Line) → MayStand draft form → {r : Result Draft Cause} → Works draft form r → (stands : Decided (MayStand draft form)) → r ≡ by_place form stands
  unfolding by_place work
  place_is form h {r} works (inl stands) = (one_work unique draft readable form).only r works
  place_is form h works (inr none) = absurd (none h)

  form_is : {tokens : List Token} (form : Line) → SpellLine tokens form → MayStand draft form → {r : Result Draft Cause} → Works draft form r → (f : Formed tokens) → r ≡ by_form f
  unfolding by_form
  form_is form h stands works (inr none) = absurd (none form h)
  form_is form h stands works (inl (other, k)) =
      let same : form ≡ other = same_form h k in
      place_is form stands works (may_stand draft form) ∙ ap (λ f. by_place f (may_stand draft f)) same

  no_form_is : {tokens : List Token} → ((form : Line) → SpellLine tokens form → MayStand draft form → ⊥) → (f : Formed tokens) → Err wrong_line ≡ by_form f
  unfolding by_form by_place
  no_form_is none (inr absent) = refl
  no_form_is none (inl (form, h)) = by_standing (may_stand draft form)
    where
      by_standing : (stands : Decided (MayStand draft form)) → Err wrong_line ≡ by_place form stands
      by_standing (inl stands) = absurd (none form h stands)
      by_standing (inr other) = refl

  fine_is : (tokens : List Token) → (IsTooDeep tokens → ⊥) → (d : Decided (IsTooDeep tokens)) → by_form (formed tokens) ≡ by_depth tokens d
  unfolding by_depth
  fine_is tokens fine (inl h) = absurd (fine h)
  fine_is tokens fine (inr h) = refl

  deep_is : (tokens : List Token) → IsTooDeep tokens → (d : Decided (IsTooDeep tokens)) → Err too_deep ≡ by_depth tokens d
  unfolding by_depth
  deep_is tokens h (inl k) = refl
  deep_is tokens h (inr fine) = absurd (fine h)

  going_is : (placed : List Placed) → (placed ≡ [] → ⊥) → (IsEnded → ⊥) → (ended : Decided IsEnded) → by_depth (tokens_of placed) (too_deep_or_not (tokens_of placed)) ≡ by_tokens placed ended
  unfolding by_tokens
  going_is [] some going ended = absurd (some refl)
  going_is (p ∷ placed) some going (inl ended) = absurd (going ended)
  going_is (p ∷ placed) some going (inr h) = refl

  ended_is : (placed : List Placed) → (placed ≡ [] → ⊥) → IsEnded → (ended : Decided IsEnded) → Err why.after_end ≡ by_tokens placed ended
  unfolding by_tokens
  ended_is [] some h ended = absurd (some refl)
  ended_is (p ∷ placed) some h (inl ended) = refl
  ended_is (p ∷ placed) some h (inr going) = absurd (going h)

  lexing_is : {line : List ℕ} {placed : List Placed} → Lexes 0 line placed → (l : Lexed line) (ended : Decided IsEnded) → by_tokens placed ended ≡ by_lexing l ended
  unfolding by_lexing
  lexing_is h (inl (other, k)) ended = ap (λ p. by_tokens p ended) (lexes_once h k)
  lexing_is h (inr (fault, k)) ended = absurd (lexes_or_fails h k)

  fault_is : {line : List ℕ} {fault : Fault} → FailsToLex 0 line fault → (IsEnded → ⊥) → (l : Lexed line) (ended : Decided IsEnded) → Err (lexical fault) ≡ by_lexing l ended
  unfolding by_lexing
  fault_is h going (inl (placed, k)) ended = absurd (lexes_or_fails k h)
  fault_is h going (inr (other, k)) (inl ended) = absurd (going ended)
  fault_is h going (inr (other, k)) (inr more) = ap (λ f. Err (lexical f)) (fails_once h k)

  late_fault_is : {line : List ℕ} {fault : Fault} → FailsToLex 0 line fault → IsEnded → (l : Lexed line) (ended : Decided IsEnded) → Err why.after_end ≡ by_lexing l ended
  unfolding by_lexing
  late_fault_is h end (inl (placed, k)) ended = absurd (lexes_or_fails k h)
  late_fault_is h end (inr (other, k)) (inl ended) = refl
  late_fault_is h end (inr (other, k)) (inr going) = absurd (going end)

  -- tokens of a line that goes on from a draft
  line_is : {line : List ℕ} {placed : List Placed} → (IsEnded → ⊥) → Lexes 0 line placed → (placed ≡ [] → ⊥)
      → by_depth (tokens_of placed) (too_deep_or_not (tokens_of placed)) ≡ by_lexing (lexed 0 line) (same_stage draft.stage drafts.after_end)
  line_is {line} {placed} going lexes some =
      going_is placed some going (same_stage draft.stage drafts.after_end) ∙ lexing_is lexes (lexed 0 line) (same_stage draft.stage drafts.after_end)

  spelled_some : {placed : List Placed} {form : Line} → SpellLine (tokens_of placed) form → placed ≡ [] → ⊥
  spelled_some {placed} {form} h e = blank_formless (subst (λ p. SpellLine (tokens_of p) form) e h)

  form_line_is : {line : List ℕ} {placed : List Placed} {form : Line} {r : Result Draft Cause} → (IsEnded → ⊥) → Lexes 0 line placed → (IsTooDeep (tokens_of placed) → ⊥)
      → SpellLine (tokens_of placed) form → MayStand draft form → Works draft form r → r ≡ by_lexing (lexed 0 line) (same_stage draft.stage drafts.after_end)
  form_line_is {line} {placed} {form} going lexes fine h stands works =
      form_is form h stands works (formed (tokens_of placed)) ∙ fine_is (tokens_of placed) fine (too_deep_or_not (tokens_of placed)) ∙ line_is going lexes (spelled_some h)

  accepted_is : {line : List ℕ} {next : Draft} → Accepts draft line next → Ok next ≡ judged line
  unfolding judged by_tokens
  accepted_is {line} (blank lexes) = lexing_is lexes (lexed 0 line) (same_stage draft.stage drafts.after_end)
  accepted_is (taken going lexes fine h stands works) = form_line_is going lexes fine h stands works

  refused_is : {line : List ℕ} {cause : Cause} → Refuses draft line cause → Err cause ≡ judged line
  unfolding judged
  refused_is {line} (behind_end {placed} end lexes some) =
      ended_is placed some end (same_stage draft.stage drafts.after_end) ∙ lexing_is lexes (lexed 0 line) (same_stage draft.stage drafts.after_end)
  refused_is {line} (faulty_behind_end end h) = late_fault_is h end (lexed 0 line) (same_stage draft.stage drafts.after_end)
  refused_is {line} (faulty going h) = fault_is h going (lexed 0 line) (same_stage draft.stage drafts.after_end)
  refused_is (deep {placed} going lexes h) = deep_is (tokens_of placed) h (too_deep_or_not (tokens_of placed)) ∙ line_is going lexes (λ e. deep_some (tokens_of placed) h (ap tokens_of e))
  refused_is (formless {placed} going lexes some fine none) =
      no_form_is none (formed (tokens_of placed)) ∙ fine_is (tokens_of placed) fine (too_deep_or_not (tokens_of placed)) ∙ line_is going lexes some
  refused_is (meaningless going lexes fine h stands works) = form_line_is going lexes fine h stands works

  judges_is : (line : List ℕ) (r : Result Draft Cause) → Judges draft line r → r ≡ judged line
  judges_is line (Ok next) h = accepted_is h
  judges_is line (Err cause) h = refused_is h

  pub one_judgement : (line : List ℕ) → ExactlyOne (Judges draft line)
  unfolding judged
  one_judgement line = record { it = judged line; holds = judges_lexing (lexed 0 line) (same_stage draft.stage drafts.after_end); only = judges_is line }
