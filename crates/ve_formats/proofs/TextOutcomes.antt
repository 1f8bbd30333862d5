-- Each text spells one presentation, or is refused at one line for one cause.
use Rattle.std.proofs.Common.{◌≡◌, ◌≢◌, ℕ, ◌+◌, ◌⊎◌, inl, inr, List, [], ◌∷◌, ◌++◌, length, Result, Ok, Err, refl, sym, ap, ◌∙◌, subst, arith}
use Rattle.ve_theory.specs.Presentations.{Presentation}
use Rattle.ve_theory.specs.Laws.{ReducedListsAreUnique}
use Rattle.ve_formats.specs.Lines.{lines_of}
use Rattle.ve_formats.specs.Causes.{Cause, missing_end}
use Rattle.ve_formats.specs.Once.{ExactlyOne}
use Rattle.ve_formats.specs.Values.{IsReadable}
use Rattle.ve_formats.specs.PresentationLines as drafts
use Rattle.ve_formats.specs.PresentationLines.{Draft, blank_draft}
use Rattle.ve_formats.specs.PresentationText.{Accepts, Refuses, AcceptsAll, none, one, Spells, IsRefusedAt, at_line, without_end}
use Rattle.ve_formats.proofs.Standing.{Decided, same_stage}
use Rattle.ve_formats.proofs.DraftInvariant.{blank_readable, accepts_readable}
use Rattle.ve_formats.proofs.LineOutcomes.{Judges, one_judgement}

-- the last draft of some lines, or their first refusal with its line's number
data Outcome : Type 0 where
  all_read : Draft → Outcome
  stopped : ℕ → Cause → Outcome

abbrev later : Outcome → Outcome
later (all_read draft) = all_read draft
later (stopped n cause) = stopped (n + 1) cause

data Reads : Draft → List (List ℕ) → Outcome → Type 0 where
  over : {draft : Draft} → Reads draft [] (all_read draft)
  stops : {draft : Draft} {line : List ℕ} {lines : List (List ℕ)} {cause : Cause} → Refuses draft line cause → Reads draft (line ∷ lines) (stopped 1 cause)
  goes_on : {draft next : Draft} {line : List ℕ} {lines : List (List ℕ)} {o : Outcome} → Accepts draft line next → Reads next lines o → Reads draft (line ∷ lines) (later o)

module _ (unique : ReducedListsAreUnique) where
  abbrev Unread : Draft → List (List ℕ) → Type 0
  Unread draft lines = ExactlyOne (Reads draft lines)

  further : (draft : Draft) (line : List ℕ) (lines : List (List ℕ)) (r : Result Draft Cause) → Judges draft line r → ((other : Result Draft Cause) → Judges draft line other → other ≡ r)
      → ((next : Draft) → Accepts draft line next → Unread next lines) → Unread draft (line ∷ lines)
  further draft line lines (Ok next) h only rest =
      let after : Unread next lines = rest next h in
      record { it = later after.it; holds = goes_on h after.holds; only = only_later after }
    where
      only_later : (after : Unread next lines) (o : Outcome) → Reads draft (line ∷ lines) o → o ≡ later after.it
      only_later after _ (stops {cause} k) = let results : Err cause ≡ Ok next = only (Err cause) k in absurd (cc)
      only_later after _ (goes_on {next = other} {o} k more) =
          let results : Ok other ≡ Ok next = only (Ok other) k in
          let same : other ≡ next = (cc) in
          ap later (after.only o (subst (λ d. Reads d lines o) same more))
  further draft line lines (Err cause) h only rest = record { it = stopped 1 cause; holds = stops h; only = only_stopped }
    where
      only_stopped : (o : Outcome) → Reads draft (line ∷ lines) o → o ≡ stopped 1 cause
      only_stopped _ (stops {cause = other} k) = let results : Err other ≡ Err cause = only (Err other) k in let same : other ≡ cause = (cc) in ap (stopped 1) same
      only_stopped _ (goes_on {next} k more) = let results : Ok next ≡ Err cause = only (Ok next) k in absurd (cc)

  one_reading : (lines : List (List ℕ)) (draft : Draft) → IsReadable draft.presentation → ExactlyOne (Reads draft lines)
  one_reading [] draft readable = record { it = all_read draft; holds = over; only = only }
    where
      only : (o : Outcome) → Reads draft [] o → o ≡ all_read draft
      only _ over = refl
  one_reading (line ∷ lines) draft readable =
      let judged = one_judgement unique draft readable line in
      further draft line lines judged.it judged.holds judged.only (λ next h. one_reading lines next (accepts_readable readable h))

-- readings are the two relations of a text

reads_accepted : {draft last : Draft} {lines : List (List ℕ)} → AcceptsAll draft lines last → Reads draft lines (all_read last)
reads_accepted none = over
reads_accepted (one h rest) = goes_on h (reads_accepted rest)

reads_refused : {draft next : Draft} {front : List (List ℕ)} (back : List (List ℕ)) {line : List ℕ} {cause : Cause} → AcceptsAll draft front next → Refuses next line cause
    → Reads draft (front ++ line ∷ back) (stopped (length front + 1) cause)
reads_refused back none h = stops h
reads_refused {draft} back {line} {cause} (one {line = first} {lines} accepts rest) h =
    let count : (length lines + 1) + 1 ≡ length (first ∷ lines) + 1 = omega arith in
    subst (λ n. Reads draft ((first ∷ lines) ++ line ∷ back) (stopped n cause)) count (goes_on accepts (reads_refused back rest h))

record Stop (draft : Draft) (lines : List (List ℕ)) (n : ℕ) (cause : Cause) : Type 0 where
  front : List (List ℕ)
  line : List ℕ
  back : List (List ℕ)
  next : Draft
  are : lines ≡ front ++ line ∷ back
  number : length front + 1 ≡ n
  accepts : AcceptsAll draft front next
  refuses : Refuses next line cause

abbrev Means : Draft → List (List ℕ) → Outcome → Type 0
Means draft lines (all_read last) = AcceptsAll draft lines last
Means draft lines (stopped n cause) = Stop draft lines n cause

means_later : {draft next : Draft} {line : List ℕ} (lines : List (List ℕ)) (o : Outcome) → Accepts draft line next → Means next lines o → Means draft (line ∷ lines) (later o)
means_later lines (all_read last) h more = one h more
means_later {line} lines (stopped n cause) h more = record {
  front = line ∷ more.front;
  line = more.line;
  back = more.back;
  next = more.next;
  are = ap (λ ls. line ∷ ls) more.are;
  number = let e = more.number in omega arith;
  accepts = one h more.accepts;
  refuses = more.refuses;
}

means : {draft : Draft} {lines : List (List ℕ)} {o : Outcome} → Reads draft lines o → Means draft lines o
means over = none
means {draft} (stops {line} {lines} h) = record { front = []; line = line; back = lines; next = draft; are = refl; number = omega arith; accepts = none; refuses = h }
means (goes_on {lines} {o} h rest) = means_later lines o h (means rest)

-- the text's law

abbrev Refusal : List ℕ → Type 0
Refusal text = (line : ℕ) × (cause : Cause) × IsRefusedAt text line cause

text_read : (text : List ℕ) (o : Outcome) → Reads blank_draft (lines_of text) o → ((P : Presentation) × Spells text P) ⊎ Refusal text
text_read text (stopped n cause) h = let stop : Stop blank_draft (lines_of text) n cause = means h in inr (n, cause, subst (λ n. IsRefusedAt text n cause) stop.number (at_line stop.back stop.are stop.accepts stop.refuses))
text_read text (all_read last) h = by_end (same_stage last.stage drafts.after_end)
  where
    accepts : AcceptsAll blank_draft (lines_of text) last
    accepts = means h

    by_end : Decided (last.stage ≡ drafts.after_end) → ((P : Presentation) × Spells text P) ⊎ Refusal text
    by_end (inl ended) = inl (last.presentation, record { last = last; lines = accepts; ended = ended; presentation = refl })
    by_end (inr going) = inr (length (lines_of text) + 1, missing_end, without_end accepts going)

module _ (unique : ReducedListsAreUnique) where
  reading : (text : List ℕ) → ExactlyOne (Reads blank_draft (lines_of text))
  reading text = one_reading unique (lines_of text) blank_draft blank_readable

  one_outcome : (text : List ℕ) {o q : Outcome} → Reads blank_draft (lines_of text) o → Reads blank_draft (lines_of text) q → o ≡ q
  one_outcome text {o} {q} h k = (reading text).only o h ∙ sym ((reading text).only q k)

  pub spelled_or_refused : (text : List ℕ) → ((P : Presentation) × Spells text P) ⊎ ((line : ℕ) × (cause : Cause) × IsRefusedAt text line cause)
  spelled_or_refused text = text_read text (reading text).it (reading text).holds

  same_last : (text : List ℕ) {last other : Draft} → AcceptsAll blank_draft (lines_of text) last → AcceptsAll blank_draft (lines_of text) other → last ≡ other
  same_last text {last} {other} h k = let same : all_read last ≡ all_read other = one_outcome text (reads_accepted h) (reads_accepted k) in (cc)

  pub same_presentation : {text : List ℕ} {P Q : Presentation} → Spells text P → Spells text Q → P ≡ Q
  same_presentation {text} h k = sym h.presentation ∙ ap (λ (d : Draft). d.presentation) (same_last text h.lines k.lines) ∙ k.presentation

  -- a refusal is a reading that stopped, or one that came to no end
  abbrev Refused : List ℕ → ℕ → Cause → Type 0
  Refused text n cause =
      Reads blank_draft (lines_of text) (stopped n cause)
      ⊎ ((last : Draft) × Reads blank_draft (lines_of text) (all_read last) × (last.stage ≢ drafts.after_end) × (n ≡ length (lines_of text) + 1) × (cause ≡ missing_end))

  refused : {text : List ℕ} {n : ℕ} {cause : Cause} → IsRefusedAt text n cause → Refused text n cause
  refused (at_line {front} back {line} {cause} are accepts refuses) =
      inl (subst (λ ls. Reads blank_draft ls (stopped (length front + 1) cause)) (sym are) (reads_refused back accepts refuses))
  refused (without_end {last} accepts going) = inr (last, reads_accepted accepts, going, refl, refl)

  same_refused : (text : List ℕ) {m n : ℕ} {cause other : Cause} → Refused text m cause → Refused text n other → (m ≡ n) × (cause ≡ other)
  same_refused text {m} {n} {cause} {other} (inl h) (inl k) = let same : stopped m cause ≡ stopped n other = one_outcome text h k in ((cc), (cc))
  same_refused text {m} {cause} (inl h) (inr (last, k, going, number, is)) = let same : stopped m cause ≡ all_read last = one_outcome text h k in absurd (cc)
  same_refused text {n} {other} (inr (last, h, going, number, is)) (inl k) = let same : all_read last ≡ stopped n other = one_outcome text h k in absurd (cc)
  same_refused text (inr (last, h, going, number, is)) (inr (end, k, ends, count, why)) = (number ∙ sym count, is ∙ sym why)

  pub same_refusal : {text : List ℕ} {m n : ℕ} {cause other : Cause} → IsRefusedAt text m cause → IsRefusedAt text n other → (m ≡ n) × (cause ≡ other)
  same_refusal {text} h k = same_refused text (refused h) (refused k)

  spelled_and_refused : (text : List ℕ) {P : Presentation} {n : ℕ} {cause : Cause} → Spells text P → Refused text n cause → ⊥
  spelled_and_refused text {n} {cause} h (inl k) = let same : all_read h.last ≡ stopped n cause = one_outcome text (reads_accepted h.lines) k in absurd (cc)
  spelled_and_refused text h (inr (last, k, going, number, is)) =
      let same : all_read h.last ≡ all_read last = one_outcome text (reads_accepted h.lines) k in
      let drafts : h.last ≡ last = (cc) in
      going (ap (λ (d : Draft). d.stage) (sym drafts) ∙ h.ended)

  pub never_both : {text : List ℕ} {P : Presentation} {n : ℕ} {cause : Cause} → Spells text P → IsRefusedAt text n cause → ⊥
  never_both {text} h k = spelled_and_refused text h (refused k)
