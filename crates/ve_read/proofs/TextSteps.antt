-- A text, read line by line.
use Rattle.std.proofs.Common.{◌≡◌, ◌≢◌, ℕ, ◌+◌, ◌<◌, inl, inr, List, [], ◌∷◌, ◌++◌, length, refl, sym, ap, ◌∙◌, subst, arith, append_assoc, append-nil, length-append}
use Rattle.ve_formats.specs.Causes.{missing_end}
use Rattle.ve_formats.specs.Lines.{lines_of, line_feed}
use Rattle.ve_formats.specs.PresentationLines as lines
use Rattle.ve_formats.specs.PresentationLines.{Draft, blank_draft}
use Rattle.ve_formats.specs.PresentationText.{Accepts, AcceptsAll, none, one, Refuses, Spells, IsRefusedAt, at_line, without_end}
use Rattle.ve_lex.specs.Cut.{IsCutAt}
use Rattle.ve_read.specs.declared.why.Why.{Why}
use Rattle.ve_read.specs.Refusals.{Tells}
use Rattle.ve_read.proofs.Told.{tells_more}

-- lines that were accepted, and one more
accepts_more : {draft last next : Draft} {front : List (List ℕ)} {line : List ℕ} → AcceptsAll draft front last → Accepts last line next → AcceptsAll draft (front ++ line ∷ []) next
accepts_more none h = one h none
accepts_more (one first rest) h = one first (accepts_more rest h)

-- the text was read up to the rest, and the next line has this number
pub record IsReadTo (text rest : List ℕ) (draft : Draft) (number : ℕ) : Type 0 where
  pub front : List (List ℕ)
  pub lines : lines_of text ≡ front ++ lines_of rest
  pub accepts : AcceptsAll blank_draft front draft
  pub number_is : number ≡ length front + 1

pub read_nothing : (text : List ℕ) → IsReadTo text text blank_draft 1
read_nothing text = record { front = []; lines = refl; accepts = none; number_is = refl }

-- what is behind a line is shorter
pub shorter_behind : (rest line behind : List ℕ) → lines_of rest ≡ line ∷ lines_of behind → IsCutAt rest line behind → length behind < length rest
unfolding lines_of
shorter_behind [] line behind lines cut = absurd (cc)
shorter_behind (b ∷ rest) line behind lines (inl split) =
    let sizes : length (b ∷ rest) ≡ length line + length (line_feed ∷ behind) = ap length split ∙ length-append line (line_feed ∷ behind) in
    omega arith
shorter_behind (b ∷ rest) line behind lines (inr (same, end)) =
    let none : length behind ≡ 0 = ap length end in
    omega arith

module _ (text rest : List ℕ) (draft : Draft) (number : ℕ) (read : IsReadTo text rest draft number) where
  pub read_line : (line behind : List ℕ) (next : Draft) → lines_of rest ≡ line ∷ lines_of behind → Accepts draft line next → IsReadTo text behind next (number + 1)
  read_line line behind next lines accepts = record {
    front = read.front ++ line ∷ [];
    lines = read.lines ∙ ap (λ ls. read.front ++ ls) lines ∙ sym (append_assoc read.front (line ∷ []) (lines_of behind));
    accepts = accepts_more read.accepts accepts;
    number_is = omega (arith, read.number_is, length-append read.front (line ∷ []));
  }

  pub refused_line : (line behind : List ℕ) (why : Why) → lines_of rest ≡ line ∷ lines_of behind → Tells (Refuses draft line) why → Tells (IsRefusedAt text number) why
  refused_line line behind why lines told =
      tells_more (Refuses draft line) (IsRefusedAt text number) why
      (λ cause refuses. subst (λ n. IsRefusedAt text n cause) (sym read.number_is)
      (at_line (lines_of behind) (read.lines ∙ ap (λ ls. read.front ++ ls) lines) read.accepts refuses)) told

  all_read : rest ≡ [] → lines_of text ≡ read.front
  unfolding lines_of
  all_read end = read.lines ∙ ap (λ t. read.front ++ lines_of t) end ∙ append-nil read.front

  pub spelled : rest ≡ [] → draft.stage ≡ lines.after_end → Spells text draft.presentation
  spelled end ended = record { last = draft; lines = subst (λ ls. AcceptsAll blank_draft ls draft) (sym (all_read end)) read.accepts; ended = ended; presentation = refl }

  pub refused_at_end : rest ≡ [] → draft.stage ≢ lines.after_end → IsRefusedAt text number missing_end
  refused_at_end end going =
      let number_at_end : number ≡ length (lines_of text) + 1 = read.number_is ∙ ap (λ ls. length ls + 1) (sym (all_read end)) in
      subst (λ n. IsRefusedAt text n missing_end) (sym number_at_end) (without_end (subst (λ ls. AcceptsAll blank_draft ls draft) (sym (all_read end)) read.accepts) going)
