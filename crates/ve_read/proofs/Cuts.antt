-- A text that is cut behind a line is cut between two lines.
use Rattle.std.proofs.Common.{◌≡◌, ℕ, ◌-◌, ◌⊎◌, inl, inr, List, [], ◌∷◌, ◌++◌, length, take, drop, refl, sym, ap, ◌∙◌, arith, append_assoc, append-nil, length-append}
use Rattle.std.specs.Prelude.{All, nat_eq}
use Rattle.std.proofs.lemmas.Bool.{cases_Bool, cond-true, cond-false}
use Rattle.std.proofs.lemmas.List.{append_cancel_right}
use Rattle.std.proofs.lemmas.List.Elements.{All-nil, All-push, All-same}
use Rattle.std.proofs.Math.Seq.{take-append_seam, drop-append_seam}
use Rattle.ve_formats.specs.Lines.{lines_of, onto_first_line, line_feed}
use Rattle.ve_lex.specs.Cut.{IsCutAt}
use Rattle.ve_read.specs.Cutting.{IsEndLine, IsBehindEnd}

-- the lines of the text and of what follows it are those of the two together
pub record IsWhole (text : List ℕ) : Type 0 where
  pub apart : (more : List ℕ) → lines_of (text ++ more) ≡ lines_of text ++ lines_of more

onto_first_line-append : (b : ℕ) (line : List ℕ) (lines others : List (List ℕ)) → onto_first_line b ((line ∷ lines) ++ others) ≡ onto_first_line b (line ∷ lines) ++ others
unfolding onto_first_line
onto_first_line-append b line lines others = refl

-- some line stands before a line feed
record HasFirst (lines : List (List ℕ)) : Type 0 where
  line : List ℕ
  others : List (List ℕ)
  is : lines ≡ line ∷ others

has_first : (text : List ℕ) → HasFirst (lines_of (text ++ line_feed ∷ []))
unfolding lines_of onto_first_line
has_first [] = record { line = []; others = []; is = refl }
has_first (b ∷ text) = by_first (has_first text)
  where
    by_first : HasFirst (lines_of (text ++ line_feed ∷ [])) → HasFirst (lines_of ((b ∷ text) ++ line_feed ∷ []))
    by_first h =
        elim (cases_Bool (nat_eq b line_feed)) [
          | inl feed ↦ record { line = []; others = lines_of (text ++ line_feed ∷ []); is = cond-true _ _ _ feed }
          | inr other ↦ record { line = b ∷ h.line; others = h.others; is = cond-false _ _ _ other ∙ ap (onto_first_line b) h.is }
        ]

-- a text that ends with a line feed
behind_feed : (text more : List ℕ) → lines_of (text ++ line_feed ∷ more) ≡ lines_of (text ++ line_feed ∷ []) ++ lines_of more
unfolding lines_of onto_first_line
behind_feed [] more = refl
behind_feed (b ∷ text) more =
    let first = has_first text in
    elim (cases_Bool (nat_eq b line_feed)) [
      | inl feed ↦ cond-true _ _ _ feed ∙ ap (λ ls. [] ∷ ls) (behind_feed text more) ∙ sym (ap (λ ls. ls ++ lines_of more) (cond-true _ _ _ feed))
      | inr other ↦ cond-false _ _ _ other ∙ ap (onto_first_line b) (behind_feed text more ∙ ap (λ ls. ls ++ lines_of more) first.is)
          ∙ sym (ap (λ ls. ls ++ lines_of more) (cond-false _ _ _ other ∙ ap (onto_first_line b) first.is))
    ]

whole_behind_feed : (text : List ℕ) → IsWhole (text ++ line_feed ∷ [])
whole_behind_feed text = record { apart = λ more. ap lines_of (append_assoc text (line_feed ∷ []) more) ∙ behind_feed text more }

-- the first line of a text, with its line feed where it has one
record FirstPiece (text line rest : List ℕ) : Type 0 where
  piece : List ℕ
  split : text ≡ piece ++ rest
  lines : lines_of piece ≡ line ∷ []
  whole : IsWhole piece ⊎ (rest ≡ [])

first_piece : (text line rest : List ℕ) → lines_of text ≡ line ∷ lines_of rest → IsCutAt text line rest → FirstPiece text line rest
unfolding lines_of
first_piece text line rest lines (inl split) = record {
  piece = line ++ line_feed ∷ [];
  split = split ∙ sym (append_assoc line (line_feed ∷ []) rest);
  lines = append_cancel_right _ (line ∷ []) (lines_of rest) (sym (behind_feed line rest) ∙ sym (ap lines_of split) ∙ lines);
  whole = inl (whole_behind_feed line);
}
first_piece text line rest lines (inr (same, none)) = record {
  piece = text;
  split = sym (ap (λ t. text ++ t) none ∙ append-nil text);
  lines = lines ∙ ap (λ t. line ∷ lines_of t) none;
  whole = inr none;
}

-- the text so far: none of its lines is the end, and the rest begins with a line
pub record IsPassed (text rest : List ℕ) : Type 0 where
  pub before : List ℕ
  pub split : text ≡ before ++ rest
  pub whole : IsWhole before ⊎ (rest ≡ [])
  pub none : All (λ line. ¬ IsEndLine line) (lines_of before)

pub passed_nothing : (text : List ℕ) → IsPassed text text
unfolding lines_of
passed_nothing text = record { before = []; split = refl; whole = inl (record { apart = λ more. refl }); none = All-nil (λ line. ¬ IsEndLine line) }

pub passed_all : (text rest : List ℕ) → IsPassed text rest → rest ≡ [] → All (λ line. ¬ IsEndLine line) (lines_of text)
passed_all text rest passed none =
    let all : text ≡ passed.before = passed.split ∙ ap (λ t. passed.before ++ t) none ∙ append-nil passed.before in
    All-same (λ line. ¬ IsEndLine line) (lines_of text) (lines_of passed.before) (ap lines_of all) passed.none

whole-append : (front back : List ℕ) → IsWhole front → IsWhole back → IsWhole (front ++ back)
whole-append front back a b = record {
  apart = λ more.
      ap lines_of (append_assoc front back more)
      ∙ a.apart (back ++ more)
      ∙ ap (λ ls. lines_of front ++ ls) (b.apart more)
      ∙ sym (append_assoc (lines_of front) (lines_of back) (lines_of more))
      ∙ sym (ap (λ ls. ls ++ lines_of more) (a.apart back));
}

-- a text that was passed, and the line behind it
record IsPassedTo (text line rest : List ℕ) : Type 0 where
  before : List ℕ
  front : List (List ℕ)
  split : text ≡ before ++ rest
  lines : lines_of before ≡ front ++ line ∷ []
  all : lines_of text ≡ (front ++ line ∷ []) ++ lines_of rest
  whole : IsWhole before ⊎ (rest ≡ [])
  none : All (λ line. ¬ IsEndLine line) front

-- the text up to a place where it is cut, and behind it
cut_at : (text before rest : List ℕ) → text ≡ before ++ rest → (take (length text - length rest) text ≡ before) × (drop (length text - length rest) text ≡ rest)
cut_at text before rest split =
    let sizes = ap length split ∙ length-append before rest in
    let place : length text - length rest ≡ length before = omega arith in (
      ap (λ n. take n text) place ∙ ap (take (length before)) split ∙ take-append_seam before rest,
      ap (λ n. drop n text) place ∙ ap (drop (length before)) split ∙ drop-append_seam before rest,
    )

module _ (text rest line behind : List ℕ) (lines : lines_of rest ≡ line ∷ lines_of behind) (cut : IsCutAt rest line behind) (passed : IsPassed text rest) where
  further : IsWhole passed.before → IsPassedTo text line behind
  further whole =
      let first = first_piece rest line behind lines cut in
      record {
        before = passed.before ++ first.piece;
        front = lines_of passed.before;
        split = passed.split ∙ ap (λ t. passed.before ++ t) first.split ∙ sym (append_assoc passed.before first.piece behind);
        lines = whole.apart first.piece ∙ ap (λ ls. lines_of passed.before ++ ls) first.lines;
        all = ap lines_of passed.split ∙ whole.apart rest ∙ ap (λ ls. lines_of passed.before ++ ls) lines ∙ sym (append_assoc (lines_of passed.before) (line ∷ []) (lines_of behind));
        whole = ends first first.whole;
        none = passed.none;
      }
    where
      ends : (first : FirstPiece rest line behind) → IsWhole first.piece ⊎ (behind ≡ []) → IsWhole (passed.before ++ first.piece) ⊎ (behind ≡ [])
      ends first (inl last) = inl (whole-append passed.before first.piece whole last)
      ends first (inr none) = inr none

  passed_to : IsPassedTo text line behind
  unfolding lines_of
  passed_to = by_whole passed.whole
    where
      no_line : rest ≡ [] → ⊥
      no_line none = let some : [] ≡ line ∷ lines_of behind = sym (ap lines_of none) ∙ lines in cc

      by_whole : IsWhole passed.before ⊎ (rest ≡ []) → IsPassedTo text line behind
      by_whole (inl whole) = further whole
      by_whole (inr none) = absurd (no_line none)

  pub passed_line : (¬ IsEndLine line) → IsPassed text behind
  passed_line other =
      let to = passed_to in
      record {
        before = to.before;
        split = to.split;
        whole = to.whole;
        none = All-same (λ line. ¬ IsEndLine line) _ _ to.lines (All-push (λ line. ¬ IsEndLine line) to.front line to.none other);
      }

  pub cut_behind_end : IsEndLine line → IsBehindEnd text (length text - length behind)
  cut_behind_end is_end =
      let to = passed_to in
      let at = cut_at text to.before behind to.split in
      record {
        front = to.front;
        last = line;
        before = ap lines_of at.0 ∙ to.lines;
        whole = to.all ∙ ap (λ t. (to.front ++ line ∷ []) ++ lines_of t) (sym at.1);
        first = to.none;
        is_end = is_end;
      }
