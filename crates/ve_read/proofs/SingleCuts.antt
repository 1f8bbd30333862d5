-- A text is cut behind its line `end` at one place alone.
use Rattle.std.proofs.Common.{◌≡◌, ℕ, suc, ◌+◌, ◌-◌, ◌<◌, ◌≤◌, inl, inr, List, [], ◌∷◌, ◌++◌, length, take, drop, refl, sym, ap, ◌∙◌, subst, arith, append_assoc, length-append}
use Rattle.std.specs.Prelude.{All, nat_eq}
use Rattle.std.proofs.lemmas.Bool.{cases_Bool, cases_lt, cond-true, cond-false}
use Rattle.std.proofs.lemmas.List.{drop-drop, length-drop, take-append-drop}
use Rattle.std.proofs.lemmas.List.Elements.{All-head, All-tail, All-same}
use Rattle.ve_formats.specs.Lines.{lines_of, onto_first_line, line_feed}
use Rattle.ve_read.specs.Cutting.{IsEndLine, IsBehindEnd, IsSplitAt}

-- ---- what is cut off is seen in the lines

-- the bytes of lines, with a line feed for each
size : List (List ℕ) → ℕ
size [] = 0
size (line ∷ lines) = length line + 1 + size lines

size_onto_first : (b : ℕ) (lines : List (List ℕ)) → size lines < size (onto_first_line b lines)
unfolding onto_first_line size
size_onto_first b [] = let is : size (onto_first_line b []) ≡ 2 = refl in let none : size [] ≡ 0 = refl in omega arith
size_onto_first b (line ∷ lines) =
    let is : size (onto_first_line b (line ∷ lines)) ≡ suc (length line) + 1 + size lines = refl in
    let here : size (line ∷ lines) ≡ length line + 1 + size lines = refl in
    omega arith

grows : (b : ℕ) (text : List ℕ) → size (lines_of text) < size (lines_of (b ∷ text))
unfolding lines_of size
grows b text =
    elim (cases_Bool (nat_eq b line_feed)) [
      | inl feed ↦
          let is : size (lines_of (b ∷ text)) ≡ 0 + 1 + size (lines_of text) = ap size (cond-true _ _ _ feed) in
          omega arith
      | inr other ↦
          let is : size (lines_of (b ∷ text)) ≡ size (onto_first_line b (lines_of text)) = ap size (cond-false _ _ _ other) in
          let more = size_onto_first b (lines_of text) in
          omega arith
    ]

grows_by : (front rest : List ℕ) → length front + size (lines_of rest) ≤ size (lines_of (front ++ rest))
grows_by [] rest = let none : length {A = ℕ} [] ≡ 0 = refl in omega arith
grows_by (b ∷ front) rest = let less = grows b (front ++ rest) in let more = grows_by front rest in omega arith

-- the places from which on a text has the same lines are the same
not_before : (text : List ℕ) (at other : ℕ) → other ≤ length text → lines_of (drop at text) ≡ lines_of (drop other text) → at < other → ⊥
not_before text at other within same before =
    let cut = other - at in
    let rest = drop at text in
    let is : drop cut rest ≡ drop other text = drop-drop cut at text ∙ ap (λ n. drop n text) (omega arith) in
    let apart : take cut rest ++ drop cut rest ≡ rest = take-append-drop cut rest in
    let more = grows_by (take cut rest) (drop cut rest) in
    let equal : size (lines_of (drop cut rest)) ≡ size (lines_of (take cut rest ++ drop cut rest)) = ap (λ t. size (lines_of t)) is ∙ sym (ap size same) ∙ sym (ap (λ t. size (lines_of t)) apart) in
    let long : length (take cut rest) + length (drop cut rest) ≡ length rest = sym (length-append (take cut rest) (drop cut rest)) ∙ ap length apart in
    let behind : length (drop cut rest) ≡ length text - other = ap length is ∙ length-drop other text in
    let whole : length rest ≡ length text - at = length-drop at text in
    omega arith

-- ---- the first line that is an end

one_first : (front other : List (List ℕ)) (last end : List ℕ) (rest behind : List (List ℕ)) → All (λ line. ¬ IsEndLine line) front → All (λ line. ¬ IsEndLine line) other → IsEndLine last → IsEndLine end
    → front ++ last ∷ rest ≡ other ++ end ∷ behind → rest ≡ behind
one_first [] [] last end rest behind none also is_last is_end same = let parts : (last ≡ end) × (rest ≡ behind) = (cc, cc) in parts.1
one_first [] (line ∷ other) last end rest behind none also is_last is_end same =
    let here : last ≡ line = cc in
    absurd (All-head (λ line. ¬ IsEndLine line) line other also (subst IsEndLine here is_last))
one_first (line ∷ front) [] last end rest behind none also is_last is_end same =
    let here : line ≡ end = cc in
    absurd (All-head (λ line. ¬ IsEndLine line) line front none (subst IsEndLine (sym here) is_end))
one_first (line ∷ front) (further ∷ other) last end rest behind none also is_last is_end same =
    let behind_first : front ++ last ∷ rest ≡ other ++ end ∷ behind = cc in
    one_first front other last end rest behind (All-tail (λ line. ¬ IsEndLine line) line front none) (All-tail (λ line. ¬ IsEndLine line) further other also) is_last is_end behind_first

is_among : (front : List (List ℕ)) (last : List ℕ) (rest : List (List ℕ)) → All (λ line. ¬ IsEndLine line) (front ++ last ∷ rest) → IsEndLine last → ⊥
is_among [] last rest none is = All-head (λ line. ¬ IsEndLine line) last rest none is
is_among (line ∷ front) last rest none is = is_among front last rest (All-tail (λ line. ¬ IsEndLine line) line (front ++ last ∷ rest) none) is

-- the lines of a text that is cut, in one list
whole_lines : (text : List ℕ) (at : ℕ) (cut : IsBehindEnd text at) → lines_of text ≡ cut.front ++ cut.last ∷ lines_of (drop at text)
whole_lines text at cut = cut.whole ∙ append_assoc cut.front (cut.last ∷ []) (lines_of (drop at text))

never_both : (text : List ℕ) (at : ℕ) → IsBehindEnd text at → All (λ line. ¬ IsEndLine line) (lines_of text) → ⊥
never_both text at cut none =
    is_among cut.front cut.last (lines_of (drop at text)) (All-same (λ line. ¬ IsEndLine line) _ _ (sym (whole_lines text at cut)) none) cut.is_end

pub split_once : (text : List ℕ) (at other : ℕ) → at ≤ length text → other ≤ length text → IsSplitAt text at → IsSplitAt text other → at ≡ other
split_once text at other within also (inl cut) (inl behind) =
    let same : lines_of (drop at text) ≡ lines_of (drop other text) =
    one_first cut.front behind.front cut.last behind.last (lines_of (drop at text)) (lines_of (drop other text)) cut.first behind.first cut.is_end behind.is_end
    (sym (whole_lines text at cut) ∙ whole_lines text other behind) in
    elim (cases_lt at other) [
      | inl before ↦ absurd (not_before text at other also same before)
      | inr from ↦ elim (cases_lt other at) [
        | inl after ↦ absurd (not_before text other at within (sym same) after)
        | inr upto ↦ omega arith
      ]
    ]
split_once text at other within also (inl cut) (inr (end, none)) = absurd (never_both text at cut none)
split_once text at other within also (inr (end, none)) (inl cut) = absurd (never_both text other cut none)
split_once text at other within also (inr (end, none)) (inr (last, _)) = end ∙ sym last
