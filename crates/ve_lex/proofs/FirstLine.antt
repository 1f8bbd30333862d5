-- The first line of a text ends at the first line feed.
use Rattle.std.proofs.Common.{◌≡◌, ℕ, ◌+◌, ◌-◌, ◌<◌, zero, suc, Bool, true, false, inl, inr, List, [], ◌∷◌, ◌++◌, length, take, drop, get_or, Some, None, arith, sym, ap, ◌∙◌}
use Rattle.std.specs.Prelude.{position, nat_eq, nat_lt}
use Rattle.std.specs.List.{position_or_len}
use Rattle.std.proofs.lemmas.Bool.{cases_Bool, cond-true, cond-false, ltb-false, eqb-true}
use Rattle.std.proofs.lemmas.List.Quantifiers.{position-Some}
use Rattle.std.proofs.lemmas.List.Sums.{fails_before_first}
use Rattle.std.proofs.lemmas.List.{take-append-drop, take_rest}
use Rattle.std.proofs.Math.Seq.{drop-cons, drop-length}
use Rattle.std.proofs.Math.Numerals.{add-one}
use Rattle.ve_formats.specs.Lines.{lines_of, onto_first_line, line_feed}

abbrev is_feed : ℕ → Bool
is_feed b = nat_eq b line_feed

lines_of-at_feed : (text : List ℕ) (i : ℕ) → i < length text → is_feed (get_or text i 0) ≡ true → ((k : ℕ) → k < i → is_feed (get_or text k 0) ≡ false) → lines_of text ≡ take i text ∷ lines_of (drop (suc i) text)
unfolding lines_of onto_first_line
lines_of-at_feed [] i within feed before = absurd (omega arith)
lines_of-at_feed (b ∷ text) zero within feed before = cond-true _ _ _ feed
lines_of-at_feed (b ∷ text) (suc i) within feed before =
    cond-false _ _ _ (before 0 (omega arith))
    ∙ ap (onto_first_line b) (lines_of-at_feed text i (omega arith) feed (λ k below. before (suc k) (omega arith)))

lines_of-one : (b : ℕ) (text : List ℕ) → ((k : ℕ) → k < length (b ∷ text) → is_feed (get_or (b ∷ text) k 0) ≡ false) → lines_of (b ∷ text) ≡ (b ∷ text) ∷ []
unfolding lines_of onto_first_line
lines_of-one b [] none = cond-false _ _ _ (none 0 (omega arith))
lines_of-one b (c ∷ text) none =
    cond-false _ _ _ (none 0 (omega arith)) ∙ ap (onto_first_line b) (lines_of-one c text (λ k below. none (suc k) (omega arith)))

-- a search that fails has passed every byte
no_feed : (text : List ℕ) → position is_feed text ≡ None → (k : ℕ) → k < length text → is_feed (get_or text k 0) ≡ false
no_feed text missing k within =
    elim (cases_Bool (nat_lt (position_or_len is_feed text) (length text))) [
      | inl before ↦ absurd (let there : position is_feed text ≡ Some (position_or_len is_feed text) = cond-true _ _ _ before in cc)
      | inr past ↦ let all = ltb-false _ _ past in fails_before_first is_feed text k 0 (omega arith)
    ]

-- a text that is cut at its first line feed
module _ (text : List ℕ) (i : ℕ) (found : position is_feed text ≡ Some i) where
  rest_behind : take (length text - (i + 1)) (drop (i + 1) text) ≡ drop (suc i) text
  rest_behind = take_rest text (i + 1) ∙ ap (λ n. drop n text) (add-one i)

  pub lines_of-feed : lines_of text ≡ take i text ∷ lines_of (take (length text - (i + 1)) (drop (i + 1) text))
  lines_of-feed =
      let at = position-Some is_feed text i 0 found in
      lines_of-at_feed text i at.0 at.1 at.2 ∙ ap (λ rest. take i text ∷ lines_of rest) (sym rest_behind)

  pub is_cut_at_feed : text ≡ take i text ++ line_feed ∷ take (length text - (i + 1)) (drop (i + 1) text)
  is_cut_at_feed =
      let at = position-Some is_feed text i 0 found in
      sym (take-append-drop i text) ∙ ap (λ rest. take i text ++ rest) (drop-cons text i 0 at.0 ∙ (λ j. eqb-true _ _ at.1 j ∷ sym rest_behind j))

pub lines_of-last : (text : List ℕ) → position is_feed text ≡ None → 0 < length text → lines_of text ≡ text ∷ lines_of (take (length text - length text) (drop (length text) text))
unfolding lines_of
lines_of-last [] missing some = absurd (omega arith)
lines_of-last (b ∷ text) missing some =
    lines_of-one b text (no_feed (b ∷ text) missing) ∙ ap (λ rest. (b ∷ text) ∷ lines_of rest) (sym (take_rest (b ∷ text) (length (b ∷ text)) ∙ drop-length (b ∷ text)))
