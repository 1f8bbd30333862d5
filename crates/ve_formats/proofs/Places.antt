-- Where the tokens of a line stand.
use Rattle.std.proofs.Common.{◌≡◌, ℕ, ◌+◌, ◌-◌, ◌<◌, ◌≤◌, List, [], ◌∷◌, ◌++◌, length, arith, refl, sym, ap, ◌∙◌, append_assoc, length-append}
use Rattle.std.specs.Prelude.{IsTrue, slice_range}
use Rattle.std.proofs.Math.Seq.{drop-append_seam, take-append_seam}
use Rattle.ve_theory.specs.Validity.{is_name}
use Rattle.ve_formats.specs.Tokens.{Token, spelling, Placed, placed_at, Begins, with_name, with_number, with_symbol, is_number, Lexes, at_end, at_comment, past_separator, past_token, StandsIn, AreInOrder}

-- what a token is written with stands at the front, and is not empty
begins-spelling : {text rest : List ℕ} {token : Token} → Begins text token rest → text ≡ spelling token ++ rest
begins-spelling (with_name e h stops) = e
begins-spelling (with_number e h short stops) = e
begins-spelling (with_symbol e h) = e

length-name : (run : List ℕ) → IsTrue (is_name run) → 0 < length run
unfolding is_name
length-name [] h = absurd (cc)
length-name (b ∷ run) h = omega arith

length-number : (run : List ℕ) → IsTrue (is_number run) → 0 < length run
length-number [] h = absurd (cc)
length-number (b ∷ run) h = omega arith

length-spelling : {text rest : List ℕ} {token : Token} → Begins text token rest → 0 < length (spelling token)
length-spelling (with_name {run} e h stops) = length-name run h
length-spelling (with_number {run} e h short stops) = length-number run h
length-spelling (with_symbol e h) = omega arith

-- a piece behind what comes before it
slice_behind : (before piece rest : List ℕ) → slice_range (before ++ (piece ++ rest)) (length before) (length before + length piece) ≡ piece
slice_behind before piece rest =
    let reach : length before + length piece - length before ≡ length piece = omega arith in
    rw (drop-append_seam before (piece ++ rest), reach, take-append_seam piece rest) refl

pub in_order : {at : ℕ} {text : List ℕ} {tokens : List Placed} → Lexes at text tokens → (before line : List ℕ) (from : ℕ) → line ≡ before ++ text → length before ≡ at → from ≤ at → AreInOrder line from tokens
in_order at_end before line from e h le = tt
in_order (at_comment sign) before line from e h le = tt
in_order {at} (past_separator {b} {rest} split separates later) before line from e h le =
    in_order later (before ++ b ∷ []) line from (e ∙ ap (λ t. before ++ t) split ∙ sym (append_assoc before (b ∷ []) rest)) (length-append before (b ∷ []) ∙ ap (λ n. n + 1) h) (omega arith)
in_order {at} (past_token {rest} {token} begins later) before line from e h le =
    let piece = spelling token in
    let whole : line ≡ before ++ (piece ++ rest) = e ∙ ap (λ t. before ++ t) (begins-spelling begins) in
    let sizes : length line ≡ length before + (length piece + length rest) = ap length whole ∙ length-append before (piece ++ rest) ∙ ap (λ n. length before + n) (length-append piece rest) in
    let some = length-spelling begins in
    let stands : StandsIn line (placed_at at token) = record {
      some = omega arith;
      within = omega arith;
      bytes = ap (λ l. slice_range l at (at + length piece)) whole ∙ ap (λ n. slice_range (before ++ (piece ++ rest)) n (n + length piece)) (sym h) ∙ slice_behind before piece rest;
    } in
    (le, stands, in_order later (before ++ piece) line (at + length piece) (whole ∙ sym (append_assoc before piece rest)) (length-append before piece ∙ ap (λ n. n + length piece) h) (omega arith))
