-- What stands at the front of a text, as a function of the text.
use Rattle.std.proofs.Common.{◌≡◌, ℕ, ◌<◌, ◌≤◌, Bool, true, false, cond, List, [], ◌∷◌, ◌++◌, length, arith, refl, ap, ◌∙◌, inl, inr}
use Rattle.std.specs.Prelude.{nat_eq, nat_le, IsTrue, IsFalse}
use Rattle.std.specs.List.{list_all}
use Rattle.std.proofs.lemmas.Bool.{cases_Bool, and_parts, cond-true, cond-false, le-leb, lt-leb}
use Rattle.std.proofs.lemmas.Bool.Decides.{nat_tests}
use Rattle.ve_theory.specs.Validity.{is_name_letter, is_digit, is_name}
use Rattle.ve_formats.specs.Tokens.{Token, name, number, symbol, Begins, with_name, with_number, with_symbol, StartsWithout, is_number, is_separator, is_symbol, is_beginning, is_name_part, comment_sign, most_digits}

-- the longest run of such bytes at the front, and what stands behind it
unfoldable pub run_of : (ℕ → Bool) → List ℕ → List ℕ
run_of belongs [] = []
run_of belongs (b ∷ text) = cond (belongs b) (b ∷ run_of belongs text) []

unfoldable pub rest_of : (ℕ → Bool) → List ℕ → List ℕ
rest_of belongs [] = []
rest_of belongs (b ∷ text) = cond (belongs b) (rest_of belongs text) (b ∷ text)

-- nothing more, a separator, a token, a bad byte, or too many digits
pub data Front : Type 0 where
  over : Front
  skipped : List ℕ → Front
  found : Token → List ℕ → Front
  bad : Front
  long : Front

-- a number, if it isn't too long
pub as_number : List ℕ → List ℕ → Front
as_number run rest = cond (nat_le (length run) most_digits) (found (number run) rest) long

unfoldable pub front : List ℕ → Front
front [] = over
front (b ∷ text) =
    cond (nat_eq b comment_sign) over
    (cond (is_separator b) (skipped text)
    (cond (is_symbol b) (found (symbol b) text)
    (cond (is_name_letter b) (found (name (b ∷ run_of is_name_part text)) (rest_of is_name_part text))
    (cond (is_digit b) (as_number (b ∷ run_of is_digit text) (rest_of is_digit text))
    bad))))

-- a run is the longest where it stops
run_of-whole : (belongs : ℕ → Bool) (run rest : List ℕ) → IsTrue (list_all belongs run) → StartsWithout belongs rest → (run_of belongs (run ++ rest) ≡ run) × (rest_of belongs (run ++ rest) ≡ rest)
unfolding run_of rest_of
run_of-whole belongs [] [] all stops = (refl, refl)
run_of-whole belongs [] (b ∷ rest) all stops = (cond-false _ _ _ stops, cond-false _ _ _ stops)
run_of-whole belongs (b ∷ run) rest all stops =
    let parts = and_parts _ _ all in
    let more = run_of-whole belongs run rest parts.1 stops in
    (cond-true _ _ _ parts.0 ∙ ap (λ bs. b ∷ bs) more.0, cond-true _ _ _ parts.0 ∙ more.1)

-- no run is longer than the longest
length-run_of : (belongs : ℕ → Bool) (run rest : List ℕ) → IsTrue (list_all belongs run) → length run ≤ length (run_of belongs (run ++ rest))
unfolding run_of
length-run_of belongs [] rest all = omega arith
length-run_of belongs (b ∷ run) rest all =
    let parts = and_parts _ _ all in
    let more = length-run_of belongs run rest parts.1 in
    rw (cond-true (belongs b) (b ∷ run_of belongs (run ++ rest)) [] parts.0) (omega arith)

-- the longest run and its rest are the text, and the run stops there
pub run_of-append : (belongs : ℕ → Bool) (text : List ℕ) → text ≡ run_of belongs text ++ rest_of belongs text
unfolding run_of rest_of
run_of-append belongs [] = refl
run_of-append belongs (b ∷ text) =
    elim (cases_Bool (belongs b)) [
      | inl belonging ↦ rw (cond-true (belongs b) (b ∷ run_of belongs text) [] belonging, cond-true (belongs b) (rest_of belongs text) (b ∷ text) belonging) (ap (λ bs. b ∷ bs) (run_of-append belongs text))
      | inr other ↦ rw (cond-false (belongs b) (b ∷ run_of belongs text) [] other, cond-false (belongs b) (rest_of belongs text) (b ∷ text) other) refl
    ]

pub run_of-all : (belongs : ℕ → Bool) (text : List ℕ) → IsTrue (list_all belongs (run_of belongs text))
unfolding run_of
run_of-all belongs [] = refl
run_of-all belongs (b ∷ text) =
    elim (cases_Bool (belongs b)) [
      | inl belonging ↦ rw (cond-true (belongs b) (b ∷ run_of belongs text) [] belonging, belonging) (run_of-all belongs text)
      | inr other ↦ rw (cond-false (belongs b) (b ∷ run_of belongs text) [] other) refl
    ]

pub rest_of-end : (belongs : ℕ → Bool) (text : List ℕ) → StartsWithout belongs (rest_of belongs text)
unfolding rest_of
rest_of-end belongs [] = tt
rest_of-end belongs (b ∷ text) =
    elim (cases_Bool (belongs b)) [
      | inl belonging ↦ rw (cond-true (belongs b) (rest_of belongs text) (b ∷ text) belonging) (rest_of-end belongs text)
      | inr other ↦ rw (cond-false (belongs b) (rest_of belongs text) (b ∷ text) other) other
    ]

pub length-rest_of : (belongs : ℕ → Bool) (text : List ℕ) → length (rest_of belongs text) ≤ length text
unfolding rest_of
length-rest_of belongs [] = omega arith
length-rest_of belongs (b ∷ text) =
    let more = length-rest_of belongs text in
    elim (belongs b) as (λ v. length (cond v (rest_of belongs text) (b ∷ text)) ≤ length (b ∷ text)) [ true ↦ omega arith | false ↦ omega arith ]

-- no byte begins two kinds of things
module _ (b : ℕ) where
  separator_is_no_sign : IsTrue (is_separator b) → IsFalse (nat_eq b comment_sign)
  separator_is_no_sign h = grind (arith, nat_tests)

  symbol_is_nothing_else : IsTrue (is_symbol b) → IsFalse (nat_eq b comment_sign) × IsFalse (is_separator b)
  symbol_is_nothing_else h = (grind (arith, nat_tests), grind (arith, nat_tests))

  letter_is_nothing_else : IsTrue (is_name_letter b) → IsFalse (nat_eq b comment_sign) × IsFalse (is_separator b) × IsFalse (is_symbol b)
  letter_is_nothing_else h = (grind (arith, nat_tests), grind (arith, nat_tests), grind (arith, nat_tests))

  digit_is_nothing_else : IsTrue (is_digit b) → IsFalse (nat_eq b comment_sign) × IsFalse (is_separator b) × IsFalse (is_symbol b) × IsFalse (is_name_letter b)
  digit_is_nothing_else h = (grind (arith, nat_tests), grind (arith, nat_tests), grind (arith, nat_tests), grind (arith, nat_tests))

  bad_is_nothing_else : IsFalse (is_beginning b) → IsFalse (nat_eq b comment_sign) × IsFalse (is_separator b) × IsFalse (is_symbol b) × IsFalse (is_name_letter b) × IsFalse (is_digit b)
  bad_is_nothing_else h = grind (arith, nat_tests)

-- what the front is, by what stands there
module _ (b : ℕ) (text : List ℕ) where
  pub front-separator : IsTrue (is_separator b) → front (b ∷ text) ≡ skipped text
  unfolding front
  front-separator h = cond-false _ _ _ (separator_is_no_sign b h) ∙ cond-true _ _ _ h

  pub front-symbol : IsTrue (is_symbol b) → front (b ∷ text) ≡ found (symbol b) text
  unfolding front
  front-symbol h =
      let other = symbol_is_nothing_else b h in
      cond-false _ _ _ other.0 ∙ cond-false _ _ _ other.1 ∙ cond-true _ _ _ h

  pub front-letter : IsTrue (is_name_letter b) → front (b ∷ text) ≡ found (name (b ∷ run_of is_name_part text)) (rest_of is_name_part text)
  unfolding front
  front-letter h =
      let other = letter_is_nothing_else b h in
      cond-false _ _ _ other.0 ∙ cond-false _ _ _ other.1 ∙ cond-false _ _ _ other.2 ∙ cond-true _ _ _ h

  pub front-digit : IsTrue (is_digit b) → front (b ∷ text) ≡ as_number (b ∷ run_of is_digit text) (rest_of is_digit text)
  unfolding front
  front-digit h =
      let other = digit_is_nothing_else b h in
      cond-false _ _ _ other.0 ∙ cond-false _ _ _ other.1 ∙ cond-false _ _ _ other.2 ∙ cond-false _ _ _ other.3 ∙ cond-true _ _ _ h

  pub front-bad : IsFalse (is_beginning b) → front (b ∷ text) ≡ bad
  unfolding front
  front-bad h =
      let other = bad_is_nothing_else b h in
      cond-false _ _ _ other.0 ∙ cond-false _ _ _ other.1 ∙ cond-false _ _ _ other.2 ∙ cond-false _ _ _ other.3 ∙ cond-false _ _ _ other.4

-- a token that the text begins with is found
pub front-begins : {text rest : List ℕ} {token : Token} → Begins text token rest → front text ≡ found token rest
unfolding is_name as_number
front-begins (with_name {run = []} e h stops) = absurd (cc)
front-begins (with_name {run = b ∷ bs} {rest} e h stops) =
    let parts = and_parts _ _ h in
    let whole = run_of-whole is_name_part bs rest parts.1 stops in
    ap front e ∙ front-letter b (bs ++ rest) parts.0 ∙ (λ i. found (name (b ∷ whole.0 i)) (whole.1 i))
front-begins (with_number {run = []} e h short stops) = absurd (cc)
front-begins (with_number {run = b ∷ bs} {rest} e h short stops) =
    let parts = and_parts _ _ h in
    let whole = run_of-whole is_digit bs rest parts.1 stops in
    ap front e ∙ front-digit b (bs ++ rest) parts.0 ∙ (λ i. as_number (b ∷ whole.0 i) (whole.1 i)) ∙ cond-true _ _ _ (le-leb _ _ short)
front-begins (with_symbol {rest} {b} e h) = ap front e ∙ front-symbol b rest h

pub front-long : (text run rest : List ℕ) → text ≡ run ++ rest → IsTrue (is_number run) → most_digits < length run → front text ≡ long
unfolding as_number
front-long text [] rest e h much = absurd (cc)
front-long text (b ∷ bs) rest e h much =
    let parts : IsTrue (is_digit b) × IsTrue (list_all is_digit bs) = and_parts _ _ h in
    let longer = length-run_of is_digit bs rest parts.1 in
    let too_long : most_digits < length (b ∷ run_of is_digit (bs ++ rest)) = omega arith in
    ap front e ∙ front-digit b (bs ++ rest) parts.0 ∙ cond-false _ _ _ (lt-leb _ _ too_long)
