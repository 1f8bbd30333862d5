-- Lines that are written token by token, and the tokens that they are read as.
use Rattle.std.proofs.Common.{◌≡◌, ℕ, ◌+◌, ◌<◌, ◌≤◌, ◌^◌, Bool, false, not, ◌||◌, List, [], ◌∷◌, ◌++◌, length, map, All, refl, sym, subst, ap, ◌∙◌, inl, inr, arith, append_assoc, append-nil}
use Rattle.std.specs.Prelude.{nat_eq, decimal, codes, IsTrue, IsFalse, count_by}
use Rattle.std.specs.List.{list_all}
use Rattle.std.proofs.lemmas.Bool.{cases_Bool, and_parts, and_from, cond-true, cond-false}
use Rattle.std.proofs.lemmas.Bool.Decides.{nat_tests}
use Rattle.std.proofs.lemmas.List.Elements.{All-head, All-tail}
use Rattle.std.proofs.lemmas.List.Folds.{list_all-append}
use Rattle.ve_theory.specs.Validity.{is_name_letter, is_digit, is_name}
use Rattle.ve_formats.specs.Lines.{line_feed}
use Rattle.ve_formats.specs.Tokens.{Token, name, number, symbol, spelling, Placed, placed_at, Begins, with_name, with_number, with_symbol, StartsWithout, is_number, is_symbol, is_name_part, most_digits, Lexes, at_end, past_separator, past_token}
use Rattle.ve_formats.specs.Expressions.{plus_sign, times_sign}
use Rattle.ve_formats.specs.PresentationText.{tokens_of, is_sign}
use Rattle.ve_formats.specs.CanonicalText.{coefficient_text, joined_terms}
use Rattle.ve_formats.proofs.Decimals.{is_number-decimal, length-decimal}
use Rattle.ve_formats.proofs.CanonicalTerms.{coefficient_tokens, added_tokens, sum_tokens}

abbrev pub is_of_line : ℕ → Bool
is_of_line b = not (nat_eq b line_feed)

-- The text is one line of these tokens, none of which is a `(`.
pub record Lexed (text : List ℕ) (tokens : List Token) : Type 0 where
  pub placed : ℕ → List Placed
  pub lexes : (at : ℕ) → Lexes at text (placed at)
  pub same : (at : ℕ) → tokens_of (placed at) ≡ tokens
  pub shallow : count_by (is_sign 40) tokens ≡ 0
  pub one_line : IsTrue (list_all is_of_line text)

-- a token and what follows it
lexed_token : {text rest : List ℕ} {token : Token} {later : List Token} → Begins text token rest → is_sign 40 token ≡ false → IsTrue (list_all is_of_line text) → Lexed rest later → Lexed text (token ∷ later)
lexed_token {token} begins closed one_line h = record {
  placed = λ at. placed_at at token ∷ h.placed (at + length (spelling token));
  lexes = λ at. past_token begins (h.lexes (at + length (spelling token)));
  same = λ at. ap (λ tokens. token ∷ tokens) (h.same (at + length (spelling token)));
  shallow = rw closed h.shallow;
  one_line = one_line;
}

pub lexed_end : Lexed [] []
lexed_end = record { placed = λ at. []; lexes = λ at. at_end; same = λ at. refl; shallow = refl; one_line = refl }

pub lexed_space : {rest : List ℕ} {later : List Token} → Lexed rest later → Lexed (32 ∷ rest) later
lexed_space h = record {
  placed = λ at. h.placed (at + 1);
  lexes = λ at. past_separator refl refl (h.lexes (at + 1));
  same = λ at. h.same (at + 1);
  shallow = h.shallow;
  one_line = h.one_line;
}

pub lexed_symbol : {rest : List ℕ} {later : List Token} (b : ℕ) → IsTrue (is_symbol b) → IsFalse (nat_eq 40 b) → IsFalse (nat_eq b line_feed) → Lexed rest later → Lexed (b ∷ rest) (symbol b ∷ later)
lexed_symbol b h closed stays k = lexed_token (with_symbol refl h) closed (rw stays k.one_line) k

or_from_left : (a b : Bool) → IsTrue a → IsTrue (a || b)
or_from_left a b h = rw h refl

-- no part of a name and no digit ends a line
part_of_line : (b : ℕ) → IsTrue (is_name_part b) → IsTrue (is_of_line b)
part_of_line b h = grind (arith, nat_tests)

digit_of_line : (b : ℕ) → IsTrue (is_digit b) → IsTrue (is_of_line b)
digit_of_line b h = grind (arith, nat_tests)

pub list_all-weaker : (p q : ℕ → Bool) → ((b : ℕ) → IsTrue (p b) → IsTrue (q b)) → (bs : List ℕ) → IsTrue (list_all p bs) → IsTrue (list_all q bs)
list_all-weaker p q weaker [] h = refl
list_all-weaker p q weaker (b ∷ bs) h = let parts = and_parts _ _ h in and_from _ _ (weaker b parts.0) (list_all-weaker p q weaker bs parts.1)

name_of_line : (run : List ℕ) → IsTrue (is_name run) → IsTrue (list_all is_of_line run)
unfolding is_name
name_of_line [] h = refl
name_of_line (b ∷ run) h =
    let parts = and_parts _ _ h in
    and_from _ _ (part_of_line b (or_from_left (is_name_letter b) (is_digit b) parts.0)) (list_all-weaker is_name_part is_of_line part_of_line run parts.1)

number_of_line : (run : List ℕ) → IsTrue (is_number run) → IsTrue (list_all is_of_line run)
number_of_line [] h = refl
number_of_line (b ∷ run) h = list_all-weaker is_digit is_of_line digit_of_line (b ∷ run) h

together_of_line : (run rest : List ℕ) → IsTrue (list_all is_of_line run) → IsTrue (list_all is_of_line rest) → IsTrue (list_all is_of_line (run ++ rest))
together_of_line run rest h k = list_all-append is_of_line run rest ∙ and_from _ _ h k

pub lexed_name : {rest : List ℕ} {later : List Token} (run : List ℕ) → IsTrue (is_name run) → StartsWithout is_name_part rest → Lexed rest later → Lexed (run ++ rest) (name run ∷ later)
lexed_name {rest} run h stops k = lexed_token (with_name refl h stops) refl (together_of_line run rest (name_of_line run h) k.one_line) k

stops_digits : (rest : List ℕ) → StartsWithout is_name_part rest → StartsWithout is_digit rest
stops_digits [] h = tt
stops_digits (b ∷ rest) h = grind (arith, nat_tests)

pub lexed_digits : {rest : List ℕ} {later : List Token} (run : List ℕ) → IsTrue (is_number run) → length run ≤ most_digits → StartsWithout is_name_part rest → Lexed rest later
    → Lexed (run ++ rest) (number run ∷ later)
lexed_digits {rest} run digits short stops k =
    lexed_token (with_number refl digits short (stops_digits rest stops)) refl (together_of_line run rest (number_of_line run digits) k.one_line) k

-- The text is read as these tokens where no part of a name follows it.
abbrev pub Reads : List ℕ → List Token → Type 0
Reads text tokens = (rest : List ℕ) (later : List Token) → StartsWithout is_name_part rest → Lexed rest later → Lexed (text ++ rest) (tokens ++ later)

pub reads_name : (run : List ℕ) → IsTrue (is_name run) → Reads run (name run ∷ [])
reads_name run h rest later stops k = lexed_name run h stops k

pub reads_number : (n : ℕ) → n < 10 ^ most_digits → Reads (decimal n) (number (decimal n) ∷ [])
reads_number n small rest later stops k = lexed_digits (decimal n) (is_number-decimal n (omega arith)) (length-decimal n small) stops k

-- a piece, a `*` and another piece
pub reads_product : (front back : List ℕ) (tokens more : List Token) → Reads front tokens → Reads back more → Reads (front ++ 42 ∷ back) (tokens ++ times_sign ∷ more)
reads_product front back tokens more h k rest later stops l =
    let whole : Lexed (front ++ 42 ∷ (back ++ rest)) (tokens ++ times_sign ∷ (more ++ later)) = h (42 ∷ (back ++ rest)) (times_sign ∷ (more ++ later)) refl (lexed_symbol 42 refl refl refl (k rest later stops l)) in
    subst (λ text. Lexed text ((tokens ++ times_sign ∷ more) ++ later)) (sym (append_assoc front (42 ∷ back) rest))
    (subst (Lexed (front ++ 42 ∷ (back ++ rest))) (sym (append_assoc tokens (times_sign ∷ more) later)) whole)

-- a piece, a space and another piece
pub reads_spaced : (front back : List ℕ) (tokens more : List Token) → Reads front tokens → Reads back more → Reads (front ++ 32 ∷ back) (tokens ++ more)
reads_spaced front back tokens more h k rest later stops l =
    subst (λ text. Lexed text ((tokens ++ more) ++ later)) (sym (append_assoc front (32 ∷ back) rest))
    (subst (Lexed (front ++ 32 ∷ (back ++ rest))) (sym (append_assoc tokens more later)) (h (32 ∷ (back ++ rest)) (more ++ later) refl (lexed_space (k rest later stops l))))

-- a coefficient that isn't 1, a `*` and another piece
pub reads_coefficient : (c : ℕ) (text : List ℕ) (tokens : List Token) → c < 10 ^ most_digits → Reads text tokens → Reads (coefficient_text c ++ text) (coefficient_tokens c ++ tokens)
reads_coefficient c text tokens small h =
    elim (cases_Bool (nat_eq c 1)) [
      | inl one ↦ rw (cond-true (nat_eq c 1) [] (decimal c ++ codes "*") one, cond-true (nat_eq c 1) [] (number (decimal c) ∷ times_sign ∷ []) one) h
      | inr other ↦
          rw (cond-false (nat_eq c 1) [] (decimal c ++ codes "*") other, cond-false (nat_eq c 1) [] (number (decimal c) ∷ times_sign ∷ []) other)
          (subst (λ all. Reads all (number (decimal c) ∷ times_sign ∷ tokens)) (sym (append_assoc (decimal c) (codes "*") text))
          (reads_product (decimal c) text (number (decimal c) ∷ []) tokens (reads_number c small) h))
    ]

-- a piece, a `+` between spaces, and another piece
reads_plus : (front back : List ℕ) (tokens more : List Token) → Reads front tokens → Reads back more → Reads ((front ++ codes " + ") ++ back) (tokens ++ plus_sign ∷ more)
reads_plus front back tokens more h k rest later stops l =
    let whole : Lexed (front ++ 32 ∷ 43 ∷ 32 ∷ (back ++ rest)) (tokens ++ plus_sign ∷ (more ++ later)) =
    h (32 ∷ 43 ∷ 32 ∷ (back ++ rest)) (plus_sign ∷ (more ++ later)) refl (lexed_space (lexed_symbol 43 refl refl refl (lexed_space (k rest later stops l)))) in
    subst (λ text. Lexed text ((tokens ++ plus_sign ∷ more) ++ later)) (sym (ap (λ text. text ++ rest) (append_assoc front (codes " + ") back) ∙ append_assoc front (codes " + " ++ back) rest))
    (subst (Lexed (front ++ 32 ∷ 43 ∷ 32 ∷ (back ++ rest))) (sym (append_assoc tokens (plus_sign ∷ more) later)) whole)

-- a sum
module _ {X : Type 0} (text : X → List ℕ) (tokens : X → List Token) where
  pub reads_sum : (t : X) (v : List X) → All (λ t. Reads (text t) (tokens t)) (t ∷ v) → Reads (joined_terms (map text (t ∷ v))) (sum_tokens tokens (t ∷ v))
  unfolding joined_terms sum_tokens added_tokens
  reads_sum t [] each = subst (Reads (text t)) (sym (append-nil (tokens t))) (All-head (λ t. Reads (text t) (tokens t)) t [] each)
  reads_sum t (u ∷ v) each =
      reads_plus (text t) (joined_terms (map text (u ∷ v))) (tokens t) (sum_tokens tokens (u ∷ v)) (All-head (λ t. Reads (text t) (tokens t)) t (u ∷ v) each)
      (reads_sum u v (All-tail (λ t. Reads (text t) (tokens t)) t (u ∷ v) each))

-- a whole line
pub lexed_whole : (text : List ℕ) (tokens : List Token) → Reads text tokens → Lexed text tokens
lexed_whole text tokens h =
    subst (λ ts. Lexed text ts) (append-nil tokens) (subst (λ t. Lexed t (tokens ++ [])) (append-nil text) (h [] [] tt lexed_end))

-- a name, a space and more
pub lexed_word : {rest : List ℕ} {later : List Token} (run : List ℕ) → IsTrue (is_name run) → Lexed rest later → Lexed (run ++ 32 ∷ rest) (name run ∷ later)
lexed_word run h k = lexed_name run h refl (lexed_space k)
