-- Each text has one list of tokens or one first fault.
use Rattle.std.proofs.Common.{◌≡◌, ℕ, ◌+◌, ◌≤◌, zero, suc, ◌⊎◌, inl, inr, List, [], ◌∷◌, length, arith, refl, sym, ap, ◌∙◌, subst}
use Rattle.std.specs.Prelude.{nat_eq, IsTrue, IsFalse}
use Rattle.std.proofs.lemmas.Bool.{cases_Bool, cases_lt, eqb-true, and_from, or_from}
use Rattle.ve_theory.specs.Validity.{is_name_letter, is_digit, is_name}
use Rattle.ve_formats.specs.Tokens.{Token, name, number, spelling, Placed, placed_at, Fault, bad_byte, long_number, Begins, with_name, with_number, with_symbol, is_separator, is_symbol, is_beginning, is_name_part, comment_sign, most_digits, Lexes, at_end, at_comment, past_separator, past_token, FailsToLex, at_bad_byte, at_long_number, behind_separator, behind_token}
use Rattle.ve_formats.proofs.Fronts.{Front, over, skipped, found, bad, long, front, front-separator, front-begins, front-bad, front-long, run_of, rest_of, run_of-append, run_of-all, rest_of-end, length-rest_of}

-- the tokens of a text, by its front
abbrev TokensAfter : ℕ → Front → List Placed → Type 0
TokensAfter at over tokens = tokens ≡ []
TokensAfter at (skipped rest) tokens = Lexes (at + 1) rest tokens
TokensAfter at (found token rest) tokens = (later : List Placed) × (tokens ≡ placed_at at token ∷ later) × Lexes (at + length (spelling token)) rest later
TokensAfter at bad tokens = ⊥
TokensAfter at long tokens = ⊥

-- the fault of a text, by its front
abbrev FaultAfter : ℕ → Front → Fault → Type 0
FaultAfter at over fault = ⊥
FaultAfter at (skipped rest) fault = FailsToLex (at + 1) rest fault
FaultAfter at (found token rest) fault = FailsToLex (at + length (spelling token)) rest fault
FaultAfter at bad fault = fault ≡ bad_byte at
FaultAfter at long fault = fault ≡ long_number at

tokens_after : {at : ℕ} {text : List ℕ} {tokens : List Placed} → Lexes at text tokens → TokensAfter at (front text) tokens
unfolding front
tokens_after at_end = refl
tokens_after {at} {tokens} (at_comment {rest} e) = subst (λ t. TokensAfter at (front t) []) (sym e) refl
tokens_after {at} {tokens} (past_separator {b} {rest} e h later) = subst (λ f. TokensAfter at f tokens) (sym (ap front e ∙ front-separator b rest h)) later
tokens_after {at} {tokens} (past_token {tokens = more} begins later) = subst (λ f. TokensAfter at f tokens) (sym (front-begins begins)) (more, refl, later)

fault_after : {at : ℕ} {text : List ℕ} {fault : Fault} → FailsToLex at text fault → FaultAfter at (front text) fault
fault_after {at} {fault} (at_bad_byte {b} {rest} e h) = subst (λ f. FaultAfter at f fault) (sym (ap front e ∙ front-bad b rest h)) refl
fault_after {at} {fault} (at_long_number {text} run rest e h much) = subst (λ f. FaultAfter at f fault) (sym (front-long text run rest e h much)) refl
fault_after {at} {fault} (behind_separator {b} {rest} e h later) = subst (λ f. FaultAfter at f fault) (sym (ap front e ∙ front-separator b rest h)) later
fault_after {at} {fault} (behind_token begins later) = subst (λ f. FaultAfter at f fault) (sym (front-begins begins)) later

-- one list of tokens
pub lexes_once : {at : ℕ} {text : List ℕ} {tokens others : List Placed} → Lexes at text tokens → Lexes at text others → tokens ≡ others
unfolding front
lexes_once at_end other = sym (tokens_after other)
lexes_once {at} {others} (at_comment e) other = sym (subst (λ t. TokensAfter at (front t) others) e (tokens_after other))
lexes_once {at} {others} (past_separator {b} {rest} e h later) other =
    lexes_once later (subst (λ f. TokensAfter at f others) (ap front e ∙ front-separator b rest h) (tokens_after other))
lexes_once {at} {others} (past_token {token} begins later) other =
    let after = subst (λ f. TokensAfter at f others) (front-begins begins) (tokens_after other) in
    ap (λ more. placed_at at token ∷ more) (lexes_once later after.2) ∙ sym after.1

-- one first fault
pub fails_once : {at : ℕ} {text : List ℕ} {fault other : Fault} → FailsToLex at text fault → FailsToLex at text other → fault ≡ other
fails_once {at} {other} (at_bad_byte {b} {rest} e h) fails = sym (subst (λ f. FaultAfter at f other) (ap front e ∙ front-bad b rest h) (fault_after fails))
fails_once {at} {other} (at_long_number {text} run rest e h much) fails = sym (subst (λ f. FaultAfter at f other) (front-long text run rest e h much) (fault_after fails))
fails_once {at} {other} (behind_separator {b} {rest} e h later) fails = fails_once later (subst (λ f. FaultAfter at f other) (ap front e ∙ front-separator b rest h) (fault_after fails))
fails_once {at} {other} (behind_token begins later) fails = fails_once later (subst (λ f. FaultAfter at f other) (front-begins begins) (fault_after fails))

-- never both
pub lexes_or_fails : {at : ℕ} {text : List ℕ} {tokens : List Placed} {fault : Fault} → Lexes at text tokens → FailsToLex at text fault → ⊥
unfolding front
lexes_or_fails at_end fails = fault_after fails
lexes_or_fails {at} {fault} (at_comment e) fails = subst (λ t. FaultAfter at (front t) fault) e (fault_after fails)
lexes_or_fails {at} {fault} (past_separator {b} {rest} e h later) fails = lexes_or_fails later (subst (λ f. FaultAfter at f fault) (ap front e ∙ front-separator b rest h) (fault_after fails))
lexes_or_fails {at} {fault} (past_token begins later) fails = lexes_or_fails later (subst (λ f. FaultAfter at f fault) (front-begins begins) (fault_after fails))

-- tokens or a fault
abbrev Lexed : ℕ → List ℕ → Type 0
Lexed at text = ((tokens : List Placed) × Lexes at text tokens) ⊎ ((fault : Fault) × FailsToLex at text fault)

lexed_past_separator : (at b : ℕ) (rest : List ℕ) → IsTrue (is_separator b) → Lexed (at + 1) rest → Lexed at (b ∷ rest)
lexed_past_separator at b rest h (inl (tokens, later)) = inl (tokens, past_separator refl h later)
lexed_past_separator at b rest h (inr (fault, later)) = inr (fault, behind_separator refl h later)

lexed_past_token : {at : ℕ} {text rest : List ℕ} {token : Token} → Begins text token rest → Lexed (at + length (spelling token)) rest → Lexed at text
lexed_past_token {at} {token} begins (inl (tokens, later)) = inl (placed_at at token ∷ tokens, past_token begins later)
lexed_past_token begins (inr (fault, later)) = inr (fault, behind_token begins later)

-- what a byte begins
data Kind (b : ℕ) : Type 0 where
  of_comment : b ≡ comment_sign → Kind b
  of_separator : IsTrue (is_separator b) → Kind b
  of_symbol : IsTrue (is_symbol b) → Kind b
  of_name : IsTrue (is_name_letter b) → Kind b
  of_number : IsTrue (is_digit b) → Kind b
  of_nothing : IsFalse (is_beginning b) → Kind b

kind : (b : ℕ) → Kind b
kind b =
    elim (cases_Bool (nat_eq b comment_sign)) [
      | inl h ↦ of_comment (eqb-true _ _ h)
      | inr sign ↦
          elim (cases_Bool (is_separator b)) [
            | inl h ↦ of_separator h
            | inr separator ↦
                elim (cases_Bool (is_symbol b)) [
                  | inl h ↦ of_symbol h
                  | inr symbols ↦
                      elim (cases_Bool (is_name_letter b)) [
                        | inl h ↦ of_name h
                        | inr letter ↦
                            elim (cases_Bool (is_digit b)) [
                              | inl h ↦ of_number h
                              | inr digit ↦
                                  of_nothing (or_from _ _ (or_from _ _ (or_from _ _ (or_from _ _ letter digit) separator) symbols) sign)
                            ]
                      ]
                ]
          ]
    ]

-- a name or a number takes the longest run
begins_name : (b : ℕ) (text : List ℕ) → IsTrue (is_name_letter b) → Begins (b ∷ text) (name (b ∷ run_of is_name_part text)) (rest_of is_name_part text)
unfolding is_name
begins_name b text h = with_name (ap (λ bs. b ∷ bs) (run_of-append is_name_part text)) (and_from _ _ h (run_of-all is_name_part text)) (rest_of-end is_name_part text)

begins_number : (b : ℕ) (text : List ℕ) → IsTrue (is_digit b) → length (b ∷ run_of is_digit text) ≤ most_digits → Begins (b ∷ text) (number (b ∷ run_of is_digit text)) (rest_of is_digit text)
begins_number b text h short = with_number (ap (λ bs. b ∷ bs) (run_of-append is_digit text)) (and_from _ _ h (run_of-all is_digit text)) short (rest_of-end is_digit text)

lexed_within : (n at : ℕ) (text : List ℕ) → length text ≤ n → Lexed at text
lexed_within n at [] fits = inl ([], at_end)
lexed_within zero at (b ∷ text) fits = absurd (omega arith)
lexed_within (suc n) at (b ∷ text) fits =
    elim (kind b) [
      | of_comment h ↦ inl ([], at_comment {rest = text} (ap (λ c. c ∷ text) h))
      | of_separator h ↦ lexed_past_separator at b text h (lexed_within n (at + 1) text (omega arith))
      | of_symbol h ↦ lexed_past_token (with_symbol refl h) (lexed_within n (at + 1) text (omega arith))
      | of_name h ↦ lexed_past_token (begins_name b text h) (lexed_within n (at + length (b ∷ run_of is_name_part text)) (rest_of is_name_part text) (omega (arith, length-rest_of is_name_part text)))
      | of_number h ↦
          elim (cases_lt most_digits (length (b ∷ run_of is_digit text))) [
            | inl much ↦ inr (long_number at, at_long_number (b ∷ run_of is_digit text) (rest_of is_digit text) (ap (λ bs. b ∷ bs) (run_of-append is_digit text)) (and_from _ _ h (run_of-all is_digit text)) much)
            | inr short ↦ lexed_past_token (begins_number b text h short) (lexed_within n (at + length (b ∷ run_of is_digit text)) (rest_of is_digit text) (omega (arith, length-rest_of is_digit text)))
          ]
      | of_nothing h ↦ inr (bad_byte at, at_bad_byte {rest = text} refl h)
    ]

pub lexed : (at : ℕ) (text : List ℕ) → ((tokens : List Placed) × Lexes at text tokens) ⊎ ((fault : Fault) × FailsToLex at text fault)
lexed at text = lexed_within (length text) at text (omega arith)
