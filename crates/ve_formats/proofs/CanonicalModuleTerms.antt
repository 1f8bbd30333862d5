-- The tokens that terms and sums of the module are written with, and that they spell expressions of these values.
use Rattle.std.proofs.Common.{ℕ, ◌+◌, ◌*◌, ◌<◌, ◌≤◌, ◌^◌, List, [], ◌∷◌, ◌++◌, length, All, Some, None, Ok, refl, sym, subst, inl, inr, arith, append_assoc, append-nil, length-append}
use Rattle.std.specs.Prelude.{nat_eq, decimal, slice_index_or}
use Rattle.std.proofs.lemmas.Bool.{cases_Bool, cond-true, cond-false, eqb-true}
use Rattle.std.proofs.lemmas.List.Elements.{All-head, All-tail}
use Rattle.std.proofs.lemmas.Option.{slice_get-get_or}
use Rattle.ve_theory.specs.Combinations.{scaled, IsReduced}
use Rattle.ve_theory.specs.Words.{Word, generator, times, letters, times_all, word_length, Shortlex}
use Rattle.ve_theory.specs.Elements.{Element, IsElementOf, element_times, word_times, greatest}
use Rattle.ve_theory.specs.Presentations.{Presentation, letter_count, IsWord}
use Rattle.ve_theory.specs.Validity.{most_length, most_terms}
use Rattle.ve_theory.proofs.Members.{IsWord-prefix, IsWord-last, IsWord-start}
use Rattle.ve_formats.specs.Tokens.{Token, name, number, number_value}
use Rattle.ve_formats.specs.Expressions.{a_name, a_factor, letter, plus_sign, times_sign}
use Rattle.ve_formats.specs.ModuleExpressions as modules
use Rattle.ve_formats.specs.ModuleExpressions.{ModuleExpression, ModuleRank, generated, term, whole, ModuleSpell, a_generator, multiplied, a_term, first_term, added, product, sum, difference, nothing}
use Rattle.ve_formats.specs.Values.{of_letter}
use Rattle.ve_formats.specs.ModuleValues as values
use Rattle.ve_formats.specs.ModuleValues.{HasModuleValue, of_zero, of_generator, of_product, of_sum, of_difference, multiple}
use Rattle.ve_formats.proofs.Decimals.{number_value-decimal}
use Rattle.ve_formats.proofs.CanonicalTerms.{letter_token, coefficient_tokens, added_tokens, sum_tokens, reduced_itself, one_term, IsReduced-front}

-- the tokens are an expression of this value
pub record ModuleWrites (P : Presentation) (rank : ModuleRank) (tokens : List Token) (v : Element) : Type 0 where
  pub expression : ModuleExpression
  pub spelled : ModuleSpell rank tokens expression
  pub worth : HasModuleValue P expression (Ok v)

unfoldable pub word_tokens : List (List ℕ) → Word → List Token
word_tokens names (generator i) = name (101 ∷ decimal (i + 1)) ∷ []
word_tokens names (times w x) = word_tokens names w ++ times_sign ∷ letter_token names x ∷ []

abbrev pub term_tokens : List (List ℕ) → Word × ℕ → List Token
term_tokens names t = coefficient_tokens t.1 ++ word_tokens names t.0

module _ (P : Presentation) where
  -- terms

  Writes-letter : {front : List Token} (w : Word) (c x : ℕ) → ModuleWrites P generated front ((w, c) ∷ []) → x < letter_count P → word_length w + 1 ≤ most_length → 0 < c → c < P.prime
      → ModuleWrites P generated (front ++ times_sign ∷ letter_token P.names x ∷ []) ((times w x, c) ∷ [])
  unfolding greatest element_times word_times scaled times_all
  Writes-letter w c x h known short some small = record {
    expression = product h.expression (letter (slice_index_or P.names x []));
    spelled = multiplied h.spelled (a_factor (a_name _)) refl;
    worth = of_product h.worth (of_letter (slice_get-get_or P.names x [] known)) (values.multiplied _ (omega arith) (λ _ _. omega arith) (one_term _ _ _ _ _ some small));
  }

  Writes-one : (i : ℕ) → i < P.generators → 1 < P.prime → ModuleWrites P generated (name (101 ∷ decimal (i + 1)) ∷ []) ((generator i, 1) ∷ [])
  unfolding scaled
  Writes-one i known small = record {
    expression = modules.generator None (101 ∷ decimal (i + 1));
    spelled = a_generator _;
    worth = of_generator (known, refl) (one_term _ _ _ _ _ (omega arith) small);
  }

  Writes-multiple : (i c : ℕ) → i < P.generators → 0 < c → c < P.prime → c < 2 ^ 64 → ModuleWrites P generated (number (decimal c) ∷ times_sign ∷ name (101 ∷ decimal (i + 1)) ∷ []) ((generator i, c) ∷ [])
  unfolding scaled
  Writes-multiple i c known some small fits = record {
    expression = modules.generator (Some (number_value (decimal c))) (101 ∷ decimal (i + 1));
    spelled = modules.scaled (decimal c) _;
    worth = of_generator (known, refl) (subst (λ n. IsElementOf P.prime ((generator i, c) ∷ []) ((generator i, n * 1) ∷ [])) (sym (number_value-decimal c fits)) (one_term _ _ _ _ _ some small));
  }

  Writes-generator : (i c : ℕ) → i < P.generators → 0 < c → c < P.prime → c < 2 ^ 64 → ModuleWrites P generated (coefficient_tokens c ++ name (101 ∷ decimal (i + 1)) ∷ []) ((generator i, c) ∷ [])
  Writes-generator i c known some small fits =
      elim (cases_Bool (nat_eq c 1)) [
        | inl one ↦
            rw (cond-true (nat_eq c 1) [] (number (decimal c) ∷ times_sign ∷ []) one)
            (subst (λ n. ModuleWrites P generated (name (101 ∷ decimal (i + 1)) ∷ []) ((generator i, n) ∷ [])) (sym (eqb-true c 1 one))
            (Writes-one i known (subst (λ n. n < P.prime) (eqb-true c 1 one) small)))
        | inr other ↦
            rw (cond-false (nat_eq c 1) [] (number (decimal c) ∷ times_sign ∷ []) other) (Writes-multiple i c known some small fits)
      ]

  Writes-term : (w : Word) (c : ℕ) → IsWord P w → word_length w ≤ most_length → 0 < c → c < P.prime → c < 2 ^ 64 → ModuleWrites P generated (coefficient_tokens c ++ word_tokens P.names w) ((w, c) ∷ [])
  unfolding word_tokens letters
  Writes-term (generator i) c known short some small fits = Writes-generator i c (IsWord-start P i known) some small fits
  Writes-term (times w x) c known short some small fits =
      let shorter : word_length w + 1 ≤ most_length = omega (arith, length-append (letters w) (x ∷ [])) in
      subst (λ tokens. ModuleWrites P generated tokens ((times w x, c) ∷ [])) (append_assoc (coefficient_tokens c) (word_tokens P.names w) (times_sign ∷ letter_token P.names x ∷ []))
      (Writes-letter w c x (Writes-term w c (IsWord-prefix P w x known) (omega arith) some small fits) (IsWord-last P w x known) shorter some small)

  -- sums

  Writes-added : {front back : List Token} (v : Element) (t : Word × ℕ) → ModuleWrites P whole front v → ModuleWrites P term back (t ∷ []) → IsReduced Shortlex P.prime (v ++ t ∷ [])
      → length v + 1 ≤ most_terms → ModuleWrites P whole (front ++ plus_sign ∷ back) (v ++ t ∷ [])
  Writes-added v t h k falling few = record {
    expression = sum h.expression k.expression;
    spelled = added h.spelled k.spelled refl;
    worth = of_sum h.worth k.worth (values.added _ few (reduced_itself falling));
  }

  -- a term that can be written
  abbrev pub Fits : Word × ℕ → Type 0
  Fits t = IsWord P t.0 × (word_length t.0 ≤ most_length) × (0 < t.1) × (t.1 < P.prime) × (t.1 < 2 ^ 64)

  Writes-fitting : (t : Word × ℕ) → Fits t → ModuleWrites P term (term_tokens P.names t) (t ∷ [])
  Writes-fitting t fit =
      let one = Writes-term t.0 t.1 fit.0 fit.1 fit.2 fit.3 fit.4 in
      record { expression = one.expression; spelled = a_term one.spelled; worth = one.worth }

  Writes-more : (v : Element) {front : List Token} (u : Element) → ModuleWrites P whole front v → All Fits u → IsReduced Shortlex P.prime (v ++ u) → length v + length u ≤ most_terms
      → ModuleWrites P whole (front ++ added_tokens (term_tokens P.names) u) (v ++ u)
  unfolding added_tokens
  Writes-more v {front} [] h fits falling few =
      subst (λ tokens. ModuleWrites P whole tokens (v ++ [])) (sym (append-nil front)) (subst (ModuleWrites P whole front) (sym (append-nil v)) h)
  Writes-more v {front} (t ∷ u) h fits falling few =
      let together : IsReduced Shortlex P.prime ((v ++ t ∷ []) ++ u) = subst (IsReduced Shortlex P.prime) (sym (append_assoc v (t ∷ []) u)) falling in
      let one = Writes-added v t h (Writes-fitting t (All-head Fits t u fits)) (IsReduced-front Shortlex P.prime (v ++ t ∷ []) u together) (omega arith) in
      let more = Writes-more (v ++ t ∷ []) u one (All-tail Fits t u fits) together (omega (arith, length-append v (t ∷ []))) in
      subst (λ tokens. ModuleWrites P whole tokens (v ++ t ∷ u)) (append_assoc front (plus_sign ∷ term_tokens P.names t) (added_tokens (term_tokens P.names) u))
      (subst (ModuleWrites P whole ((front ++ plus_sign ∷ term_tokens P.names t) ++ added_tokens (term_tokens P.names) u)) (append_assoc v (t ∷ []) u) more)

  pub Writes-module_sum : (t : Word × ℕ) (v : Element) → All Fits (t ∷ v) → IsReduced Shortlex P.prime (t ∷ v) → length (t ∷ v) ≤ most_terms
      → ModuleWrites P whole (sum_tokens (term_tokens P.names) (t ∷ v)) (t ∷ v)
  unfolding sum_tokens
  Writes-module_sum t v fits falling few =
      let one = Writes-fitting t (All-head Fits t v fits) in
      Writes-more (t ∷ []) v (record { expression = one.expression; spelled = first_term one.spelled; worth = one.worth }) (All-tail Fits t v fits) falling (omega arith)

  -- nothing is taken away
  pub module_less_nothing : {e : ModuleExpression} {v : Element} → HasModuleValue P e (Ok v) → IsReduced Shortlex P.prime v → length v ≤ most_terms → HasModuleValue P (difference e nothing) (Ok v)
  unfolding scaled IsReduced
  module_less_nothing {v} h falling few =
      of_difference h of_zero (reduced_itself tt) (values.added v (omega arith) (subst (IsElementOf P.prime v) (sym (append-nil v)) (reduced_itself falling)))
