-- The tokens that terms and sums of the algebra are written with, and that they spell expressions of these values.
use Rattle.std.proofs.Common.{◌≡◌, ℕ, ◌+◌, ◌*◌, ◌%◌, ◌<◌, ◌≤◌, Bool, true, false, cond, List, [], ◌∷◌, ◌++◌, length, All, Ok, refl, sym, subst, ap, inl, inr, arith, append_assoc, append-nil, length-append, ◌^◌}
use Rattle.std.specs.Prelude.{nat_eq, decimal, slice_index_or}
use Rattle.std.proofs.lemmas.Bool.{cases_Bool, cond-true, cond-false, eqb-true}
use Rattle.std.proofs.lemmas.List.Elements.{All-head, All-tail}
use Rattle.std.proofs.lemmas.Option.{slice_get-get_or}
use Rattle.ve_theory.specs.Combinations.{Combination, scaled, coefficient, AllBefore, IsReduced, IsReducedOf}
use Rattle.ve_theory.specs.Words.{ShortlexLetters, same_letters}
use Rattle.ve_theory.specs.Elements.{AlgebraElement, IsAlgebraElementOf, letters_times, greatest, algebra_length}
use Rattle.ve_theory.specs.Elements as elements
use Rattle.ve_theory.specs.Presentations.{Presentation, letter_count, HasLetters}
use Rattle.ve_theory.specs.Validity.{most_length, most_terms}
use Rattle.ve_formats.specs.Tokens.{Token, name, number, number_value}
use Rattle.ve_formats.specs.Expressions.{Expression, constant, letter, product, sum, difference, Rank, term, whole, Spell, a_number, a_name, a_factor, a_term, multiplied, first_term, added, plus_sign, times_sign}
use Rattle.ve_formats.specs.Values as values
use Rattle.ve_formats.specs.Values.{HasValue, of_constant, of_letter, of_product, of_sum, of_difference}
use Rattle.ve_formats.proofs.Decimals.{number_value-decimal}

-- the tokens are an expression of this value
pub record Writes (P : Presentation) (rank : Rank) (tokens : List Token) (v : AlgebraElement) : Type 0 where
  pub expression : Expression
  pub spelled : Spell rank tokens expression
  pub worth : HasValue P expression (Ok v)

abbrev pub letter_token : List (List ℕ) → ℕ → Token
letter_token names x = name (slice_index_or names x [])

-- each letter after a `*`
unfoldable pub starred_tokens : List (List ℕ) → List ℕ → List Token
starred_tokens names [] = []
starred_tokens names (x ∷ u) = times_sign ∷ letter_token names x ∷ starred_tokens names u

abbrev pub coefficient_tokens : ℕ → List Token
coefficient_tokens c = cond (nat_eq c 1) [] (number (decimal c) ∷ times_sign ∷ [])

unfoldable pub algebra_term_tokens : List (List ℕ) → List ℕ → ℕ → List Token
algebra_term_tokens names [] c = number (decimal c) ∷ []
algebra_term_tokens names (x ∷ u) c = coefficient_tokens c ++ letter_token names x ∷ starred_tokens names u

-- each term after a `+`
unfoldable pub added_tokens : {X : Type 0} → (X → List Token) → List X → List Token
added_tokens tokens [] = []
added_tokens tokens (t ∷ v) = plus_sign ∷ tokens t ++ added_tokens tokens v

-- a sum of terms
unfoldable pub sum_tokens : {X : Type 0} → (X → List Token) → List X → List Token
sum_tokens tokens [] = []
sum_tokens tokens (t ∷ v) = tokens t ++ added_tokens tokens v

-- reduced lists

pub reduced_itself : {K : Type 0} {before : K → K → Type 0} {same : K → K → Bool} {p : ℕ} {v : Combination K} → IsReduced before p v → IsReducedOf before same p v v
reduced_itself h = record { reduced = h; alike = λ k. refl }

pub one_term : {K : Type 0} (before : K → K → Type 0) (same : K → K → Bool) (p : ℕ) (k : K) (c : ℕ) → 0 < c → c < p → IsReducedOf before same p ((k, c) ∷ []) ((k, c * 1) ∷ [])
unfolding IsReduced AllBefore
one_term before same p k c some small =
    let e : c ≡ c * 1 = omega arith in
    subst (λ n. IsReducedOf before same p ((k, c) ∷ []) ((k, n) ∷ [])) e (reduced_itself (some, small, tt, tt))

AllBefore-front : {K : Type 0} (before : K → K → Type 0) (k : K) (u v : Combination K) → AllBefore before k (u ++ v) → AllBefore before k u
unfolding AllBefore
AllBefore-front before k [] v h = tt
AllBefore-front before k (t ∷ u) v h = (h.0, AllBefore-front before k u v h.1)

pub IsReduced-front : {K : Type 0} (before : K → K → Type 0) (p : ℕ) (u v : Combination K) → IsReduced before p (u ++ v) → IsReduced before p u
unfolding IsReduced
IsReduced-front before p [] v h = tt
IsReduced-front before p (t ∷ u) v h = (h.0, h.1, AllBefore-front before t.0 u v h.2, IsReduced-front before p u v h.3)

-- terms
module _ (P : Presentation) where
  Writes-letter : {front : List Token} (w : List ℕ) (c x : ℕ) → Writes P term front ((w, c) ∷ []) → x < letter_count P → length w + 1 ≤ most_length → 0 < c → c < P.prime
      → Writes P term (front ++ times_sign ∷ letter_token P.names x ∷ []) ((w ++ x ∷ [], c) ∷ [])
  unfolding greatest elements.product letters_times scaled
  Writes-letter w c x h known short some small = record {
    expression = product h.expression (letter (slice_index_or P.names x []));
    spelled = multiplied h.spelled (a_factor (a_name _)) refl;
    worth = of_product h.worth (of_letter (slice_get-get_or P.names x [] known)) (values.multiplied _ (omega arith) (λ _ _. omega arith) (one_term _ _ _ _ _ some small));
  }

  -- letters after what stands already
  Writes-letters : (w : List ℕ) {front : List Token} (c : ℕ) (u : List ℕ) → Writes P term front ((w, c) ∷ []) → HasLetters P u → length w + length u ≤ most_length → 0 < c → c < P.prime
      → Writes P term (front ++ starred_tokens P.names u) ((w ++ u, c) ∷ [])
  unfolding starred_tokens
  Writes-letters w {front} c [] h known short some small =
      subst (λ tokens. Writes P term tokens ((w ++ [], c) ∷ [])) (sym (append-nil front)) (subst (λ u. Writes P term front ((u, c) ∷ [])) (sym (append-nil w)) h)
  Writes-letters w {front} c (x ∷ u) h known short some small =
      let one = Writes-letter w c x h (All-head (λ x. x < letter_count P) x u known) (omega arith) some small in
      let more = Writes-letters (w ++ x ∷ []) c u one (All-tail (λ x. x < letter_count P) x u known) (omega (arith, length-append w (x ∷ []))) some small in
      subst (λ tokens. Writes P term tokens ((w ++ x ∷ u, c) ∷ [])) (append_assoc front (times_sign ∷ letter_token P.names x ∷ []) (starred_tokens P.names u))
      (subst (λ word. Writes P term ((front ++ times_sign ∷ letter_token P.names x ∷ []) ++ starred_tokens P.names u) ((word, c) ∷ [])) (append_assoc w (x ∷ []) u) more)

  Writes-constant : (c : ℕ) → 0 < c → c < P.prime → c < 2 ^ 64 → Writes P term (number (decimal c) ∷ []) (([], c) ∷ [])
  unfolding scaled
  Writes-constant c some small fits = record {
    expression = constant (number_value (decimal c));
    spelled = a_term (a_factor (a_number (decimal c)));
    worth = of_constant _ (subst (λ n. IsAlgebraElementOf P.prime (([], c) ∷ []) (([], n * 1) ∷ [])) (sym (number_value-decimal c fits)) (one_term _ _ _ _ _ some small));
  }

  Writes-single : (x : ℕ) → x < letter_count P → Writes P term (letter_token P.names x ∷ []) ((x ∷ [], 1) ∷ [])
  Writes-single x known = record {
    expression = letter (slice_index_or P.names x []);
    spelled = a_term (a_factor (a_name _));
    worth = of_letter (slice_get-get_or P.names x [] known);
  }

  Writes-term : (u : List ℕ) (c : ℕ) → HasLetters P u → length u ≤ most_length → 0 < c → c < P.prime → c < 2 ^ 64 → Writes P term (algebra_term_tokens P.names u c) ((u, c) ∷ [])
  unfolding algebra_term_tokens starred_tokens
  Writes-term [] c known short some small fits = Writes-constant c some small fits
  Writes-term (x ∷ u) c known short some small fits =
      elim (cases_Bool (nat_eq c 1)) [
        | inl one ↦
            rw (cond-true (nat_eq c 1) [] (number (decimal c) ∷ times_sign ∷ []) one)
            (subst (λ n. Writes P term (letter_token P.names x ∷ starred_tokens P.names u) ((x ∷ u, n) ∷ [])) (sym (eqb-true c 1 one))
            (Writes-letters (x ∷ []) 1 u (Writes-single x (All-head (λ x. x < letter_count P) x u known)) (All-tail (λ x. x < letter_count P) x u known) (omega arith) (omega arith) (subst (λ n. n < P.prime) (eqb-true c 1 one) small)))
        | inr other ↦
            rw (cond-false (nat_eq c 1) [] (number (decimal c) ∷ times_sign ∷ []) other)
            (Writes-letters [] c (x ∷ u) (Writes-constant c some small fits) known (omega arith) some small)
      ]

  -- sums

  Writes-added : {front back : List Token} (v : AlgebraElement) (t : List ℕ × ℕ) → Writes P whole front v → Writes P term back (t ∷ []) → IsReduced ShortlexLetters P.prime (v ++ t ∷ [])
      → length v + 1 ≤ most_terms → Writes P whole (front ++ plus_sign ∷ back) (v ++ t ∷ [])
  Writes-added v t h k falling few = record {
    expression = sum h.expression k.expression;
    spelled = added h.spelled k.spelled refl;
    worth = of_sum h.worth k.worth (values.added _ few (reduced_itself falling));
  }

  -- a term that can be written
  abbrev pub Fits : List ℕ × ℕ → Type 0
  Fits t = HasLetters P t.0 × (length t.0 ≤ most_length) × (0 < t.1) × (t.1 < P.prime) × (t.1 < 2 ^ 64)

  abbrev pub tokens_of_term : List ℕ × ℕ → List Token
  tokens_of_term t = algebra_term_tokens P.names t.0 t.1

  Writes-more : (v : AlgebraElement) {front : List Token} (u : AlgebraElement) → Writes P whole front v → All Fits u → IsReduced ShortlexLetters P.prime (v ++ u) → length v + length u ≤ most_terms
      → Writes P whole (front ++ added_tokens tokens_of_term u) (v ++ u)
  unfolding added_tokens
  Writes-more v {front} [] h fits falling few =
      subst (λ tokens. Writes P whole tokens (v ++ [])) (sym (append-nil front)) (subst (Writes P whole front) (sym (append-nil v)) h)
  Writes-more v {front} (t ∷ u) h fits falling few =
      let fit : Fits t = All-head Fits t u fits in
      let together : IsReduced ShortlexLetters P.prime ((v ++ t ∷ []) ++ u) = subst (IsReduced ShortlexLetters P.prime) (sym (append_assoc v (t ∷ []) u)) falling in
      let one = Writes-added v t h (Writes-term t.0 t.1 fit.0 fit.1 fit.2 fit.3 fit.4) (IsReduced-front ShortlexLetters P.prime (v ++ t ∷ []) u together) (omega arith) in
      let more = Writes-more (v ++ t ∷ []) u one (All-tail Fits t u fits) together (omega (arith, length-append v (t ∷ []))) in
      subst (λ tokens. Writes P whole tokens (v ++ t ∷ u)) (append_assoc front (plus_sign ∷ tokens_of_term t) (added_tokens tokens_of_term u))
      (subst (Writes P whole ((front ++ plus_sign ∷ tokens_of_term t) ++ added_tokens tokens_of_term u)) (append_assoc v (t ∷ []) u) more)

  pub Writes-sum : (t : List ℕ × ℕ) (v : AlgebraElement) → All Fits (t ∷ v) → IsReduced ShortlexLetters P.prime (t ∷ v) → length (t ∷ v) ≤ most_terms → Writes P whole (sum_tokens tokens_of_term (t ∷ v)) (t ∷ v)
  unfolding sum_tokens
  Writes-sum t v fits falling few =
      let fit : Fits t = All-head Fits t v fits in
      let one = Writes-term t.0 t.1 fit.0 fit.1 fit.2 fit.3 fit.4 in
      Writes-more (t ∷ []) v (record { expression = one.expression; spelled = first_term one.spelled; worth = one.worth }) (All-tail Fits t v fits) falling (omega arith)

  no_coefficient : (b : Bool) → 0 ≡ cond b (0 * 1) 0 + 0
  no_coefficient true = omega arith
  no_coefficient false = omega arith

  nothing_constant : values.IsConstant P.prime 0 []
  unfolding scaled IsReduced coefficient
  nothing_constant = record { reduced = tt; alike = λ k. ap (λ n. n % P.prime) (no_coefficient (same_letters [] k)) }

  -- nothing is taken away
  pub less_nothing : {e : Expression} {v : AlgebraElement} → HasValue P e (Ok v) → IsReduced ShortlexLetters P.prime v → length v ≤ most_terms → HasValue P (difference e (constant 0)) (Ok v)
  unfolding scaled IsReduced
  less_nothing {v} h falling few =
      of_difference h (of_constant 0 nothing_constant) (reduced_itself tt)
      (values.added v (omega arith) (subst (IsAlgebraElementOf P.prime v) (sym (append-nil v)) (reduced_itself falling)))
