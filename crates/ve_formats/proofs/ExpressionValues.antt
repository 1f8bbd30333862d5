-- Each expression has exactly one value or first fault.
use Rattle.std.proofs.Common.{◌≡◌, ◌≢◌, ℕ, zero, suc, ◌-◌, ◌<◌, ◌≤◌, ◌⊎◌, inl, inr, true, false, List, [], ◌∷◌, length, get_or, Contains, AllPairs, Option, Some, None, Result, Ok, Err, refl, sym, ap, ◌∙◌, arith}
use Rattle.std.specs.Prelude.{slice_get}
use Rattle.std.proofs.lemmas.Bool.{cases_lt, cases_order, cases_Bool}
use Rattle.std.proofs.lemmas.Option.{slice_get_within, get_or_from_slice_get}
use Rattle.ve_theory.specs.Combinations.{scaled, unit}
use Rattle.ve_theory.specs.Words.{same_letters}
use Rattle.ve_theory.specs.Elements.{AlgebraElement}
use Rattle.ve_theory.specs.Presentations.{Presentation}
use Rattle.ve_theory.specs.Laws.{ReducedListsAreUnique}
use Rattle.ve_lemmas.proofs.Words.{same_letters-true}
use Rattle.ve_lemmas.proofs.Lists.{Contains-slice_get}
use Rattle.ve_formats.specs.Causes as why
use Rattle.ve_formats.specs.Causes.{Cause}
use Rattle.ve_formats.specs.Expressions.{Expression, constant, letter, grouped, power, inverse_power, product, opposite, sum, difference}
use Rattle.ve_formats.specs.Once.{ExactlyOne}
use Rattle.ve_formats.specs.Values.{IsReadable, HasNumber, HasInverse, HasValue, HasPower, most_exponent, of_constant, of_letter, of_unknown, of_group, of_power, of_large_power, of_faulty_base, of_inverse_power, of_large_inverse_power, of_no_inverse, of_faulty_inverse_base, of_product, of_product_left, of_product_right, of_opposite, of_faulty_opposite, of_sum, of_sum_left, of_sum_right, of_difference, of_difference_left, of_difference_right}
use Rattle.ve_formats.proofs.SameNames.{same_letters-false}
use Rattle.ve_formats.proofs.ElementSums.{one_list, one_sum, one_product, one_power, after, prime_positive}

-- the places of names

abbrev pub Placed : List (List ℕ) → List ℕ → Type 0
Placed names x = ((i : ℕ) × (slice_get names i ≡ Some x)) ⊎ (Contains names x → ⊥)

pub place : (names : List (List ℕ)) (x : List ℕ) → Placed names x
place [] x = inr (λ h. omega (arith, h.1))
place (y ∷ names) x = by_first (cases_Bool (same_letters y x)) (place names x)
  where
    by_first : (same_letters y x ≡ true) ⊎ (same_letters y x ≡ false) → Placed names x → Placed (y ∷ names) x
    by_first (inl same) later = inl (0, ap (λ z. Some z) (same_letters-true y x same))
    by_first (inr other) (inl (i, h)) = inl (suc i, h)
    by_first (inr other) (inr absent) = inr elsewhere
      where
        at_place : (k : ℕ) → k < length (y ∷ names) → get_or (y ∷ names) k x ≡ x → ⊥
        at_place zero within is = same_letters-false y x other is
        at_place (suc k) within is = absent (k, omega arith, is)

        elsewhere : Contains (y ∷ names) x → ⊥
        elsewhere h = at_place h.0 h.1 h.2

-- names that differ have one place each
pub same_place : (names : List (List ℕ)) → AllPairs ◌≢◌ names → (x : List ℕ) (i j : ℕ) → slice_get names i ≡ Some x → slice_get names j ≡ Some x → i ≡ j
same_place names distinct x i j h k = by_order (cases_order i j)
  where
    at_i : get_or names i x ≡ x
    at_i = get_or_from_slice_get names i x x h

    at_j : get_or names j x ≡ x
    at_j = get_or_from_slice_get names j x x k

    by_order : (i ≡ j) ⊎ ((i < j) ⊎ (j < i)) → i ≡ j
    by_order (inl e) = e
    by_order (inr (inl less)) = absurd (distinct i j x less (slice_get_within names j x k) (at_i ∙ sym at_j))
    by_order (inr (inr more)) = absurd (distinct j i x more (slice_get_within names i x h) (at_j ∙ sym at_i))

module _ (unique : ReducedListsAreUnique) (P : Presentation) (readable : IsReadable P) where
  some : 0 < P.prime
  some = prime_positive P.prime readable.field

  list_of : AlgebraElement → AlgebraElement
  list_of e = (one_list unique P.prime some e).it

  abbrev negative : AlgebraElement → AlgebraElement
  negative u = list_of (scaled (P.prime - 1) u)

  abbrev plus : AlgebraElement → AlgebraElement → Result AlgebraElement Cause
  plus u v = (one_sum unique P.prime some u v).it

  abbrev times : AlgebraElement → AlgebraElement → Result AlgebraElement Cause
  times u v = (one_product unique P.prime some u v).it

  to_power : AlgebraElement → ℕ → Result AlgebraElement Cause
  to_power u k = (one_power unique P.prime some u k).it

  abbrev join : (AlgebraElement → AlgebraElement → Result AlgebraElement Cause) → Result AlgebraElement Cause → Result AlgebraElement Cause → Result AlgebraElement Cause
  join f r s = after (λ u. after (λ v. f u v) s) r

  -- letters and their inverses

  letter_at : {x : List ℕ} → Placed P.names x → Result AlgebraElement Cause
  letter_at (inl (i, h)) = Ok (unit (i ∷ []))
  letter_at (inr absent) = Err why.unknown_name

  abbrev Inverted : Expression → Type 0
  Inverted e = ((y : ℕ) × HasInverse P e y) ⊎ ((y : ℕ) → HasInverse P e y → ⊥)

  inverted_letter : (x : List ℕ) → Placed P.names x → Inverted (letter x)
  inverted_letter x (inr absent) = inr (λ y h. absurd (absent (Contains-slice_get P.names x h.number (h.numbered ∙ ap (λ z. Some z) (named h.is_name)))))
    where
      named : {z : List ℕ} → letter x ≡ letter z → z ≡ x
      named e = (cc)
  inverted_letter x (inl (i, h)) = by_inverse (slice_get P.inverses i) refl
    where
      named : {z : List ℕ} → letter x ≡ letter z → z ≡ x
      named e = (cc)

      inverse_at : (y : ℕ) → HasInverse P (letter x) y → slice_get P.inverses i ≡ Some (Some y)
      inverse_at y k =
          let same : k.number ≡ i = same_place P.names readable.distinct x k.number i (k.numbered ∙ ap (λ z. Some z) (named k.is_name)) h in
          ap (λ n. slice_get P.inverses n) (sym same) ∙ k.inverted

      by_inverse : (o : Option (Option ℕ)) → slice_get P.inverses i ≡ o → Inverted (letter x)
      by_inverse None is = inr (λ y k. let e : slice_get P.inverses i ≡ Some (Some y) = inverse_at y k in absurd (cc))
      by_inverse (Some None) is = inr (λ y k. let e : slice_get P.inverses i ≡ Some (Some y) = inverse_at y k in absurd (cc))
      by_inverse (Some (Some y)) is = inl (y, record { name = x; number = i; is_name = refl; numbered = h; inverted = is })

  inverted : (e : Expression) → Inverted e
  inverted (letter x) = inverted_letter x (place P.names x)
  inverted (constant n) = inr (λ y h. let e = h.is_name in absurd (cc))
  inverted (grouped e) = inr (λ y h. let e = h.is_name in absurd (cc))
  inverted (power e k) = inr (λ y h. let e = h.is_name in absurd (cc))
  inverted (inverse_power e k) = inr (λ y h. let e = h.is_name in absurd (cc))
  inverted (product d e) = inr (λ y h. let e = h.is_name in absurd (cc))
  inverted (opposite e) = inr (λ y h. let e = h.is_name in absurd (cc))
  inverted (sum d e) = inr (λ y h. let e = h.is_name in absurd (cc))
  inverted (difference d e) = inr (λ y h. let e = h.is_name in absurd (cc))

  same_inverse : {e : Expression} {y z : ℕ} → HasInverse P e y → HasInverse P e z → y ≡ z
  same_inverse {e} {y} {z} h k =
      let names : letter k.name ≡ letter h.name = sym k.is_name ∙ h.is_name in
      let name : k.name ≡ h.name = (cc) in
      let number : k.number ≡ h.number = same_place P.names readable.distinct h.name k.number h.number (k.numbered ∙ ap (λ x. Some x) name) h.numbered in
      let both : Some (Some y) ≡ Some (Some z) = sym h.inverted ∙ (ap (λ n. slice_get P.inverses n) (sym number) ∙ k.inverted) in
      (cc)

  -- powers with exponents that may be too large

  abbrev Exponent : ℕ → Type 0
  Exponent k = (most_exponent < k) ⊎ (k ≤ most_exponent)

  raised : {k : ℕ} → Exponent k → AlgebraElement → Result AlgebraElement Cause
  raised {k} (inl large) u = Err why.exponent_too_large
  raised {k} (inr small) u = to_power u k

  raised_inverse : {e : Expression} {k : ℕ} → Exponent k → Inverted e → AlgebraElement → Result AlgebraElement Cause
  raised_inverse {k} (inl large) found u = Err why.exponent_too_large
  raised_inverse {k} (inr small) (inl (y, h)) u = to_power (unit (y ∷ [])) k
  raised_inverse {k} (inr small) (inr none) u = Err why.no_inverse

  -- the value or the first fault
  value : Expression → Result AlgebraElement Cause
  value (constant n) = Ok (list_of (scaled n (unit [])))
  value (letter x) = letter_at (place P.names x)
  value (grouped e) = value e
  value (power e k) = after (raised (cases_lt most_exponent k)) (value e)
  value (inverse_power e k) = after (raised_inverse (cases_lt most_exponent k) (inverted e)) (value e)
  value (product d e) = join times (value d) (value e)
  value (opposite e) = after (λ u. Ok (negative u)) (value e)
  value (sum d e) = join plus (value d) (value e)
  value (difference d e) = join (λ u v. plus u (negative v)) (value d) (value e)

  has_letter : (x : List ℕ) (placed : Placed P.names x) → HasValue P (letter x) (letter_at placed)
  unfolding letter_at
  has_letter x (inl (i, h)) = of_letter h
  has_letter x (inr absent) = of_unknown absent

  has_power : (e : Expression) (k : ℕ) (r : Result AlgebraElement Cause) (exponent : Exponent k) → HasValue P e r → HasValue P (power e k) (after (raised exponent) r)
  unfolding raised to_power
  has_power e k (Err cause) exponent h = of_faulty_base h
  has_power e k (Ok u) (inl large) h = of_large_power h large
  has_power e k (Ok u) (inr small) h = of_power h small (one_power unique P.prime some u k).holds

  has_inverse_power : (e : Expression) (k : ℕ) (r : Result AlgebraElement Cause) (exponent : Exponent k) (found : Inverted e) → HasValue P e r
      → HasValue P (inverse_power e k) (after (raised_inverse exponent found) r)
  unfolding raised_inverse to_power
  has_inverse_power e k (Err cause) exponent found h = of_faulty_inverse_base h
  has_inverse_power e k (Ok u) (inl large) found h = of_large_inverse_power h large
  has_inverse_power e k (Ok u) (inr small) (inl (y, inverse)) h = of_inverse_power inverse small (one_power unique P.prime some (unit (y ∷ [])) k).holds
  has_inverse_power e k (Ok u) (inr small) (inr none) h = of_no_inverse h small none

  has_product : (d e : Expression) (r s : Result AlgebraElement Cause) → HasValue P d r → HasValue P e s → HasValue P (product d e) (join times r s)
  has_product d e (Err cause) s h k = of_product_left h
  has_product d e (Ok u) (Err cause) h k = of_product_right h k
  has_product d e (Ok u) (Ok v) h k = of_product h k (one_product unique P.prime some u v).holds

  has_opposite : (e : Expression) (r : Result AlgebraElement Cause) → HasValue P e r → HasValue P (opposite e) (after (λ u. Ok (negative u)) r)
  unfolding list_of
  has_opposite e (Err cause) h = of_faulty_opposite h
  has_opposite e (Ok u) h = of_opposite h (one_list unique P.prime some (scaled (P.prime - 1) u)).holds

  has_sum : (d e : Expression) (r s : Result AlgebraElement Cause) → HasValue P d r → HasValue P e s → HasValue P (sum d e) (join plus r s)
  has_sum d e (Err cause) s h k = of_sum_left h
  has_sum d e (Ok u) (Err cause) h k = of_sum_right h k
  has_sum d e (Ok u) (Ok v) h k = of_sum h k (one_sum unique P.prime some u v).holds

  has_difference : (d e : Expression) (r s : Result AlgebraElement Cause) → HasValue P d r → HasValue P e s
      → HasValue P (difference d e) (join (λ u v. plus u (negative v)) r s)
  unfolding list_of
  has_difference d e (Err cause) s h k = of_difference_left h
  has_difference d e (Ok u) (Err cause) h k = of_difference_right h k
  has_difference d e (Ok u) (Ok v) h k = of_difference h k (one_list unique P.prime some (scaled (P.prime - 1) v)).holds (one_sum unique P.prime some u (negative v)).holds

  has_value : (e : Expression) → HasValue P e (value e)
  unfolding value list_of
  has_value (constant n) = of_constant n (one_list unique P.prime some (scaled n (unit []))).holds
  has_value (letter x) = has_letter x (place P.names x)
  has_value (grouped e) = of_group (has_value e)
  has_value (power e k) = has_power e k (value e) (cases_lt most_exponent k) (has_value e)
  has_value (inverse_power e k) = has_inverse_power e k (value e) (cases_lt most_exponent k) (inverted e) (has_value e)
  has_value (product d e) = has_product d e (value d) (value e) (has_value d) (has_value e)
  has_value (opposite e) = has_opposite e (value e) (has_value e)
  has_value (sum d e) = has_sum d e (value d) (value e) (has_value d) (has_value e)
  has_value (difference d e) = has_difference d e (value d) (value e) (has_value d) (has_value e)

  letter_is : (x : List ℕ) (i : ℕ) → HasNumber P.names x i → (placed : Placed P.names x) → Ok (unit (i ∷ [])) ≡ letter_at placed
  unfolding letter_at
  letter_is x i h (inl (j, k)) = ap (λ n. Ok (unit (n ∷ []))) (same_place P.names readable.distinct x i j h k)
  letter_is x i h (inr absent) = absurd (absent (Contains-slice_get P.names x i h))

  unknown_is : (x : List ℕ) → (Contains P.names x → ⊥) → (placed : Placed P.names x) → Err why.unknown_name ≡ letter_at placed
  unfolding letter_at
  unknown_is x absent (inl (j, k)) = absurd (absent (Contains-slice_get P.names x j k))
  unknown_is x absent (inr h) = refl

  raised_is : (u : AlgebraElement) (k : ℕ) (r : Result AlgebraElement Cause) → k ≤ most_exponent → HasPower P.prime u k r → (exponent : Exponent k) → r ≡ raised exponent u
  unfolding raised to_power
  raised_is u k r small h (inl large) = absurd (omega arith)
  raised_is u k r small h (inr h1) = (one_power unique P.prime some u k).only r h

  large_is : (u : AlgebraElement) (k : ℕ) → most_exponent < k → (exponent : Exponent k) → Err why.exponent_too_large ≡ raised exponent u
  unfolding raised
  large_is u k large (inl h) = refl
  large_is u k large (inr small) = absurd (omega arith)

  module _ {e : Expression} (u : AlgebraElement) (k : ℕ) where
    inverse_is : (y : ℕ) (r : Result AlgebraElement Cause) → HasInverse P e y → k ≤ most_exponent → HasPower P.prime (unit (y ∷ [])) k r
        → (exponent : Exponent k) (found : Inverted e) → r ≡ raised_inverse exponent found u
    unfolding raised_inverse to_power
    inverse_is y r h small m (inl large) found = absurd (omega arith)
    inverse_is y r h small m (inr h1) (inr none) = absurd (none y h)
    inverse_is y r h small m (inr h1) (inl (z, i)) = (one_power unique P.prime some (unit (y ∷ [])) k).only r m ∙ ap (λ n. to_power (unit (n ∷ [])) k) (same_inverse h i)

    large_inverse_is : most_exponent < k → (exponent : Exponent k) (found : Inverted e) → Err why.exponent_too_large ≡ raised_inverse exponent found u
    unfolding raised_inverse
    large_inverse_is large (inl h) found = refl
    large_inverse_is large (inr small) found = absurd (omega arith)

    no_inverse_is : k ≤ most_exponent → ((y : ℕ) → HasInverse P e y → ⊥) → (exponent : Exponent k) (found : Inverted e) → Err why.no_inverse ≡ raised_inverse exponent found u
    unfolding raised_inverse
    no_inverse_is small none (inl large) found = absurd (omega arith)
    no_inverse_is small none (inr h) (inl (y, i)) = absurd (none y i)
    no_inverse_is small none (inr h) (inr other) = refl

  -- a letter that has an inverse has a value
  inverse_base : {e : Expression} {y : ℕ} (h : HasInverse P e y) → Ok (unit (h.number ∷ [])) ≡ value e
  unfolding value
  inverse_base h = letter_is h.name h.number h.numbered (place P.names h.name) ∙ ap value (sym h.is_name)

  join_is : (f : AlgebraElement → AlgebraElement → Result AlgebraElement Cause) {u v : AlgebraElement} {r s : Result AlgebraElement Cause} → Ok u ≡ r → Ok v ≡ s → f u v ≡ join f r s
  join_is f h k = (λ i. join f (h i) (k i))

  join_left : (f : AlgebraElement → AlgebraElement → Result AlgebraElement Cause) {cause : Cause} {r : Result AlgebraElement Cause} (s : Result AlgebraElement Cause)
      → Err cause ≡ r → Err cause ≡ join f r s
  join_left f s h = ap (λ r. join f r s) h

  join_right : (f : AlgebraElement → AlgebraElement → Result AlgebraElement Cause) {u : AlgebraElement} {cause : Cause} {r s : Result AlgebraElement Cause}
      → Ok u ≡ r → Err cause ≡ s → Err cause ≡ join f r s
  join_right f h k = (λ i. join f (h i) (k i))

  value_is : {e : Expression} {r : Result AlgebraElement Cause} → HasValue P e r → r ≡ value e
  unfolding value list_of
  value_is (of_constant n {v} h) = ap (λ v. Ok v) ((one_list unique P.prime some (scaled n (unit []))).only v h)
  value_is (of_letter {x} {i} h) = letter_is x i h (place P.names x)
  value_is (of_unknown {x} absent) = unknown_is x absent (place P.names x)
  value_is (of_group h) = value_is h
  value_is (of_power {k} {u} {r} h small m) = raised_is u k r small m (cases_lt most_exponent k) ∙ ap (after (raised (cases_lt most_exponent k))) (value_is h)
  value_is (of_large_power {k} {u} h large) = large_is u k large (cases_lt most_exponent k) ∙ ap (after (raised (cases_lt most_exponent k))) (value_is h)
  value_is (of_faulty_base {k} h) = ap (after (raised (cases_lt most_exponent k))) (value_is h)
  value_is (of_inverse_power {e} {k} {y} {r} h small m) =
      inverse_is (unit (h.number ∷ [])) k y r h small m (cases_lt most_exponent k) (inverted e) ∙ ap (after (raised_inverse (cases_lt most_exponent k) (inverted e))) (inverse_base h)
  value_is (of_large_inverse_power {e} {k} {u} h large) =
      large_inverse_is u k large (cases_lt most_exponent k) (inverted e) ∙ ap (after (raised_inverse (cases_lt most_exponent k) (inverted e))) (value_is h)
  value_is (of_no_inverse {e} {k} {u} h small none) =
      no_inverse_is u k small none (cases_lt most_exponent k) (inverted e) ∙ ap (after (raised_inverse (cases_lt most_exponent k) (inverted e))) (value_is h)
  value_is (of_faulty_inverse_base {e} {k} h) = ap (after (raised_inverse (cases_lt most_exponent k) (inverted e))) (value_is h)
  value_is (of_product {u} {v} {r} h k m) = (one_product unique P.prime some u v).only r m ∙ join_is times (value_is h) (value_is k)
  value_is (of_product_left {e} h) = join_left times (value e) (value_is h)
  value_is (of_product_right h k) = join_right times (value_is h) (value_is k)
  value_is (of_opposite {u} {v} h m) = ap (λ v. Ok v) ((one_list unique P.prime some (scaled (P.prime - 1) u)).only v m) ∙ ap (after (λ u. Ok (negative u))) (value_is h)
  value_is (of_faulty_opposite h) = ap (after (λ u. Ok (negative u))) (value_is h)
  value_is (of_sum {u} {v} {r} h k m) = (one_sum unique P.prime some u v).only r m ∙ join_is plus (value_is h) (value_is k)
  value_is (of_sum_left {e} h) = join_left plus (value e) (value_is h)
  value_is (of_sum_right h k) = join_right plus (value_is h) (value_is k)
  value_is (of_difference {u} {v} {w} {r} h k n m) =
      (one_sum unique P.prime some u w).only r m ∙ ap (plus u) ((one_list unique P.prime some (scaled (P.prime - 1) v)).only w n)
      ∙ join_is (λ u v. plus u (negative v)) (value_is h) (value_is k)
  value_is (of_difference_left {e} h) = join_left (λ u v. plus u (negative v)) (value e) (value_is h)
  value_is (of_difference_right h k) = join_right (λ u v. plus u (negative v)) (value_is h) (value_is k)

  pub one_value : (e : Expression) → ExactlyOne (HasValue P e)
  one_value e = record { it = value e; holds = has_value e; only = λ r h. value_is h }
