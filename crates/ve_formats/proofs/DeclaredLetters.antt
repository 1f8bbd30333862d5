-- The letters of a presentation stay in order as more are declared.
use Rattle.std.proofs.Common.{◌≡◌, ℕ, zero, suc, ◌+◌, ◌<◌, ◌≤◌, ◌⊎◌, inl, inr, List, [], ◌∷◌, ◌++◌, length, length-append, All, Option, Some, None, refl, sym, ap, ◌∙◌, arith}
use Rattle.std.specs.Prelude.{IsTrue, IsFalse, slice_get, unwrap_or}
use Rattle.std.proofs.lemmas.List.Elements.{All-push}
use Rattle.ve_theory.specs.Presentations.{Presentation, most_weight}
use Rattle.ve_theory.specs.Validity.{most_letters, is_name, is_rooted, AreBeside}
use Rattle.ve_formats.specs.Causes.{Cause}
use Rattle.ve_formats.specs.PresentationLines.{Declared, weight_of, Declares, free, rooted, taken, full, misweighed}

-- one more item

get_more : {X : Type 0} (xs ys : List X) (i : ℕ) (v : X) → slice_get xs i ≡ Some v → slice_get (xs ++ ys) i ≡ Some v
get_more [] ys i v is = absurd (cc)
get_more (x ∷ xs) ys zero v is = is
get_more (x ∷ xs) ys (suc i) v is = get_more xs ys i v is

get_last : {X : Type 0} (xs : List X) (y : X) → slice_get (xs ++ y ∷ []) (length xs) ≡ Some y
get_last [] y = refl
get_last (x ∷ xs) y = get_last xs y

get_cases : {X : Type 0} (xs : List X) (y : X) (i : ℕ) (v : X) → slice_get (xs ++ y ∷ []) i ≡ Some v → (slice_get xs i ≡ Some v) ⊎ ((i ≡ length xs) × (y ≡ v))
get_cases [] y zero v is = inr (refl, cc)
get_cases [] y (suc i) v is = absurd (cc)
get_cases (x ∷ xs) y zero v is = inl is
get_cases {X} (x ∷ xs) y (suc i) v is = later (get_cases xs y i v is)
  where
    later : (slice_get xs i ≡ Some v) ⊎ ((i ≡ length xs) × (y ≡ v)) → (slice_get (x ∷ xs) (suc i) ≡ Some v) ⊎ ((suc i ≡ length (x ∷ xs)) × (y ≡ v))
    later (inl h) = inl h
    later (inr h) = inr (omega (arith, h.0), h.1)

-- Inverses are mutual, and stand side by side.
pub record AreMatched (inverses : List (Option ℕ)) : Type 0 where
  pub back : (x y : ℕ) → slice_get inverses x ≡ Some (Some y) → slice_get inverses y ≡ Some (Some x)
  pub beside : (x y : ℕ) → slice_get inverses x ≡ Some (Some y) → AreBeside x y

some_same : {x y : ℕ} → Some x ≡ Some y → x ≡ y
some_same e = cc

at_place : (inverses : List (Option ℕ)) {i j x y : ℕ} → i ≡ j → x ≡ y → slice_get inverses j ≡ Some (Some y) → slice_get inverses i ≡ Some (Some x)
at_place inverses e f h = ap (slice_get inverses) e ∙ h ∙ ap (λ z. Some (Some z)) (sym f)

pub matched_none : (inverses : List (Option ℕ)) → AreMatched inverses → AreMatched (inverses ++ None ∷ [])
matched_none inverses h = record { back = λ x y is. by_place x y (get_cases inverses None x (Some y) is); beside = λ x y is. beside x y (get_cases inverses None x (Some y) is) }
  where
    by_place : (x y : ℕ) → (slice_get inverses x ≡ Some (Some y)) ⊎ ((x ≡ length inverses) × (None ≡ Some y)) → slice_get (inverses ++ None ∷ []) y ≡ Some (Some x)
    by_place x y (inl is) = get_more inverses (None ∷ []) y (Some x) (h.back x y is)
    by_place x y (inr last) = let never = last.1 in absurd (cc)

    beside : (x y : ℕ) → (slice_get inverses x ≡ Some (Some y)) ⊎ ((x ≡ length inverses) × (None ≡ Some y)) → AreBeside x y
    beside x y (inl is) = h.beside x y is
    beside x y (inr last) = let never = last.1 in absurd (cc)

pub matched_own : (n : ℕ) (inverses : List (Option ℕ)) → length inverses ≡ n → AreMatched inverses → AreMatched (inverses ++ Some n ∷ [])
matched_own n inverses count h = record { back = λ x y is. by_place x y (get_cases inverses (Some n) x (Some y) is); beside = λ x y is. beside x y (get_cases inverses (Some n) x (Some y) is) }
  where
    by_place : (x y : ℕ) → (slice_get inverses x ≡ Some (Some y)) ⊎ ((x ≡ length inverses) × (Some n ≡ Some y)) → slice_get (inverses ++ Some n ∷ []) y ≡ Some (Some x)
    by_place x y (inl is) = get_more inverses (Some n ∷ []) y (Some x) (h.back x y is)
    by_place x y (inr last) = at_place (inverses ++ Some n ∷ []) (sym (some_same last.1) ∙ sym count) (last.0 ∙ count) (get_last inverses (Some n))

    beside : (x y : ℕ) → (slice_get inverses x ≡ Some (Some y)) ⊎ ((x ≡ length inverses) × (Some n ≡ Some y)) → AreBeside x y
    beside x y (inl is) = h.beside x y is
    beside x y (inr last) = inl (last.0 ∙ count ∙ some_same last.1)

-- two letters that are each other's inverses
module _ (n : ℕ) (inverses : List (Option ℕ)) (count : length inverses ≡ n) (h : AreMatched inverses) where
  abbrev first_of_two : List (Option ℕ)
  first_of_two = inverses ++ Some (n + 1) ∷ []

  abbrev both_of_two : List (Option ℕ)
  both_of_two = first_of_two ++ Some n ∷ []

  many : length first_of_two ≡ n + 1
  many = length-append inverses (Some (n + 1) ∷ []) ∙ omega (arith, count)

  at_first : slice_get both_of_two n ≡ Some (Some (n + 1))
  at_first = get_more first_of_two (Some n ∷ []) n (Some (n + 1)) (ap (slice_get first_of_two) (sym count) ∙ get_last inverses (Some (n + 1)))

  at_second : slice_get both_of_two (n + 1) ≡ Some (Some n)
  at_second = ap (slice_get both_of_two) (sym many) ∙ get_last first_of_two (Some n)

  abbrev Where : ℕ → ℕ → Type 0
  Where x y = (slice_get inverses x ≡ Some (Some y)) ⊎ (((x ≡ n) × (y ≡ n + 1)) ⊎ ((x ≡ n + 1) × (y ≡ n)))

  place_of : (x y : ℕ) → slice_get both_of_two x ≡ Some (Some y) → Where x y
  place_of x y is = by_last (get_cases first_of_two (Some n) x (Some y) is)
    where
      by_first : (slice_get inverses x ≡ Some (Some y)) ⊎ ((x ≡ length inverses) × (Some (n + 1) ≡ Some y)) → Where x y
      by_first (inl h) = inl h
      by_first (inr h) = inr (inl (h.0 ∙ count, sym (some_same h.1)))

      by_last : (slice_get first_of_two x ≡ Some (Some y)) ⊎ ((x ≡ length first_of_two) × (Some n ≡ Some y)) → Where x y
      by_last (inl h) = by_first (get_cases inverses (Some (n + 1)) x (Some y) h)
      by_last (inr h) = inr (inr (h.0 ∙ many, sym (some_same h.1)))

  pub matched_pair : AreMatched both_of_two
  matched_pair = record { back = λ x y is. mutually x y (place_of x y is); beside = λ x y is. beside x y (place_of x y is) }
    where
      mutually : (x y : ℕ) → Where x y → slice_get both_of_two y ≡ Some (Some x)
      mutually x y (inl is) = get_more first_of_two (Some n ∷ []) y (Some x) (get_more inverses (Some (n + 1) ∷ []) y (Some x) (h.back x y is))
      mutually x y (inr (inl is)) = at_place both_of_two is.1 is.0 at_second
      mutually x y (inr (inr is)) = at_place both_of_two is.1 is.0 at_first

      beside : (x y : ℕ) → Where x y → AreBeside x y
      beside x y (inl is) = h.beside x y is
      beside x y (inr (inl is)) = inr (inl (omega (arith, is.0, is.1)))
      beside x y (inr (inr is)) = inr (inr (omega (arith, is.0, is.1)))

-- Names and weights of letters.
pub record AreNamed (version : ℕ) (names : List (List ℕ)) (weights : List ℕ) : Type 0 where
  pub one_weight_each : length weights ≡ length names
  pub weighed : All (λ w. (0 < w) × (w ≤ most_weight)) weights
  pub plain : version ≡ 1 → All (λ w. w ≡ 1) weights
  pub named : All (λ name. IsTrue (is_name name) × IsFalse (is_rooted name)) names
  pub few : length names ≤ most_letters

-- what a letter's declaration says
pub record IsFree (P : Presentation) (x : Declared) : Type 0 where
  pub unrooted : IsFalse (is_rooted x.called)
  pub room : length P.names < most_letters
  pub counts : 0 < weight_of x
  pub light : weight_of x ≤ most_weight

is_free : (P : Presentation) (x : Declared) (o : Option Cause) → Declares P x o → o ≡ None → IsFree P x
is_free P x _ (free absent plain room counts light) is = record { unrooted = plain; room = room; counts = counts; light = light }
is_free P x _ (rooted h) is = absurd (cc)
is_free P x _ (taken h) is = absurd (cc)
is_free P x _ (full absent plain room) is = absurd (cc)
is_free P x _ (misweighed absent plain room weight) is = absurd (cc)

pub named_more : (P : Presentation) (x : Declared) → AreNamed P.version P.names P.weights → IsTrue (is_name x.called) → (P.version ≡ 2) ⊎ (x.weight ≡ None) → Declares P x None
    → AreNamed P.version (P.names ++ x.called ∷ []) (P.weights ++ weight_of x ∷ [])
named_more P x h name weight declared =
    let is = is_free P x None declared refl in
    let names : length (P.names ++ x.called ∷ []) ≡ length P.names + 1 = length-append P.names (x.called ∷ []) in
    let weights : length (P.weights ++ weight_of x ∷ []) ≡ length P.weights + 1 = length-append P.weights (weight_of x ∷ []) in
    record {
      one_weight_each = omega (arith, names, weights, h.one_weight_each);
      weighed = All-push (λ w. (0 < w) × (w ≤ most_weight)) P.weights (weight_of x) h.weighed (is.counts, is.light);
      plain = λ version. All-push (λ w. w ≡ 1) P.weights (weight_of x) (h.plain version) (unweighted version weight);
      named = All-push (λ name. IsTrue (is_name name) × IsFalse (is_rooted name)) P.names x.called h.named (name, is.unrooted);
      few = let room = is.room in omega (arith, names, room);
    }
  where
    unweighted : P.version ≡ 1 → (P.version ≡ 2) ⊎ (x.weight ≡ None) → weight_of x ≡ 1
    unweighted one (inl two) = absurd (omega arith)
    unweighted one (inr none) = ap (λ o. unwrap_or o 1) none
