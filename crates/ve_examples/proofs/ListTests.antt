-- Tests of all elements of a list, of all numbers below one, and of several things.
use Rattle.std.proofs.Common.{◌≡◌, ℕ, zero, suc, ◌<◌, ◌≤◌, ◌⊎◌, inl, inr, Bool, true, false, not, ◌&&◌, ◌||◌, List, [], ◌∷◌, All, AllPairs, subst, arith}
use Rattle.std.specs.List.{list_all}
use Rattle.std.proofs.lemmas.Bool.{and_parts, cases_lt}
use Rattle.std.proofs.lemmas.List.Elements.{All-weaker}
use Rattle.std.proofs.lemmas.List.Sums.{AllPass-from_list_all}

-- all of the list's tests pass
unfoldable pub every : List Bool → Bool
every [] = true
every (b ∷ bs) = b && every bs

abbrev pub Every : List Bool → Type 0
Every [] = Unit {0}
Every (b ∷ bs) = (b ≡ true) × Every bs

pub every-true : (bs : List Bool) → every bs ≡ true → Every bs
unfolding every
every-true [] e = tt
every-true (b ∷ bs) e =
    let parts = and_parts b (every bs) e in
    (parts.0, every-true bs parts.1)

-- the second test passes where the first does
abbrev pub implies : Bool → Bool → Bool
implies a b = not a || b

pub implies-at : (a b : Bool) → implies a b ≡ true → a ≡ true → b ≡ true
implies-at true b e h = e
implies-at false b e h = absurd (cc)

-- all numbers below n pass
unfoldable pub all_below : ℕ → (ℕ → Bool) → Bool
all_below zero test = true
all_below (suc n) test = test n && all_below n test

pub all_below-at : (n : ℕ) (test : ℕ → Bool) → all_below n test ≡ true → (i : ℕ) → i < n → test i ≡ true
unfolding all_below
all_below-at zero test e i l = absurd (omega arith)
all_below-at (suc n) test e i l =
    let parts = and_parts (test n) (all_below n test) e in
    cases parts.0 (all_below-at n test parts.1 i) (cases_lt i n)
  where
    cases : test n ≡ true → (i < n → test i ≡ true) → (i < n) ⊎ (n ≤ i) → test i ≡ true
    cases last earlier (inl m) = earlier m
    cases last earlier (inr m) =
        let same : n ≡ i = omega arith in
        subst (λ j. test j ≡ true) same last

module _ {X : Type 0} where
  pub All-from_test : (P : X → Type 0) (test : X → Bool) → ((x : X) → test x ≡ true → P x) → (xs : List X) → list_all test xs ≡ true → All P xs
  All-from_test P test sound xs e = All-weaker (λ x. test x ≡ true) P sound xs (AllPass-from_list_all test xs e)

  -- each element passes with each later one
  unfoldable pub all_pairs : (X → X → Bool) → List X → Bool
  all_pairs test [] = true
  all_pairs test (x ∷ xs) = list_all (test x) xs && all_pairs test xs

  pub AllPairs-from_test : (R : X → X → Type 0) (test : X → X → Bool) → ((x y : X) → test x y ≡ true → R x y) → (xs : List X) → all_pairs test xs ≡ true → AllPairs R xs
  unfolding all_pairs
  AllPairs-from_test R test sound [] e i j d l m = absurd (omega arith)
  AllPairs-from_test R test sound (x ∷ xs) e i zero d l m = absurd (omega arith)
  AllPairs-from_test R test sound (x ∷ xs) e zero (suc j) d l m =
      let parts = and_parts (list_all (test x) xs) (all_pairs test xs) e in
      All-from_test (R x) (test x) (sound x) xs parts.0 j d (omega arith)
  AllPairs-from_test R test sound (x ∷ xs) e (suc i) (suc j) d l m =
      let parts = and_parts (list_all (test x) xs) (all_pairs test xs) e in
      AllPairs-from_test R test sound xs parts.1 i j d (omega arith) (omega arith)
