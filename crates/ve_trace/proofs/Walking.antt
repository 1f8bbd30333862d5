-- Products of a vector with the first letters of words.
use Rattle.std.proofs.Common.{◌≡◌, ℕ, zero, suc, ◌+◌, ◌<◌, ◌≤◌, nat_eq, List, [], ◌∷◌, ◌++◌, length, take, drop, get_or, ◌⊎◌, inl, inr, refl, sym, ap, ◌∙◌, subst, drop-cons, arith}
use Rattle.std.proofs.lemmas.Bool.{cases_lt}
use Rattle.std.proofs.lemmas.List.{take_more, take_all, take-append-drop, get_or-take, get_or_append_left, length-take-le, length_push}
use Rattle.std.proofs.Math.Seq.{get_or-append_seam}
use Rattle.ve_theory.specs.Combinations.{Combination, IsReduced, IsReducedOf}
use Rattle.ve_theory.proofs.Sums.{SameWeights-sym, SameWeights-extended}
use Rattle.ve_vec.specs.Tracing.{PartialTable, row_or_zero, vector_times, vector_times_letters, HasProducts, CanTrace}
use Rattle.ve_trace.specs.Prefixes.{ArePrefixes, AreAllPrefixes}
use Rattle.ve_trace.proofs.Adding.{weights_of, itself, onto}
use Rattle.ve_trace.proofs.Tracings.{CanTrace-alike}

-- a word in two parts

letters-append : (rows : PartialTable) (v : Combination ℕ) (u w : List ℕ) → vector_times_letters rows v (u ++ w) ≡ vector_times_letters rows (vector_times_letters rows v u) w
unfolding vector_times_letters
letters-append rows v [] w = refl
letters-append rows v (x ∷ u) w = letters-append rows (vector_times rows v x) u w

CanTrace-rest : (p : ℕ) (rows : PartialTable) (v : Combination ℕ) (u w : List ℕ) → CanTrace p rows v (u ++ w) → CanTrace p rows (vector_times_letters rows v u) w
unfolding vector_times_letters CanTrace
CanTrace-rest p rows v [] w can = can
CanTrace-rest p rows v (x ∷ u) w can = CanTrace-rest p rows (vector_times rows v x) u w can.1

CanTrace-first : (p : ℕ) (rows : PartialTable) (v : Combination ℕ) (x : ℕ) (u : List ℕ) → CanTrace p rows v (x ∷ u) → HasProducts p rows v x
unfolding CanTrace
CanTrace-first p rows v x u can = can.0

in_two : (letters : List ℕ) (i : ℕ) → i < length letters → letters ≡ take i letters ++ get_or letters i 0 ∷ drop (suc i) letters
in_two letters i within = sym (take-append-drop i letters) ∙ ap (λ w. take i letters ++ w) (drop-cons letters i 0 within)

take-below : {X : Type 0} (i n : ℕ) (xs : List X) → i ≤ n → take i (take n xs) ≡ take i xs
take-below zero n xs le = refl
take-below (suc i) zero xs le = absurd (omega arith)
take-below (suc i) (suc n) [] le = refl
take-below (suc i) (suc n) (x ∷ xs) le = ap (λ l. x ∷ l) (take-below i n xs (omega arith))

module _ (p : ℕ) (rows : PartialTable) (start : Combination ℕ) where
  abbrev IsProduct : List ℕ → Combination ℕ → Type 0
  IsProduct u v = IsReducedOf ◌<◌ nat_eq p v (vector_times_letters rows start u)

  pub begins : (products : List (Combination ℕ)) (v : Combination ℕ) → products ≡ v ∷ [] → v ≡ start → IsReduced ◌<◌ p v → AreAllPrefixes p rows start [] products
  unfolding vector_times_letters
  begins products v is same reduced =
      let P : List (Combination ℕ) → Type 0 = λ l. AreAllPrefixes p rows start [] l in
      subst P (sym is)
      (record { prefixes = record { some = omega arith; within = omega arith; each = here }; all = omega arith })
    where
      here : (i : ℕ) (d : Combination ℕ) → i < length (v ∷ []) → IsProduct (take i []) (get_or (v ∷ []) i d)
      here zero d within = let Q : Combination ℕ → Type 0 = λ e. IsReducedOf ◌<◌ nat_eq p v e in subst Q same (itself reduced)
      here (suc i) d within = absurd (omega arith)

  -- what two words share
  pub keeps : (before letters : List ℕ) (n : ℕ) (products new : List (Combination ℕ)) → new ≡ take (n + 1) products → n ≤ length before → n ≤ length letters → take n before ≡ take n letters
      → AreAllPrefixes p rows start before products → ArePrefixes p rows start letters new
  keeps before letters n products new new_is old within same are =
      let count : length new ≡ n + 1 = ap length new_is ∙ length-take-le (n + 1) products (omega (arith, are.all)) in
      record {
        some = omega arith;
        within = omega arith;
        each = λ i d inside.
            let less : i < n + 1 = omega arith in
            let le : i ≤ n = omega arith in
            let product : IsProduct (take i before) (get_or products i d) = are.prefixes.each i d (omega (arith, are.all)) in
            let there : get_or products i d ≡ get_or new i d = sym (ap (λ l. get_or l i d) new_is ∙ get_or-take (n + 1) products i d less) in
            let letters_same : take i before ≡ take i letters = sym (take-below i n before le) ∙ (ap (take i) same ∙ take-below i n letters le) in
            let P : List ℕ → Type 0 = λ u. IsProduct u (get_or products i d) in
            let Q : Combination ℕ → Type 0 = λ v. IsProduct (take i letters) v in
            subst Q there (subst P letters_same product);
      }

  module _ (letters : List ℕ) (products : List (Combination ℕ)) (i : ℕ) (d : Combination ℕ) (are : ArePrefixes p rows start letters products) (count : length products ≡ i + 1) (within : i < length letters) where
    last : IsProduct (take i letters) (get_or products i d)
    last = are.each i d (omega arith)

    pub finds_next : CanTrace p rows start letters → HasProducts p rows (get_or products i d) (get_or letters i 0)
    finds_next can =
        let C : List ℕ → Type 0 = λ u. CanTrace p rows start u in
        CanTrace-first p rows (get_or products i d) (get_or letters i 0) (drop (suc i) letters)
        (CanTrace-alike p rows (vector_times_letters rows start (take i letters)) (get_or products i d) (get_or letters i 0 ∷ drop (suc i) letters) (SameWeights-sym (weights_of last))
        (CanTrace-rest p rows start (take i letters) (get_or letters i 0 ∷ drop (suc i) letters) (subst C (in_two letters i within) can)))

    next_product : (v : Combination ℕ) → IsReducedOf ◌<◌ nat_eq p v (vector_times rows (get_or products i d) (get_or letters i 0)) → IsProduct (take (i + 1) letters) v
    unfolding vector_times_letters
    next_product v product =
        let x : ℕ = get_or letters i 0 in
        let further : vector_times rows (vector_times_letters rows start (take i letters)) x ≡ vector_times_letters rows start (take (i + 1) letters) =
        sym (ap (vector_times_letters rows start) (take_more letters i 0 within) ∙ letters-append rows start (take i letters) (x ∷ [])) in
        let P : Combination ℕ → Type 0 = λ e. IsReducedOf ◌<◌ nat_eq p v e in
        subst P further (onto product (SameWeights-extended (row_or_zero rows x) (weights_of last)))

    pub goes_on : (v : Combination ℕ) (new : List (Combination ℕ)) → new ≡ products ++ v ∷ [] → IsReducedOf ◌<◌ nat_eq p v (vector_times rows (get_or products i d) (get_or letters i 0))
        → ArePrefixes p rows start letters new × (length new ≡ i + 1 + 1)
    goes_on v new new_is product =
        let total : length new ≡ i + 1 + 1 = ap length new_is ∙ (length_push products v ∙ omega arith) in (
          record {
            some = omega arith;
            within = omega arith;
            each = λ j e inside.
                let P : List (Combination ℕ) → Type 0 = λ l. IsProduct (take j letters) (get_or l j e) in
                subst P (sym new_is) (at_place j e (cases_lt j (length products)) (omega arith));
          },
          total,
        )
      where
        at_place : (j : ℕ) (e : Combination ℕ) → (j < length products) ⊎ (length products ≤ j) → j < i + 1 + 1 → IsProduct (take j letters) (get_or (products ++ v ∷ []) j e)
        at_place j e (inl less) inside =
            let Q : Combination ℕ → Type 0 = λ w. IsProduct (take j letters) w in
            subst Q (sym (get_or_append_left products (v ∷ []) e j less)) (are.each j e less)
        at_place j e (inr past) inside =
            let same : length products ≡ j = omega arith in
            let same_next : i + 1 ≡ j = omega arith in
            let R : ℕ → Type 0 = λ k. IsProduct (take j letters) (get_or (products ++ v ∷ []) k e) in
            let Q : Combination ℕ → Type 0 = λ w. IsProduct (take j letters) w in
            let S : ℕ → Type 0 = λ k. IsProduct (take k letters) v in
            subst R same (subst Q (sym (get_or-append_seam products v [] e)) (subst S same_next (next_product v product)))

  -- all letters
  pub whole : (letters : List ℕ) (products : List (Combination ℕ)) (d : Combination ℕ) → AreAllPrefixes p rows start letters products → IsProduct letters (get_or products (length letters) d)
  whole letters products d are =
      let P : List ℕ → Type 0 = λ u. IsProduct u (get_or products (length letters) d) in
      subst P (take_all (length letters) letters (omega arith)) (are.prefixes.each (length letters) d (omega (arith, are.all)))
