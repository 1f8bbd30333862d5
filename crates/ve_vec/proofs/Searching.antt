-- What a search by id finds in terms that stand by falling id.
use Rattle.std.proofs.Common.{◌≡◌, ℕ, zero, suc, ◌-◌, ◌<◌, ◌≤◌, true, false, List, [], ◌∷◌, length, take, drop, get_or, ltb, ap, subst, sym, arith}
use Rattle.std.proofs.lemmas.Bool.{ltb-true, ltb-false, lt-ltb}
use Rattle.std.proofs.lemmas.List.{drop_all, get_or_default}
use Rattle.std.specs.List.Sorted.{IsPartitionedBy}
use Rattle.ve_theory.specs.Combinations.{AllBefore, IsReduced}
use Rattle.ve_vec.specs.declared.term.Term.{Term}
use Rattle.ve_vec.specs.Terms.{pairs}
use Rattle.ve_vec.proofs.Coefficients.{AllBefore-at}

-- ids fall
pub falls : (p : ℕ) (xs : List Term) (i j : ℕ) (d : Term) → IsReduced ◌<◌ p (pairs xs) → i ≤ j → j < length xs → (get_or xs j d).id ≤ (get_or xs i d).id
unfolding IsReduced
falls p [] i j d reduced le within = absurd (omega arith)
falls p (x ∷ xs) zero zero d reduced le within = omega arith
falls p (x ∷ xs) zero (suc j) d reduced le within = omega (arith, AllBefore-at x.id xs j d reduced.2 (omega arith))
falls p (x ∷ xs) (suc i) zero d reduced le within = absurd (omega arith)
falls p (x ∷ xs) (suc i) (suc j) d reduced le within = falls p xs i j d reduced.3 (omega arith) (omega arith)

pub partitioned : (p id : ℕ) (xs : List Term) → IsReduced ◌<◌ p (pairs xs) → IsPartitionedBy (λ (t : Term). ltb id t.id) xs
partitioned p id xs reduced i j d le within above =
    lt-ltb id (get_or xs i d).id (omega (arith, ltb-true id (get_or xs j d).id above, falls p xs i j d reduced le within))

pub above_at : (id : ℕ) (xs : List Term) (n : ℕ) → ((k : ℕ) (d : Term) → k < n → ltb id (get_or xs k d).id ≡ true) → AllBefore (λ j k. k < j) id (pairs (take n xs))
unfolding AllBefore
above_at id [] zero above = tt
above_at id [] (suc n) above = tt
above_at id (x ∷ xs) zero above = tt
above_at id (x ∷ xs) (suc n) above =
    (ltb-true id x.id (above 0 x (omega arith)), above_at id xs n (λ k d lt. above (suc k) d (omega arith)))

pub rest_at : (id : ℕ) (xs : List Term) (n : ℕ) → ((k : ℕ) (d : Term) → n ≤ k → k < length xs → ltb id (get_or xs k d).id ≡ false) → AllBefore ◌≤◌ id (pairs (drop n xs))
unfolding AllBefore
rest_at id [] zero rest = tt
rest_at id [] (suc n) rest = tt
rest_at id (x ∷ xs) zero rest =
    (ltb-false id x.id (rest 0 x (omega arith) (omega arith)), rest_at id xs zero (λ k d le lt. rest (suc k) d (omega arith) (omega arith)))
rest_at id (x ∷ xs) (suc n) rest = rest_at id xs n (λ k d le lt. rest (suc k) d (omega arith) (omega arith))

-- from the end

pub none_here : (id : ℕ) (xs : List Term) → AllBefore ◌≤◌ id (pairs (drop (length xs) xs))
unfolding AllBefore
none_here id xs = rw (drop_all (length xs) xs (omega arith)) tt

pub none_above : (id : ℕ) (xs : List Term) (at : ℕ) → at ≡ 0 → AllBefore (λ j k. k < j) id (pairs (take at xs))
unfolding AllBefore
none_above id xs at none = rw none tt

at_place : (id : ℕ) (xs : List Term) (n : ℕ) (d : Term) → n < length xs → (get_or xs n d).id ≤ id → AllBefore ◌≤◌ id (pairs (drop (suc n) xs)) → AllBefore ◌≤◌ id (pairs (drop n xs))
unfolding AllBefore
at_place id [] n d within le rest = absurd (omega arith)
at_place id (x ∷ xs) zero d within le rest = (le, rest)
at_place id (x ∷ xs) (suc n) d within le rest = at_place id xs n d (omega arith) le rest

pub one_lower : (id : ℕ) (xs : List Term) (at : ℕ) (d : Term) → 0 < at → at ≤ length xs → (get_or xs (at - 1) d).id ≤ id → AllBefore ◌≤◌ id (pairs (drop at xs))
    → AllBefore ◌≤◌ id (pairs (drop (at - 1) xs))
one_lower id xs at d some within le rest =
    let next : suc (at - 1) ≡ at = omega (arith, some) in
    at_place id xs (at - 1) d (omega arith) le (subst (λ n. AllBefore ◌≤◌ id (pairs (drop n xs))) (sym next) rest)

pub above_from : (p id : ℕ) (xs : List Term) (at : ℕ) (d : Term) → IsReduced ◌<◌ p (pairs xs) → 0 < at → at ≤ length xs → id < (get_or xs (at - 1) d).id
    → AllBefore (λ j k. k < j) id (pairs (take at xs))
above_from p id xs at d reduced some within above =
    above_at id xs at
    (λ k e lt.
    lt-ltb id (get_or xs k e).id
    (omega (arith, above, falls p xs k (at - 1) e reduced (omega arith) (omega arith), ap (λ (t : Term). t.id) (get_or_default xs (at - 1) e d (omega arith)))))
