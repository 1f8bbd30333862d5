-- There are as many births as the next level counts, at most.
use Rattle.std.proofs.Common.{◌≡◌, ◌≢◌, ℕ, zero, suc, ◌+◌, ◌<◌, ◌≤◌, inl, inr, Bool, cond, List, [], ◌∷◌, ◌++◌, length, map, get_or, refl, sym, ap, ap₂, subst, ◌∙◌, arith, eq-eqb}
use Rattle.std.specs.Prelude.{All, AllPairs, Contains, count_by, sum_by, filter, nat_eq}
use Rattle.std.specs.List.{range_with_len}
use Rattle.std.proofs.lemmas.List.{length-map, length-append}
use Rattle.std.proofs.lemmas.List.FromFn.{fill_by_all, length-range_with_len, get_or-range_with_len}
use Rattle.std.proofs.lemmas.List.Sums.{sum_by-cons, length-filter}
use Rattle.std.proofs.lemmas.List.Elements.{All-head, All-tail, Contains-append_left, Contains-append_right}
use Rattle.ve_theory.specs.Words.{Word}
use Rattle.ve_theory.specs.Presentations.{Presentation, reach}
use Rattle.ve_theory.specs.Levels.{steps_to}
use Rattle.ve_lemmas.proofs.Lists.{Contains-here, Contains-later, Contains-cons, Contains-filter}
use Rattle.ve_table.specs.declared.birth.Birth.{Birth}
use Rattle.ve_table.specs.Births.{births_of}
use Rattle.ve_table.proofs.Merging.{first_before, rest_rises}
use Rattle.ve_table.proofs.Birthing.{contains_births_of}

-- different elements of a list are no more than the list has

cut : {X : Type 0} → List X → ℕ → List X
cut [] k = []
cut (y ∷ ys) zero = ys
cut (y ∷ ys) (suc k) = y ∷ cut ys k

length_cut : {X : Type 0} (ys : List X) (k : ℕ) → k < length ys → length (cut ys k) + 1 ≡ length ys
unfolding cut
length_cut [] k lt = absurd (omega (arith, lt))
length_cut (y ∷ ys) zero lt = omega arith
length_cut (y ∷ ys) (suc k) lt = let rest = length_cut ys k (omega (arith, lt)) in omega (arith, rest)

contains_cut : {X : Type 0} (ys : List X) (k : ℕ) (x z : X) → get_or ys k x ≡ x → k < length ys → x ≢ z → Contains ys z → Contains (cut ys k) z
unfolding cut
contains_cut [] k x z is lt differ found = absurd (omega (arith, lt))
contains_cut (y ∷ ys) zero x z is lt differ found = elim (Contains-cons y z ys found) [ inl here ↦ absurd (differ (sym is ∙ here)) | inr there ↦ there ]
contains_cut (y ∷ ys) (suc k) x z is lt differ found =
    elim (Contains-cons y z ys found) [
      | inl here ↦ subst (Contains (y ∷ cut ys k)) here (Contains-here y (cut ys k))
      | inr there ↦ Contains-later y z (cut ys k) (contains_cut ys k x z is (omega (arith, lt)) differ there)
    ]

pub no_more : {X : Type 0} (xs ys : List X) → AllPairs ◌≢◌ xs → All (Contains ys) xs → length xs ≤ length ys
no_more [] ys distinct all = omega arith
no_more (x ∷ xs) ys distinct all =
    let found = All-head (Contains ys) x xs all in
    let rest = no_more xs (cut ys found.0) (rest_rises ◌≢◌ x xs distinct)
    (λ j d lt. contains_cut ys found.0 x (get_or xs j d) found.2 found.1 (first_before ◌≢◌ x xs distinct j d lt) (All-tail (Contains ys) x xs all j d lt)) in
    omega (arith, rest, length_cut ys found.0 found.1)

-- all pairs of an id and a letter that reach the level

letters_reaching : (weights : List ℕ) (k r : ℕ) → List ℕ
letters_reaching weights k r = filter (λ x. nat_eq (r + get_or weights x 0) k) (range_with_len 0 (length weights))

pairs_from : (P : Presentation) (k b : ℕ) → List Word → List Birth
pairs_from P k b [] = []
pairs_from P k b (w ∷ ws) = births_of b (letters_reaching P.weights k (reach P w)) ++ pairs_from P k (b + 1) ws

count_map : (p : ℕ → Bool) (f : ℕ → ℕ) (xs : List ℕ) → count_by p (map f xs) ≡ count_by (λ x. p (f x)) xs
count_map p f [] = refl
count_map p f (x ∷ xs) = sum_by-cons (λ x. cond (p x) 1 0) (f x) (map f xs) ∙ ap (λ n. cond (p (f x)) 1 0 + n) (count_map p f xs) ∙ sym (sum_by-cons (λ x. cond (p (f x)) 1 0) x xs)

length_reaching : (weights : List ℕ) (k r : ℕ) → length (letters_reaching weights k r) ≡ count_by (λ s. nat_eq (r + s) k) weights
unfolding letters_reaching
length_reaching weights k r =
    length-filter (λ x. nat_eq (r + get_or weights x 0) k) (range_with_len 0 (length weights))
    ∙ sym (count_map (λ s. nat_eq (r + s) k) (λ x. get_or weights x 0) (range_with_len 0 (length weights)))
    ∙ ap (count_by (λ s. nat_eq (r + s) k)) (sym (fill_by_all (λ x. get_or weights x 0) weights (length weights) 0 refl (λ i lt. refl)))

length_pairs : (P : Presentation) (k b : ℕ) (ws : List Word) → length (pairs_from P k b ws) ≡ sum_by (steps_to P k) ws
unfolding pairs_from
length_pairs P k b [] = refl
length_pairs P k b (w ∷ ws) =
    let rest = length_pairs P k (b + 1) ws in
    length-append (births_of b (letters_reaching P.weights k (reach P w))) (pairs_from P k (b + 1) ws)
    ∙ ap₂ (λ m n. m + n) (length-map (letters_reaching P.weights k (reach P w)) (λ x. record { parent = b; letter = x }) ∙ length_reaching P.weights k (reach P w)) rest
    ∙ sym (sum_by-cons (steps_to P k) w ws)

contains_reaching : (weights : List ℕ) (k r x : ℕ) → x < length weights → r + get_or weights x 0 ≡ k → Contains (letters_reaching weights k r) x
unfolding letters_reaching
contains_reaching weights k r x lt is =
    Contains-filter (λ x. nat_eq (r + get_or weights x 0) k) (range_with_len 0 (length weights)) x
    (x, omega (arith, lt, length-range_with_len 0 (length weights)), get_or-range_with_len 0 (length weights) x x lt ∙ omega arith)
    (eq-eqb (r + get_or weights x 0) k is)

contains_pair : (P : Presentation) (k b : ℕ) (ws : List Word) (i p x : ℕ) (d : Word) → i < length ws → p ≡ b + i → x < length P.weights → reach P (get_or ws i d) + get_or P.weights x 0 ≡ k
    → Contains (pairs_from P k b ws) (record { parent = p; letter = x })
unfolding pairs_from
contains_pair P k b [] i p x d lt p_is inside is = absurd (omega (arith, lt))
contains_pair P k b (w ∷ ws) zero p x d lt p_is inside is =
    Contains-append_left (births_of b (letters_reaching P.weights k (reach P w))) (pairs_from P k (b + 1) ws) (record { parent = p; letter = x })
    (subst (λ q. Contains (births_of b (letters_reaching P.weights k (reach P w))) (record { parent = q; letter = x })) (let e : b ≡ p = omega (arith, p_is) in e)
    (contains_births_of b x (letters_reaching P.weights k (reach P w)) (contains_reaching P.weights k (reach P w) x inside is)))
contains_pair P k b (w ∷ ws) (suc i) p x d lt p_is inside is =
    Contains-append_right (births_of b (letters_reaching P.weights k (reach P w))) (pairs_from P k (b + 1) ws) (record { parent = p; letter = x })
    (contains_pair P k (b + 1) ws i p x d (omega (arith, lt)) (omega (arith, p_is)) inside is)

pub births_counted : (P : Presentation) (k : ℕ) (ws : List Word) (bs : List Birth) (d : Word) → AllPairs ◌≢◌ bs
    → All (λ (b : Birth). (b.parent < length ws) × (b.letter < length P.weights) × (reach P (get_or ws b.parent d) + get_or P.weights b.letter 0 ≡ k)) bs → length bs ≤ sum_by (steps_to P k) ws
births_counted P k ws bs d distinct all =
    let le = no_more bs (pairs_from P k 0 ws) distinct
    (λ j c lt. let b = all j c lt in contains_pair P k 0 ws (get_or bs j c).parent (get_or bs j c).parent (get_or bs j c).letter d b.0 (omega arith) b.1 b.2) in
    omega (arith, le, length_pairs P k 0 ws)
