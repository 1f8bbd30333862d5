-- Products of ids and letters, one more at a time.
use Rattle.std.proofs.Common.{◌≡◌, ◌≢◌, ℕ, ◌+◌, cond, List, [], ◌∷◌, ◌++◌, refl, sym, ap, ◌∙◌, arith, eq-eqb, ne_eqb}
use Rattle.std.specs.Prelude.{Bool, filter, nat_eq, slice_index}
use Rattle.std.specs.List.{range_with_len, flat_map}
use Rattle.std.proofs.lemmas.Bool.{cond-true, cond-false}
use Rattle.std.proofs.lemmas.List.{append-nil, map-id, flat_map_more}
use Rattle.std.proofs.lemmas.List.FromFn.{map-range_with_len_more, filter_of_map_range_with_len_more}
use Rattle.ve_table.specs.Births.{births_of, all_births}

filter_more : (p : ℕ → Bool) (n : ℕ) → filter p (range_with_len 0 (n + 1)) ≡ filter p (range_with_len 0 n) ++ cond (p n) (n ∷ []) []
filter_more p n =
    ap (filter p) (sym (map-id (range_with_len 0 (n + 1)))) ∙ filter_of_map_range_with_len_more p (λ x. x) 0 n n (omega arith)
    ∙ ap (λ l. filter p l ++ cond (p n) (n ∷ []) []) (map-id (range_with_len 0 n))

pub letter_more_yes : (weights : List ℕ) (weight n : ℕ) → slice_index weights n ≡ weight
    → filter (λ x. nat_eq (slice_index weights x) weight) (range_with_len 0 (n + 1)) ≡ filter (λ x. nat_eq (slice_index weights x) weight) (range_with_len 0 n) ++ n ∷ []
letter_more_yes weights weight n is =
    filter_more (λ x. nat_eq (slice_index weights x) weight) n
    ∙ ap (λ l. filter (λ x. nat_eq (slice_index weights x) weight) (range_with_len 0 n) ++ l) (cond-true {A = List ℕ} (nat_eq (slice_index weights n) weight) (n ∷ []) [] (eq-eqb (slice_index weights n) weight is))

pub letter_more_no : (weights : List ℕ) (weight n : ℕ) → slice_index weights n ≢ weight
    → filter (λ x. nat_eq (slice_index weights x) weight) (range_with_len 0 (n + 1)) ≡ filter (λ x. nat_eq (slice_index weights x) weight) (range_with_len 0 n)
letter_more_no weights weight n is =
    filter_more (λ x. nat_eq (slice_index weights x) weight) n
    ∙ ap (λ l. filter (λ x. nat_eq (slice_index weights x) weight) (range_with_len 0 n) ++ l) (cond-false {A = List ℕ} (nat_eq (slice_index weights n) weight) (n ∷ []) [] (ne_eqb (slice_index weights n) weight is))
    ∙ append-nil (filter (λ x. nat_eq (slice_index weights x) weight) (range_with_len 0 n))

range_more : (a n : ℕ) → range_with_len a (n + 1) ≡ range_with_len a n ++ (a + n) ∷ []
range_more a n = sym (map-id (range_with_len a (n + 1))) ∙ map-range_with_len_more (λ x. x) a n (a + n) refl ∙ ap (λ l. l ++ (a + n) ∷ []) (map-id (range_with_len a n))

pub births_more : (first n : ℕ) (letters : List ℕ) → all_births first (n + 1) letters ≡ all_births first n letters ++ births_of (first + n) letters
births_more first n letters =
    ap (flat_map (λ parent. births_of parent letters)) (range_more first n)
    ∙ sym (flat_map_more (λ parent. births_of parent letters) [] (range_with_len first n) (first + n))

pub births_none : (first m : ℕ) (letters : List ℕ) → m ≡ 0 → all_births first m letters ≡ []
births_none first m letters none = ap (λ n. all_births first n letters) none

pub births_all : (first m n : ℕ) (letters : List ℕ) → m ≡ n → all_births first m letters ≡ all_births first n letters
births_all first m n letters equal = ap (λ n. all_births first n letters) equal
