-- How many entries of a matrix are not 0, and its trace.
use Rattle.std.specs.Prelude.{◌≡◌, ℕ, zero, suc, ◌+◌, ◌-◌, ◌*◌, ◌^◌, ◌<◌, ◌≤◌, Bool, true, false, List, [], ◌∷◌, ◌++◌, length, All, cond, not, nat_eq, sum_by, refl, Some, slice_get}
use Rattle.std.proofs.Common.{sym, ap, subst, ◌∙◌, arith, take, get_or, add-one}
use Rattle.std.proofs.Math.Nat.{mul-le-mul}
use Rattle.std.proofs.lemmas.Bool.{ne_eqb, eq-eqb, cond-true, cond-false}
use Rattle.std.proofs.lemmas.List.{take_more, take_all}
use Rattle.std.proofs.lemmas.List.Elements.{All-get_or}
use Rattle.std.proofs.lemmas.List.Sums.{sum_by-append}
use Rattle.std.proofs.lemmas.Option.{get_or_from_slice_get}
use Rattle.ve_theory.specs.Combinations.{coefficient, IsReduced, AllBefore}
use Rattle.ve_theory.specs.Answers.{Answer, Row, IsRow, dimension}
use Rattle.ve_lemmas.proofs.Sums.{AllBefore_from_All}
use Rattle.ve_vec.proofs.Coefficients.{coefficient-below, coefficient-first, coefficient-other}
use Rattle.ve_formats.specs.Lines.{numbers_below, numbers_below-next}
use Rattle.ve_formats.specs.SummaryText.{nonzero_in_row, nonzero_entries, entry, trace, letter_summary}
use Rattle.ve_out.specs.Parts.{figures_line}

-- ---- the entries of a row that are not 0 are its terms

counts : ℕ → ℕ
counts c = cond (not (nat_eq c 0)) 1 0

counts-zero : (c : ℕ) → c ≡ 0 → counts c ≡ 0
unfolding counts
counts-zero c is = ap (λ b. cond (not b) 1 0) (eq-eqb c 0 is)

counts-one : (c : ℕ) → 0 < c → counts c ≡ 1
unfolding counts
counts-one c some = ap (λ b. cond (not b) 1 0) (ne_eqb c 0 (λ is. omega arith))

nonzero-none : (row : Row) → nonzero_in_row 0 row ≡ 0
unfolding numbers_below
nonzero-none row = refl

nonzero-next : (n : ℕ) (row : Row) → nonzero_in_row (n + 1) row ≡ nonzero_in_row n row + counts (coefficient nat_eq row n)
unfolding counts
nonzero-next n row =
    let count : ℕ → ℕ = λ place. cond (not (nat_eq (coefficient nat_eq row place) 0)) 1 0 in
    ap (sum_by count) (numbers_below-next n) ∙ sum_by-append count (numbers_below n) (n ∷ []) ∙ omega arith

nonzero_past : (k n : ℕ) (row : Row) → AllBefore ◌<◌ k row → nonzero_in_row (k + n) row ≡ nonzero_in_row k row
nonzero_past k zero row below = ap (λ m. nonzero_in_row m row) (omega arith)
nonzero_past k (suc n) row below =
    let next : k + suc n ≡ (k + n) + 1 = omega arith in
    ap (λ m. nonzero_in_row m row) next ∙ nonzero-next (k + n) row
    ∙ omega (arith, nonzero_past k n row below, counts-zero (coefficient nat_eq row (k + n)) (coefficient-below k (k + n) row (omega arith) below))

nonzero_before : (m : ℕ) (t : ℕ × ℕ) (row : Row) → m ≤ t.0 → nonzero_in_row m (t ∷ row) ≡ nonzero_in_row m row
nonzero_before zero t row le = nonzero-none (t ∷ row) ∙ sym (nonzero-none row)
nonzero_before (suc m) t row le =
    let next : suc m ≡ m + 1 = omega arith in
    ap (λ k. nonzero_in_row k (t ∷ row)) next ∙ nonzero-next m (t ∷ row)
    ∙ ap (λ c. nonzero_in_row m (t ∷ row) + counts c) (coefficient-other t row m (omega arith))
    ∙ ap (λ k. k + counts (coefficient nat_eq row m)) (nonzero_before m t row (omega arith))
    ∙ sym (nonzero-next m row) ∙ ap (λ k. nonzero_in_row k row) (sym next)

nonzero_terms : (p n : ℕ) (row : Row) → IsReduced ◌<◌ p row → AllBefore ◌<◌ n row → nonzero_in_row n row ≡ length row
unfolding IsReduced AllBefore
nonzero_terms p n [] reduced below = ap (λ m. nonzero_in_row m []) (omega arith) ∙ nonzero_past 0 n [] tt ∙ nonzero-none []
nonzero_terms p n (t ∷ row) reduced below =
    let split : n ≡ (t.0 + 1) + (n - (t.0 + 1)) = omega (arith, below.0) in
    let own : coefficient nat_eq (t ∷ row) t.0 ≡ t.1 = coefficient-first t row ∙ omega (arith, coefficient-below t.0 t.0 row (omega arith) reduced.2) in
    ap (λ m. nonzero_in_row m (t ∷ row)) split
    ∙ nonzero_past (t.0 + 1) (n - (t.0 + 1)) (t ∷ row) (omega arith, later t.0 row reduced.2)
    ∙ nonzero-next t.0 (t ∷ row)
    ∙ omega (arith, nonzero_before t.0 t row (omega arith), nonzero_terms p t.0 row reduced.3 reduced.2, counts-one (coefficient nat_eq (t ∷ row) t.0) (omega (arith, own, reduced.0)))
  where
    later : (k : ℕ) (row : Row) → AllBefore ◌<◌ k row → AllBefore ◌<◌ (k + 1) row
    later k [] before = tt
    later k (t ∷ row) before = (omega (arith, before.0), later k row before.1)

at_most_one : (c : ℕ) → counts c ≤ 1
unfolding counts
at_most_one c = elim (nat_eq c 0) as (λ b. cond (not b) 1 0 ≤ 1) [ true ↦ omega arith | false ↦ omega arith ]

nonzero_most : (n : ℕ) (row : Row) → nonzero_in_row n row ≤ n
nonzero_most zero row = omega (arith, nonzero-none row)
nonzero_most (suc n) row = omega (arith, ap (λ m. nonzero_in_row m row) (add-one n), nonzero-next n row, nonzero_most n row, at_most_one (coefficient nat_eq row n))

pub row_count : (p n : ℕ) (row : Row) → IsRow p n row → length row ≡ nonzero_in_row n row
row_count p n row is_row = sym (nonzero_terms p n row is_row.0 (AllBefore_from_All ◌<◌ n row is_row.1))

-- ---- row after row

pub record IsCounted (matrix : List Row) (at count : ℕ) : Type 0 where
  pub total : count ≡ sum_by (nonzero_in_row (length matrix)) (take at matrix)
  pub room : count ≤ at * length matrix

pub counted_next : (p : ℕ) (matrix : List Row) (at count : ℕ) (row : Row) → All (IsRow p (length matrix)) matrix → at < length matrix → slice_get matrix at ≡ Some row → IsCounted matrix at count
    → IsCounted matrix (at + 1) (count + length row)
counted_next p matrix at count row all inside found counted =
    let n : ℕ = length matrix in
    let here : get_or matrix at row ≡ row = get_or_from_slice_get matrix at row row found in
    let is_row : IsRow p n row = subst (IsRow p n) here (All-get_or (IsRow p n) matrix at row inside all) in
    let size : length row ≡ nonzero_in_row n row = row_count p n row is_row in
    let sum : sum_by (nonzero_in_row n) (take (at + 1) matrix) ≡ sum_by (nonzero_in_row n) (take at matrix) + nonzero_in_row n row =
    ap (sum_by (nonzero_in_row n)) (take_more matrix at row inside ∙ ap (λ x. take at matrix ++ x ∷ []) here)
    ∙ sum_by-append (nonzero_in_row n) (take at matrix) (row ∷ []) ∙ omega arith in
    record {
      total = omega (arith, sum, size, counted.total);
      room = omega (arith, size, nonzero_most n row, counted.room, times_next at n);
    }
  where
    times_next : (a n : ℕ) → (a + 1) * n ≡ a * n + n
    times_next a n = omega arith

pub counted_all : (matrix : List Row) (at count : ℕ) → length matrix ≤ at → IsCounted matrix at count → count ≡ sum_by (nonzero_in_row (length matrix)) matrix
counted_all matrix at count outside counted = counted.total ∙ ap (sum_by (nonzero_in_row (length matrix))) (take_all at matrix outside)

-- ---- the diagonal

pub record IsSummed (matrix : List Row) (at sum : ℕ) : Type 0 where
  pub total : sum ≡ sum_by (λ place. entry matrix place place) (numbers_below at)
  pub room : sum ≤ at * 255

pub summed_nothing : (matrix : List Row) → IsSummed matrix 0 0
unfolding numbers_below
summed_nothing matrix = record { total = refl; room = omega arith }

pub summed_next : (matrix : List Row) (at sum : ℕ) (row : Row) (c : ℕ) → slice_get matrix at ≡ Some row → c ≡ coefficient nat_eq row at → c < 256 → IsSummed matrix at sum → IsSummed matrix (at + 1) (sum + c)
summed_next matrix at sum row c found is small summed =
    let here : get_or matrix at [] ≡ row = get_or_from_slice_get matrix at row [] found in
    let same : c ≡ entry matrix at at = is ∙ ap (λ r. coefficient nat_eq r at) (sym here) in
    let total : sum_by (λ place. entry matrix place place) (numbers_below (at + 1)) ≡ sum_by (λ place. entry matrix place place) (numbers_below at) + entry matrix at at =
    ap (sum_by (λ place. entry matrix place place)) (numbers_below-next at) ∙ sum_by-append (λ place. entry matrix place place) (numbers_below at) (at ∷ []) ∙ omega arith in
    record { total = omega (arith, total, same, summed.total); room = omega (arith, summed.room, small) }

-- ---- room for the sums

pub product_room : (at n : ℕ) → at < n → n < 2 ^ 32 → at * n + n < 2 ^ 64
product_room at n less small =
    let most : (at + 1) * n ≤ 4294967295 * 4294967295 = mul-le-mul {n₁ = at + 1} {m₁ = n} {n₂ = 4294967295} {m₂ = 4294967295} (omega arith) (omega arith) in
    omega (arith, most, times_next at n)
  where
    times_next : (a n : ℕ) → (a + 1) * n ≡ a * n + n
    times_next a n = omega arith

-- ---- the line of a letter

pub summary_of : (A : Answer) (x : ℕ) (name : List ℕ) (matrix : List Row) (nonzero diagonal : ℕ) → slice_get A.names x ≡ Some name → matrix ≡ get_or A.action.matrices x [] → length matrix ≡ dimension A.action
    → nonzero ≡ nonzero_entries (length matrix) matrix → diagonal ≡ trace A.prime (length matrix) matrix → figures_line name nonzero diagonal ≡ letter_summary A x
summary_of A x name matrix nonzero diagonal found is size count sum =
    let named : name ≡ get_or A.names x [] = sym (get_or_from_slice_get A.names x name [] found) in
    let counted : nonzero ≡ nonzero_entries (dimension A.action) (get_or A.action.matrices x []) = count ∙ (λ i. nonzero_entries (size i) (is i)) in
    let summed : diagonal ≡ trace A.prime (dimension A.action) (get_or A.action.matrices x []) = sum ∙ (λ i. trace A.prime (size i) (is i)) in
    λ i. figures_line (named i) (counted i) (summed i)
