-- Matrices as tables: each letter does what its matrix does.
use Rattle.std.proofs.Common.{◌≡◌, ◌≢◌, ℕ, ◌<◌, ◌≤◌, ◌⊎◌, List, [], ◌∷◌, ◌++◌, length, length-append, get_or, All, Some, slice_get, slice_index_or, inl, inr, refl, sym, ap, ◌∙◌, subst, arith}
use Rattle.std.proofs.lemmas.List.Elements.{All-nil, All-head, All-tail, All-weaker}
use Rattle.std.proofs.lemmas.Option.{unwrap_or-slice_get, get_or_from_slice_get, slice_get_within, slice_get-get_or}
use Rattle.std.proofs.lemmas.List.{get_or_past, get_or_push}
use Rattle.std.proofs.Math.ListN.{get_or-append}
use Rattle.std.proofs.lemmas.Bool.{cases_lt}
use mathlib.Core.Path.{fun_ext}
use Rattle.ve_theory.specs.Combinations.{extended, IsReduced}
use Rattle.ve_theory.specs.Answers.{Action, Row, row_times_letters}
use Rattle.ve_theory.proofs.Remainders.{All-extended}
use Rattle.ve_lemmas.proofs.Lists.{All-slice_get}
use Rattle.ve_vec.specs.Tracing.{PartialTable, row_or_zero, vector_times, vector_times_letters, AreReduced, HasProducts, CanTrace}
use Rattle.ve_trace.proofs.Vectors.{vanishes_where_absent}
use Rattle.ve_matrix.specs.Matrices.{matrix_row_at, HasColumnsBelow, HasResidues}

-- each letter's matrix
abbrev pub as_table : (ℕ → List Row) → PartialTable
as_table matrices b x = slice_get (matrices x) b

pub table_row : (matrices : ℕ → List Row) (x : ℕ) → row_or_zero (as_table matrices) x ≡ matrix_row_at (matrices x)
table_row matrices x = fun_ext (λ b. unwrap_or-slice_get (matrices x) b [])

-- one letter
pub times_letter : (matrix : List Row) (v : Row) → vector_times_letters (as_table (λ x. matrix)) v (0 ∷ []) ≡ extended (matrix_row_at matrix) v
unfolding vector_times_letters
times_letter matrix v = ap (λ f. extended f v) (table_row (λ x. matrix) 0)

-- the matrices of an action
pub times_letters : (A : Action) (v : Row) (u : List ℕ) → vector_times_letters (as_table (λ x. slice_index_or A.matrices x [])) v u ≡ row_times_letters A v u
unfolding vector_times_letters row_times_letters
times_letters A v [] = refl
times_letters A v (x ∷ u) =
    ap (λ f. vector_times_letters (as_table (λ x. slice_index_or A.matrices x [])) (extended f v) u) (table_row (λ x. slice_index_or A.matrices x []) x)
    ∙ times_letters A (extended (matrix_row_at (slice_index_or A.matrices x [])) v) u

pub rows_reduced : (p : ℕ) (matrices : ℕ → List Row) → ((x : ℕ) → HasResidues p (matrices x)) → AreReduced p (as_table matrices)
rows_reduced p matrices residues b x v is = All-slice_get (IsReduced ◌<◌ p) (matrices x) b v is (residues x)

-- a vector with places below n, times a matrix with columns below n, has places below n
pub placed_times : (n : ℕ) (matrix : List Row) (v : Row) → HasColumnsBelow n matrix → All (λ t. t.0 < n) (extended (matrix_row_at matrix) v)
placed_times n matrix v columns = All-extended (λ j. j < n) (matrix_row_at matrix) v (λ k t l. row_placed (slice_index_or v k t).0)
  where
    row_placed : (j : ℕ) → All (λ t. t.0 < n) (matrix_row_at matrix j)
    row_placed j = cases (cases_lt j (length matrix))
      where
        cases : (j < length matrix) ⊎ (length matrix ≤ j) → All (λ t. t.0 < n) (matrix_row_at matrix j)
        cases (inl within) = columns j [] within
        cases (inr past) = subst (λ row. All (λ t. t.0 < n) row) (sym (get_or_past matrix j [] past)) (All-nil (λ (t : ℕ × ℕ). t.0 < n))

module _ (p n : ℕ) (matrices : ℕ → List Row) (letters : ℕ)
    (sizes : (x : ℕ) → x < letters → length (matrices x) ≡ n) (columns : (x : ℕ) → x < letters → HasColumnsBelow n (matrices x)) where
  products_found : (v : Row) (x : ℕ) → x < letters → All (λ t. t.0 < n) v → HasProducts p (as_table matrices) v x
  products_found v x is_letter placed b none =
      vanishes_where_absent p v b (All-weaker (λ (t : ℕ × ℕ). t.0 < n) (λ (t : ℕ × ℕ). t.0 ≢ b) (λ t less same. within t.0 less same) v placed)
    where
      within : (j : ℕ) → j < n → j ≡ b → ⊥
      within j less same =
          let there : slice_get (matrices x) b ≡ Some (matrix_row_at (matrices x) b) = slice_get-get_or (matrices x) b [] (omega (arith, sizes x is_letter)) in
          cc

  pub letters_found : (v : Row) (u : List ℕ) → All (λ x. x < letters) u → All (λ t. t.0 < n) v → CanTrace p (as_table matrices) v u
  unfolding CanTrace
  letters_found v [] are placed = tt
  letters_found v (x ∷ u) are placed =
      let is_letter : x < letters = All-head (λ y. y < letters) x u are in
      let next : vector_times (as_table matrices) v x ≡ extended (matrix_row_at (matrices x)) v = ap (λ f. extended f v) (table_row matrices x) in
      let P : Row → Type 0 = λ w. All (λ t. t.0 < n) w in (
        products_found v x is_letter placed,
        letters_found (vector_times (as_table matrices) v x) u (All-tail (λ y. y < letters) x u are) (subst P (sym next) (placed_times n (matrices x) v (columns x is_letter))),
      )

-- what holds of each element at its place holds with one more element
pub each_pushed : {X : Type 0} (P : ℕ → X → Type 0) (xs ys : List X) (n : ℕ) (y : X) → ys ≡ xs ++ y ∷ [] → length xs ≡ n
    → ((i : ℕ) (x : X) → slice_get xs i ≡ Some x → P i x) → P n y → (i : ℕ) (x : X) → slice_get ys i ≡ Some x → P i x
each_pushed {X} P xs ys n y pushed count each last i x is = cases (cases_lt i n)
  where
    there : slice_get (xs ++ y ∷ []) i ≡ Some x
    there = ap (λ l. slice_get l i) (sym pushed) ∙ is

    cases : (i < n) ⊎ (n ≤ i) → P i x
    cases (inl before) =
        let within : i < length xs = omega arith in
        let same : get_or xs i x ≡ x = sym (get_or-append xs (y ∷ []) x i within) ∙ get_or_from_slice_get (xs ++ y ∷ []) i x x there in
        each i x (slice_get-get_or xs i x within ∙ ap Some same)
    cases (inr past) =
        let within : i < length (xs ++ y ∷ []) = slice_get_within (xs ++ y ∷ []) i x there in
        let here : n ≡ i = omega (arith, length-append xs (y ∷ [])) in
        let same : y ≡ x = sym (get_or_push xs y x i (count ∙ here)) ∙ get_or_from_slice_get (xs ++ y ∷ []) i x x there in
        subst (P i) same (subst (λ j. P j y) here last)
