-- The entries of a row tell the row.
use Rattle.std.proofs.Common.{◌≡◌, ℕ, ◌%◌, ◌^◌, ◌<◌, ◌≤◌, inl, inr, get_or, List, [], ◌∷◌, length, All, arith, refl, sym, ap, subst, ◌∙◌}
use Rattle.std.specs.Prelude.{nat_eq, map, decimal}
use Rattle.std.proofs.lemmas.Bool.{ne_eqb, cases_lt, cases_Bool, cond-false, cond-true, eqb-true}
use Rattle.std.proofs.lemmas.List.{get_or-map, length-map}
use Rattle.std.proofs.lemmas.Fmt.{decimal_injective}
use Rattle.ve_theory.specs.Residues.{Congruent}
use Rattle.ve_theory.specs.Combinations.{coefficient, IsReduced, AllBefore}
use Rattle.ve_theory.specs.Answers.{Row, IsRow}
use Rattle.ve_theory.specs.Laws.{ReducedListsAreUnique}
use Rattle.ve_lemmas.proofs.Sums.{AllBefore_from_All}
use Rattle.ve_formats.specs.Lines.{numbers_below}
use Rattle.ve_formats.specs.AnswerText.{row_entries}
use Rattle.ve_formats.proofs.SpacedPieces.{Lacks, pieces_once, decimal_lacks}
use Rattle.ve_formats.proofs.NumbersBelow.{length-numbers_below, number_at}

-- ---- coefficients

pub absent : (k : ℕ) (v : Row) → AllBefore ◌<◌ k v → (m : ℕ) → k ≤ m → coefficient nat_eq v m ≡ 0
unfolding coefficient AllBefore
absent k [] before m le = refl
absent k (t ∷ v) before m le =
    omega (arith, cond-false (nat_eq t.0 m) t.1 0 (ne_eqb t.0 m (λ is. omega (arith, before.0))), absent k v before.1 m le)

pub small : (p : ℕ) (v : Row) → IsReduced ◌<◌ p v → (k : ℕ) → coefficient nat_eq v k ≤ p
unfolding coefficient IsReduced
small p [] reduced k = omega arith
small p (t ∷ v) reduced k =
    elim (cases_Bool (nat_eq t.0 k)) [
      | inl here ↦ omega (arith, cond-true (nat_eq t.0 k) t.1 0 here, absent t.0 v reduced.2 k (omega (arith, eqb-true t.0 k here)), reduced.1)
      | inr other ↦ omega (arith, cond-false (nat_eq t.0 k) t.1 0 other, small p v reduced.3 k)
    ]

-- ---- one row

module _ (unique : ReducedListsAreUnique) (p n : ℕ) (small_prime : p < 2 ^ 32) (u v : Row) (hu : IsRow p n u) (hv : IsRow p n v) where
  size : (f : ℕ → List ℕ) → length (map f (numbers_below n)) ≡ length (numbers_below n)
  size f = length-map (numbers_below n) f

  entries_lack : (row : Row) → IsRow p n row → All (Lacks 32) (map (λ place. decimal (coefficient nat_eq row place)) (numbers_below n))
  entries_lack row h k d inside =
      let f : ℕ → List ℕ = λ place. decimal (coefficient nat_eq row place) in
      let place : ℕ = get_or (numbers_below n) k 0 in
      let within : k < length (numbers_below n) = omega (arith, size f, inside) in
      subst (Lacks 32) (sym (get_or-map f (numbers_below n) k 0 d within))
      (decimal_lacks 32 (coefficient nat_eq row place) (omega arith) (omega (arith, small p row h.0 place)))

  entry_at : (row : Row) (k : ℕ) → k < n → get_or (map (λ place. decimal (coefficient nat_eq row place)) (numbers_below n)) k [] ≡ decimal (coefficient nat_eq row k)
  entry_at row k less =
      let f : ℕ → List ℕ = λ place. decimal (coefficient nat_eq row place) in
      let within : k < length (numbers_below n) = omega (arith, length-numbers_below n, less) in
      get_or-map f (numbers_below n) k 0 [] within ∙ ap f (number_at n k less)

  pub rows_once : row_entries n u ≡ row_entries n v → u ≡ v
  rows_once is = unique.rows p u v hu.0 hv.0 alike
    where
      same_entries : map (λ place. decimal (coefficient nat_eq u place)) (numbers_below n) ≡ map (λ place. decimal (coefficient nat_eq v place)) (numbers_below n)
      same_entries = pieces_once _ _ (entries_lack u hu) (entries_lack v hv) is

      same : (k : ℕ) → k < n → coefficient nat_eq u k ≡ coefficient nat_eq v k
      same k less =
          decimal_injective (coefficient nat_eq u k) (coefficient nat_eq v k) (omega (arith, small p u hu.0 k)) (omega (arith, small p v hv.0 k))
          (sym (entry_at u k less) ∙ ap (λ es. get_or es k []) same_entries ∙ entry_at v k less)

      alike : (k : ℕ) → Congruent p (coefficient nat_eq u k) (coefficient nat_eq v k)
      alike k = elim (cases_lt k n) [
        | inl less ↦ ap (λ c. c % p) (same k less)
        | inr above ↦ ap (λ c. c % p) (absent n u (AllBefore_from_All ◌<◌ n u hu.1) k above ∙ sym (absent n v (AllBefore_from_All ◌<◌ n v hv.1) k above))
      ]
