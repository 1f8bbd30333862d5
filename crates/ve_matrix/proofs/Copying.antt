-- The rows of a table, as matrices.
use Rattle.std.proofs.Common.{◌≡◌, ℕ, ◌<◌, ◌^◌, ◌∙◌, [], ◌∷◌, ◌++◌, append_assoc, inl, inr, Some, List, length, map, get_or, All, slice_index_or, sym, ap, subst, Vec, Global, arith}
use Rattle.std.specs.Prelude.{slice_get}
use Rattle.std.specs.Option.{option_map}
use Rattle.std.proofs.lemmas.List.{length-map, append-nil}
use Rattle.std.proofs.lemmas.Option.{slice_get-get_or, slice_get-map, slice_get_cases, slice_get_within}
use Rattle.ve_theory.specs.Answers.{Row, IsRow}
use Rattle.ve_table.specs.declared.parts.Parts.{Parts}
use Rattle.ve_table.specs.Tables.{ActionTable, presented}
use Rattle.ve_table.specs.Sound.{IsSound}
use Rattle.ve_table.specs.Parts.{AreRowsAt, ArePartsOf}
use Rattle.ve_table.proofs.Entries.{same_some}
use Rattle.ve_matrix.specs.Copying.{AreMatricesOf}
use Rattle.ve_matrix.specs.Matrices.{HasColumnsBelow}

pub copied_rows : (T : ActionTable) (x : ℕ) (rows : List Row) → IsSound T → AreRowsAt T x rows → All (IsRow (presented T).prime (length T.words)) rows
copied_rows T x rows sound are = λ b d within. (sound.rows b x (slice_index_or rows b d) (are.each b (slice_index_or rows b d) (slice_get-get_or rows b d within))).stands.row

pub copied_columns : (T : ActionTable) (x : ℕ) (rows : List Row) → IsSound T → AreRowsAt T x rows → HasColumnsBelow (length rows) rows
copied_columns T x rows sound are =
    subst (λ n. HasColumnsBelow n rows) (sym are.count) (λ b d within. (copied_rows T x rows sound are b d within).1)

-- the rows of a table that was taken apart, as matrices
module _ (T : ActionTable) (parts : Parts) (are : ArePartsOf T parts) where
  taken : (x : ℕ) (d : Vec Row Global) → x < length parts.rows.items → AreRowsAt T x (get_or parts.rows.items x d).items
  taken x d within = are.rows x (get_or parts.rows.items x d) (slice_get-get_or parts.rows.items x d within)

  pub taken_count : All (λ (list : Vec Row Global). length list.items < 2 ^ 32) parts.rows.items
  taken_count x d within = subst (λ n. n < 2 ^ 32) (sym (taken x d within).count) are.few

  pub taken_columns : IsSound T → All (λ (list : Vec Row Global). HasColumnsBelow (length list.items) list.items) parts.rows.items
  taken_columns sound x d within = copied_columns T x (get_or parts.rows.items x d).items sound (taken x d within)

  pub taken_matrices : (matrices : List (List Row)) → matrices ≡ map (λ (list : Vec Row Global). list.items) parts.rows.items → AreMatricesOf T matrices
  taken_matrices matrices matrices_are = record {
    count = ap length matrices_are ∙ length-map parts.rows.items (λ (list : Vec Row Global). list.items) ∙ are.letters;
    each = each;
  }
    where
      each : (x : ℕ) (matrix : List Row) → slice_get matrices x ≡ Some matrix → AreRowsAt T x matrix
      each x matrix found = elim (slice_get_cases parts.rows.items x).1 [
        | inl (list, within, at, value) ↦
            let same : list.items ≡ matrix = same_some list.items matrix (sym (ap (option_map (λ (list : Vec Row Global). list.items)) at) ∙ sym (slice_get-map (λ (list : Vec Row Global). list.items) parts.rows.items x) ∙ sym (ap (λ l. slice_get l x) matrices_are) ∙ found) in
            subst (AreRowsAt T x) same (are.rows x list at)
        | inr (past, none) ↦
            absurd (omega (arith, past, ap length matrices_are, length-map parts.rows.items (λ (list : Vec Row Global). list.items), slice_get_within matrices x matrix found))
      ]

-- matrices of rows that are left

pub one_moved : (all left rest : List (Vec Row Global)) (list : Vec Row Global) (done more : List (List Row)) → left ≡ list ∷ rest → more ≡ done ++ list.items ∷ []
    → done ++ map (λ (list : Vec Row Global). list.items) left ≡ map (λ (list : Vec Row Global). list.items) all
    → more ++ map (λ (list : Vec Row Global). list.items) rest ≡ map (λ (list : Vec Row Global). list.items) all
one_moved all left rest list done more left_is more_is moved =
    ap (λ m. m ++ map (λ (list : Vec Row Global). list.items) rest) more_is
    ∙ append_assoc done (list.items ∷ []) (map (λ (list : Vec Row Global). list.items) rest)
    ∙ sym (ap (λ l. done ++ map (λ (list : Vec Row Global). list.items) l) left_is)
    ∙ moved

pub all_moved : (all left : List (Vec Row Global)) (done : List (List Row)) → length left ≡ 0
    → done ++ map (λ (list : Vec Row Global). list.items) left ≡ map (λ (list : Vec Row Global). list.items) all → done ≡ map (λ (list : Vec Row Global). list.items) all
all_moved all [] done none moved = sym (append-nil done) ∙ moved
all_moved all (list ∷ left) done none moved = absurd (omega (arith, none))
