-- What contracts say of matrices.
use Rattle.std.specs.Prelude.{◌≡◌, ℕ, ◌<◌, ◌^◌, List, [], length, All, map, nat_eq, slice_index_or}
use Rattle.std.specs.List.{range_with_len}
use Rattle.ve_theory.specs.Combinations.{unit, extended, IsReduced, IsReducedOf}
use Rattle.ve_theory.specs.Answers.{Row}

-- each row's places are below n
abbrev pub HasColumnsBelow : ℕ → List Row → Type 0
HasColumnsBelow n rows = All (λ row. All (λ t. t.0 < n) row) rows

-- there are fewer than 2^32 rows, and as many columns
pub record IsSquare (rows : List Row) : Type 0 where
  pub count : length rows < 2 ^ 32
  pub columns : HasColumnsBelow (length rows) rows

-- each row has residues modulo p other than 0 as coefficients
abbrev pub HasResidues : ℕ → List Row → Type 0
HasResidues p rows = All (IsReduced ◌<◌ p) rows

-- the row of a place
abbrev pub matrix_row_at : List Row → ℕ → Row
matrix_row_at rows j = slice_index_or rows j []

-- a row vector times a matrix: the sum over its places of the coefficient times the matrix's row
abbrev pub row_times_matrix : Row → List Row → Row
row_times_matrix row matrix = extended (matrix_row_at matrix) row

-- the matrix with 1 on the diagonal and 0 elsewhere
abbrev pub identity_matrix : ℕ → List Row
identity_matrix size = map unit (range_with_len 0 size)

-- the product of two matrices: each row of the left one times the right one
pub record IsProduct (p : ℕ) (left right product : List Row) : Type 0 where
  pub size : length product ≡ length left
  pub rows : (i : ℕ) → i < length left → IsReducedOf ◌<◌ nat_eq p (matrix_row_at product i) (row_times_matrix (matrix_row_at left i) right)
