-- Rows in one list, by id and then letter, and in a list for each letter.
use Rattle.std.specs.Prelude.{◌≡◌, ℕ, ◌+◌, ◌*◌, ◌<◌, ◌≤◌, List, [], Some, Vec, length, slice_get, slice_index_or}
use Rattle.std.specs.Global.{Global}
use Rattle.ve_theory.specs.Answers.{Row}

-- the rows of the first ids at a letter, in order
pub record AreRowsOfLetter (letters ids x : ℕ) (rows : List Row) (list : List Row) : Type 0 where
  pub count : length list ≡ ids
  pub each : (b : ℕ) (v : Row) → slice_get list b ≡ Some v → slice_index_or rows (b * letters + x) [] ≡ v

-- these for each letter, and for the letters below `letter` of one id more
pub record AreDealt (letters ids letter : ℕ) (rows : List Row) (lists : List (Vec Row Global)) : Type 0 where
  pub count : length lists ≡ letters
  pub below : (x : ℕ) (list : Vec Row Global) → slice_get lists x ≡ Some list → x < letter → AreRowsOfLetter letters (ids + 1) x rows list.items
  pub rest : (x : ℕ) (list : Vec Row Global) → slice_get lists x ≡ Some list → letter ≤ x → AreRowsOfLetter letters ids x rows list.items
