-- The names of letters, numbered by their places.
use Rattle.std.specs.Prelude.{◌≢◌, ℕ, ◌≤◌, List, length, All, AllPairs, IsTrue, IsFalse}
use Rattle.ve_theory.specs.Validity.{is_name, is_rooted, most_letters}

-- names that letters can have side by side: few enough, none as generators are written, and different
pub record AreLetterNames (names : List (List ℕ)) : Type 0 where
  pub few : length names ≤ most_letters
  pub formed : All (λ name. IsTrue (is_name name) × IsFalse (is_rooted name)) names
  pub distinct : AllPairs ◌≢◌ names
