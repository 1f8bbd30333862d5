-- Runs of bytes at the front of a text.
use Rattle.std.specs.Prelude.{◌≡◌, ℕ, Bool, List, ◌++◌, IsTrue}
use Rattle.std.specs.List.{list_all}
use Rattle.ve_formats.specs.Tokens.{StartsWithout}

-- the longest run of such bytes at the front of a text, and the rest
pub record IsRun (belongs : ℕ → Bool) (text run rest : List ℕ) : Type 0 where
  pub split : text ≡ run ++ rest
  pub all : IsTrue (list_all belongs run)
  pub end : StartsWithout belongs rest
