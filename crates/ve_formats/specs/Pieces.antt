-- Bytes that part a text into pieces.
use Rattle.std.specs.Prelude.{◌≡◌, ℕ, ◌<◌, List, [], ◌∷◌, length, All, IsTrue, nat_eq, not}
use Rattle.std.specs.List.{list_all}
use Rattle.ve_theory.specs.Words.{Word, start, letters}
use Rattle.ve_theory.specs.Validity.{most_generators}

-- no byte is b
abbrev pub Lacks : ℕ → List ℕ → Type 0
Lacks b text = IsTrue (list_all (λ c. not (nat_eq c b)) text)

-- the text is empty, or begins with b
abbrev pub IsCutBy : ℕ → List ℕ → Type 0
IsCutBy b [] = Unit {0}
IsCutBy b (c ∷ text) = c ≡ b

-- the letters of a word have names, and its generator's number can be written
abbrev pub IsWritten : List (List ℕ) → Word → Type 0
IsWritten names w = (start w < most_generators) × All (λ x. x < length names) (letters w)
