-- Normal and least words, sizes of levels, and the levels at which an enumeration ends.
use Rattle.std.specs.Prelude.{◌≡◌, ℕ, zero, suc, ◌+◌, ◌<◌, ◌≤◌, List, length, All, AllPairs, Contains, sum_by, count_by, nat_eq}
use Rattle.ve_theory.specs.Combinations.{unit, difference}
use Rattle.ve_theory.specs.Words.{Word}
use Rattle.ve_theory.specs.Elements.{Element}
use Rattle.ve_theory.specs.Presentations.{Presentation, reach, before, relator_bound, submodule_bound, IsWord}
use Rattle.ve_theory.specs.Derivations.{Derived, DerivedWithin}

-- a combination of words that are before w
abbrev pub IsEarlier : Presentation → Word → Element → Type 0
IsEarlier P w v = All (λ t. IsWord P t.0 × before P t.0 w) v

-- w has reach at most k, and no combination of earlier words differs from it by what is derived within k
pub record IsNormal (P : Presentation) (k : ℕ) (w : Word) : Type 0 where
  pub word : IsWord P w
  pub within : reach P w ≤ k
  pub irreducible : (v : Element) → IsEarlier P w v → ¬ DerivedWithin P k (difference P.prime (unit w) v)

-- no combination of earlier words differs from w by what is derived
pub record IsLeast (P : Presentation) (w : Word) : Type 0 where
  pub word : IsWord P w
  pub irreducible : (v : Element) → IsEarlier P w v → ¬ Derived P (difference P.prime (unit w) v)

-- ws lists the words that are Q, each once, in rising order
pub record Lists (P : Presentation) (Q : Word → Type 0) (ws : List Word) : Type 0 where
  pub rising : AllPairs (before P) ws
  pub only : All Q ws
  pub every : (w : Word) → Q w → Contains ws w

-- how many letters take a word to reach k
abbrev pub steps_to : Presentation → ℕ → Word → ℕ
steps_to P k w = count_by (λ s. nat_eq (reach P w + s) k) P.weights

-- The size of level 0 is the number of generators. The size of level k + 1 is the number of words normal at k, and of pairs
-- of such a word and a letter that reach k + 1.
unfoldable pub HasSize : Presentation → ℕ → ℕ → Type 0
HasSize P zero n = n ≡ P.generators
HasSize P (suc k) n =
    (ws : List Word) × (Lists P (IsNormal P k) ws) × (n ≡ length ws + sum_by (steps_to P (suc k)) ws)

-- A level closes where every submodule relation was due, every relator was due at every normal word, and every normal word times
-- a letter is within the level: the bound of relators covers the steps of letters too, and is at least 1.
pub record Closes (P : Presentation) (k : ℕ) : Type 0 where
  pub submodule : submodule_bound P ≤ k
  pub relators : (w : Word) → IsNormal P k w → reach P w + relator_bound P ≤ k

-- the least level that closes
pub record IsClosingLevel (P : Presentation) (k : ℕ) : Type 0 where
  pub closes : Closes P k
  pub least : (j : ℕ) → j < k → ¬ Closes P j

-- level k has the size n, which is at most the limit
abbrev pub FitsLimit : Presentation → ℕ → ℕ → Type 0
FitsLimit P limit k = (n : ℕ) × HasSize P k n × (n ≤ limit)

-- level k, of size n, is the first that is larger than the limit, and no level before it closes
pub record IsOutgrown (P : Presentation) (limit k n : ℕ) : Type 0 where
  pub size : HasSize P k n
  pub exceeds : limit < n
  pub open_before : (j : ℕ) → j < k → ¬ Closes P j
  pub fits_before : (j : ℕ) → j < k → FitsLimit P limit j

-- level k is the closing level, and it and each level before it fits the limit
pub record IsFinishedAt (P : Presentation) (limit k : ℕ) : Type 0 where
  pub closing : IsClosingLevel P k
  pub fits : (j : ℕ) → j ≤ k → FitsLimit P limit j
