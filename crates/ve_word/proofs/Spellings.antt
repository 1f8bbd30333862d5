-- A word that is spelled out, as a generator times a list of letters.
use Rattle.std.proofs.Common.{◌≡◌, ℕ, List}
use Rattle.ve_theory.specs.Words.{generator, times, start, letters, times_all}
use Rattle.ve_lemmas.proofs.Words.{start-times_all, letters-times_all, times_all-push, times_all-empty}

-- the same from a generator
pub start-spelled : (i : ℕ) (u : List ℕ) → start (times_all (generator i) u) ≡ i
unfolding start
start-spelled i u = start-times_all (generator i) u

pub letters-spelled : (i : ℕ) (u : List ℕ) → letters (times_all (generator i) u) ≡ u
unfolding letters
letters-spelled i u = letters-times_all (generator i) u

pub ruleset spellings = (start-spelled, letters-spelled, times_all-push, times_all-empty)
