-- Words that are spelled from their last letter.
use Rattle.std.specs.Prelude.{ℕ, List, [], ◌∷◌}
use Rattle.ve_theory.specs.Words.{Word, times}

-- a word times letters, of which the last one comes first
unfoldable pub behind : Word → List ℕ → Word
behind w [] = w
behind w (x ∷ u) = times (behind w u) x
