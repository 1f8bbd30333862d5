-- Words times letters.
use Rattle.std.proofs.Common.{◌≡◌, ℕ, ◌+◌, ◌<◌, List, length, take, get_or, add-one}
use Rattle.std.proofs.Math.Seq.{take-suc}
use Rattle.ve_theory.specs.Words.{Word, times, letters, times_all}
use Rattle.ve_lemmas.proofs.Words.{times_all-empty, times_all-push}
pub use Rattle.ve_lemmas.proofs.Words.{length-generator as short_generator}

pub times_all-take : (w : Word) (u : List ℕ) (i : ℕ) → i < length u → times_all w (take (i + 1) u) ≡ times (times_all w (take i u)) (get_or u i 0)
times_all-take w u i h = rw (add-one, take-suc u i 0) (times_all-push w (take i u) (get_or u i 0))

pub ruleset word_steps = (times_all-empty, times_all-take)
