-- Words times letters, how words are spelled, and equal words.
use Rattle.std.proofs.Common.{◌≡◌, ℕ, true, List, [], ◌∷◌, ◌++◌, refl}
use Rattle.ve_theory.specs.Words.{Word, generator, times, start, letters, times_all, same_letters, word_length}
use Rattle.ve_theory.proofs.Sums.{Decides-same_letters}
pub use Rattle.ve_theory.proofs.Sums.{Decides-nat_eq, Decides-same_letters, Decides-same_word}
pub use Rattle.ve_theory.proofs.Orders.{same_words}
pub use Rattle.ve_theory.proofs.Members.{IsWord-times}
pub use Rattle.ve_theory.proofs.RelatorReaches.{letters-times_all}

pub length-generator : (i : ℕ) → word_length (generator i) ≡ 0
unfolding letters
length-generator i = refl

pub start-times_all : (w : Word) (u : List ℕ) → start (times_all w u) ≡ start w
unfolding times_all start
start-times_all w [] = refl
start-times_all w (x ∷ u) = start-times_all (times w x) u

pub times_all-empty : (w : Word) → times_all w [] ≡ w
unfolding times_all
times_all-empty w = refl

-- one letter more
pub times_all-push : (w : Word) (u : List ℕ) (x : ℕ) → times_all w (u ++ x ∷ []) ≡ times (times_all w u) x
unfolding times_all
times_all-push w [] x = refl
times_all-push w (y ∷ u) x = times_all-push (times w y) u x

pub same_letters-true : (u v : List ℕ) → same_letters u v ≡ true → u ≡ v
same_letters-true u v h = (Decides-same_letters u v).0 h
