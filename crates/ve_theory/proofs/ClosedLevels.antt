-- What is derived within a level is closed under sums, scalings and letters, and relations that are due by it are among it.
use Rattle.std.proofs.Common.{ℕ, ◌<◌, ◌≤◌, [], ◌∷◌, length, All, arith}
use Rattle.std.proofs.lemmas.List.Elements.{All-nil, All-cons}
use Rattle.ve_theory.specs.Words.{Word, times_all, same_word}
use Rattle.ve_theory.specs.Elements.{AlgebraElement, greatest, word_times}
use Rattle.ve_theory.specs.Presentations.{Presentation, IsWord, relators, relator, submodule_relation, reach, element_reach, due}
use Rattle.ve_theory.specs.Derivations.{by_relator, by_submodule, value, IsDerivation, StaysWithin, DerivedWithin}
use Rattle.ve_theory.specs.Laws.{LevelsAreClosed}
use Rattle.ve_theory.proofs.Sums.{SameWeights-refl, weights_from_Alike, Decides-same_word}
use Rattle.ve_theory.proofs.DerivationTrees.{Within-words, Within-reach}
use Rattle.ve_theory.proofs.DerivedElements.{DerivedWithin-alike, DerivedWithin-by, DerivedWithin-combined, DerivedWithin-nothing, DerivedWithin-times}
use Rattle.ve_theory.proofs.RelatorReaches.{reach-times_all}

-- the words of a product that is due by the level
due_words : (P : Presentation) (k : ℕ) (w : Word) (r : AlgebraElement) → due P w r ≤ k → All (λ t. reach P t.0 ≤ k) (word_times w r)
unfolding word_times greatest
due_words P k w [] h = All-nil (λ (t : Word × ℕ). reach P t.0 ≤ k)
due_words P k w (t ∷ r) h =
    All-cons (λ (s : Word × ℕ). reach P s.0 ≤ k) (times_all w t.0, t.1) (word_times w r) (omega (arith, reach-times_all P w t.0)) (due_words P k w r (omega arith))

relator_words : (P : Presentation) (k : ℕ) (w : Word) (number : ℕ) → IsWord P w → number < length (relators P) → due P w (relator P number) ≤ k
    → DerivedWithin P k (word_times w (relator P number))
unfolding value IsDerivation StaysWithin
relator_words P k w number word known is_due =
    DerivedWithin-by P k (by_relator w number) (word_times w (relator P number)) (word, known)
    (Within-words P k (word_times w (relator P number)) (due_words P k w (relator P number) is_due)) (SameWeights-refl P.prime (word_times w (relator P number)))

submodule_relations : (P : Presentation) (k number : ℕ) → number < length P.submodule → element_reach P (submodule_relation P number) ≤ k → DerivedWithin P k (submodule_relation P number)
unfolding value IsDerivation StaysWithin
submodule_relations P k number known within =
    DerivedWithin-by P k (by_submodule number) (submodule_relation P number) known (Within-reach P k (submodule_relation P number) within) (SameWeights-refl P.prime (submodule_relation P number))

pub levels_are_closed : LevelsAreClosed
levels_are_closed P k = record {
  alike = λ u v same h. DerivedWithin-alike P k (weights_from_Alike same_word Decides-same_word P.prime u v same) h;
  empty = DerivedWithin-nothing P k;
  combined = λ c d u v g h. DerivedWithin-combined P k c d g h;
  letters = λ v x is_letter within h. DerivedWithin-times P k x is_letter within h;
  by_relators = relator_words P k;
  by_submodule = submodule_relations P k;
}
