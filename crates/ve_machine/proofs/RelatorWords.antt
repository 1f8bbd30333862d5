-- The words of a word times a relator.
use Rattle.std.proofs.Common.{ℕ, ◌<◌, ◌≤◌, length, arith}
use Rattle.std.specs.Prelude.{slice_index_or}
use Rattle.ve_theory.specs.Words.{Word, letters_weight}
use Rattle.ve_theory.specs.Elements.{word_times}
use Rattle.ve_theory.specs.Presentations.{Presentation, IsPresentation, IsWord, relators, relator, reach, relator_reach, due}
use Rattle.ve_theory.specs.Laws.{IsElementUpTo}
use Rattle.ve_theory.proofs.DerivationTrees.{All-greatest}
use Rattle.ve_theory.proofs.RelatorReaches.{reach-times_all}
use Rattle.ve_theory.proofs.InverseLetters.{IsWord-times_all}
use Rattle.ve_lemmas.proofs.Products.{All-word_times}
use Rattle.ve_machine.proofs.RelatorLetters.{relator_letters}

pub relator_upto : (P : Presentation) → IsPresentation P → (w : Word) (number : ℕ) → IsWord P w → number < length (relators P)
    → IsElementUpTo P (due P w (relator P number)) (word_times w (relator P number))
relator_upto P V w number good within =
    All-word_times (λ v. IsWord P v × (reach P v ≤ due P w (relator P number))) w (relator P number)
    (λ k t l.
    let u = (slice_index_or (relator P number) k t).0 in (
      IsWord-times_all P w u good (relator_letters P V number within k t l),
      omega (arith, reach-times_all P w u, All-greatest (letters_weight P.weights) (relator P number) (relator_reach P (relator P number)) (omega arith) k t l),
    ))
