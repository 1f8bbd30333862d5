-- Relators have letters of the presentation alone.
use Rattle.std.proofs.Common.{ℕ, ◌<◌, [], Some, length, All, arith}
use Rattle.std.proofs.lemmas.Option.{slice_get_within}
use Rattle.std.proofs.lemmas.List.Elements.{All-append, All-get_or}
use Rattle.ve_theory.specs.Elements.{AlgebraElement}
use Rattle.ve_theory.specs.Presentations.{Presentation, IsPresentation, HasLetters, letter_count, inverse_relators, relators, relator}
use Rattle.ve_lemmas.proofs.Relators.{inverse_relators_letters}

pub relator_letters : (P : Presentation) → IsPresentation P → (number : ℕ) → number < length (relators P) → All (λ t. HasLetters P t.0) (relator P number)
relator_letters P V number within =
    All-get_or (λ (r : AlgebraElement). All (λ t. HasLetters P t.0) r) (relators P) number [] within
    (All-append (λ (r : AlgebraElement). All (λ t. HasLetters P t.0) r) (inverse_relators P.prime 0 P.inverses) P.relations
    (inverse_relators_letters P.prime (letter_count P) 0 P.inverses (omega (arith, V.one_inverse_each))
    (λ x y e. omega (arith, slice_get_within P.inverses y (Some x) (V.inverses x y e), V.one_inverse_each)))
    (λ k d l. (V.relations k d l).1))
