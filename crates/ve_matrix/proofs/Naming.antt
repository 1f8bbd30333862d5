-- Disorders name the first failure, counted from 1.
use Rattle.std.proofs.Common.{◌≡◌, ℕ, ◌+◌, sym, subst, add-one, arith}
use Rattle.std.specs.Prelude.{AllPairs}
use Rattle.ve_theory.specs.Presentations.{Presentation, before}
use Rattle.ve_theory.specs.Answers.{Action}
use Rattle.ve_matrix.specs.declared.disorder.Disorder.TheVariants.{Rising, Above}
use Rattle.ve_matrix.specs.Disorders.{FallsFirst, ImageFailsFirst, ImagesAreOrderedBelow, IsDisorder, IsFirstRowAbove, RowFailsFirst}

pub fall_named : (P : Presentation) (A : Action) (place : ℕ) → FallsFirst P A place → IsDisorder P A (Rising (place + 1))
unfolding IsDisorder
fall_named P A place first = (omega arith, subst (FallsFirst P A) (omega arith) first)

pub image_named : (P : Presentation) (A : Action) (i n : ℕ) → n ≡ i → ImageFailsFirst P A i → IsDisorder P A (Above 0 (n + 1))
unfolding IsDisorder
image_named P A i n same first = (omega arith, subst (ImageFailsFirst P A) (omega arith) first)

pub row_named : (P : Presentation) (A : Action) (x n j : ℕ) → n ≡ x → AllPairs (before P) A.basis → ImagesAreOrderedBelow P A P.generators → IsFirstRowAbove P A x j
    → IsDisorder P A (Above (n + 1) (j + 1))
unfolding IsDisorder
row_named P A x n j same rising images first =
    subst (λ letter. IsDisorder P A (Above letter (j + 1))) (sym (add-one n))
    (omega arith, subst (RowFailsFirst P A n) (omega arith) (record { rising = rising; images = images; first = subst (λ y. IsFirstRowAbove P A y j) (sym same) first }))
