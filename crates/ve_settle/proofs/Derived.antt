-- What is derived within a level is closed under multiples.
use Rattle.std.proofs.Common.{ℕ, arith}
use Rattle.ve_theory.specs.Combinations.{scaled}
use Rattle.ve_theory.specs.Elements.{Element}
use Rattle.ve_theory.specs.Presentations.{Presentation}
use Rattle.ve_theory.specs.Derivations.{DerivedWithin}
use Rattle.ve_theory.proofs.Sums.{weigh-append, weigh-scaled}
use Rattle.ve_theory.proofs.DerivedElements.{DerivedWithin-alike, DerivedWithin-combined, SameWeights-equal}

pub DerivedWithin-scaled : (P : Presentation) (k c : ℕ) {u : Element} → DerivedWithin P k u → DerivedWithin P k (scaled c u)
DerivedWithin-scaled P k c {u} one =
    DerivedWithin-alike P k (SameWeights-equal (λ g. simp (weigh-append, weigh-scaled) (omega arith))) (DerivedWithin-combined P k c 0 one one)
