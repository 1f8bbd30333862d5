use Rattle.std.proofs.Common.{Bool, nat_eq}
use Rattle.ve_theory.specs.Words.{same_letters, same_word}
use Rattle.ve_theory.specs.Laws.{AddsCoefficients}
use Rattle.ve_theory.proofs.elements.sums_add_coefficients.Goals as goal
use Rattle.ve_theory.proofs.Sums.{coefficient-append, coefficient-scaled}

adds_coefficients : {K : Type 0} (same : K → K → Bool) → AddsCoefficients same
adds_coefficients same = record { sums = coefficient-append same; scalings = coefficient-scaled same }

pub returns : goal.returns
returns c = record { elements = adds_coefficients same_word; algebra = adds_coefficients same_letters; rows = adds_coefficients nat_eq }
