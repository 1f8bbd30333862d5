use Rattle.std.proofs.Common.{◌≡◌, ◌+◌, ◌^◌, ◌<◌, arith}
use Rattle.ve_value.proofs.GeneratorNames.{same_generator}
use Rattle.ve_value.proofs.names.generator_of.Goals as goal

pub returns-then-number-roots : goal.returns-then-number-roots
returns-then-number-roots c = λ i is.
    let number : c.in_ok-number.number < 1000 = c.in_ok-number.ensures.1 in
    let low : i + 1 < 2 ^ 64 = omega (arith, is.0, c.requires) in
    let same : i + 1 ≡ c.in_ok-number.number = same_generator _ c.in-Some.first.now _ (i + 1) c.in_ok-number.number c.in-Some.ensures.cases.0 is.1 c.in_ok-number.ensures.2 low (omega arith) in
    absurd (omega (arith, is.0))
