use Rattle.std.proofs.Common.{◌<◌, refl}
use Rattle.ve_formats.specs.Values.{of_unknown}
use Rattle.ve_value.proofs.Letters.{named_letter}
use Rattle.ve_value.proofs.factor.Factor.named.Goals as goal

pub returns-in_default : goal.returns-in_default
returns-in_default c = of_unknown (rw c.names.ensures at (c.in_default.ensures.absent.0 refl))

pub returns : goal.returns
returns c =
    let large : 1 < c.field.result.now = c.has_prime.ensures.above_one in
    let reduced = rw c.field.ensures.field at (c.in_ok-value.ensures.reduced _ large) in
    named_letter _ _ _ _ (rw c.names.ensures at c.in-Some.ensures.found) c.in_ok-value.ensures.letter reduced
