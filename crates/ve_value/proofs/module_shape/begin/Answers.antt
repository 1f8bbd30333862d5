use Rattle.std.proofs.Common.{◌∙◌, refl, sym, ap, Some}
use Rattle.ve_value.specs.declared.module_shape.ModuleShape.TheVariants.{Number}
use Rattle.ve_value.proofs.ModuleSteps.{zero_digits, steps_outside, first_term, no_first_term, never_before}
use Rattle.ve_value.proofs.module_shape.begin.Goals as goal

pub returns-in-Name-clause-next : goal.returns-in-Name-clause-next
returns-in-Name-clause-next c = λ r h. steps_outside _ _ tt r h ∙ rw c.in-Name.is refl

pub returns-in-Number-clause-next : goal.returns-in-Number-clause-next
returns-in-Number-clause-next c = λ r h. steps_outside _ _ tt r h ∙ rw c.in-Number.is (ap (λ b. Some (Number b)) (sym (c.is_zero-is_zero.ensures ∙ zero_digits _)))

pub returns-then-not-signed-clause-next : goal.returns-then-not-signed-clause-next
returns-then-not-signed-clause-next c = λ r h. steps_outside _ _ tt r h ∙ rw (c.in-Symbol.is, c.sign_of.ensures, c.if-not-signed.true) (no_first_term _ c.in-Plus.is)

pub returns-else-not-signed-clause-next : goal.returns-else-not-signed-clause-next
returns-else-not-signed-clause-next c = λ r h. steps_outside _ _ tt r h ∙ rw (c.in-Symbol.is, c.sign_of.ensures, c.if-not-signed.false) (first_term _ c.in-Plus.is)

pub returns-in-Times : goal.returns-in-Times
returns-in-Times c = record { next = λ r h. steps_outside _ _ tt r h ∙ rw (c.in-Symbol.is, c.sign_of.ensures) (never_before _ _ c.in-Times.is); depth = tt }
