use Rattle.std.proofs.Common.{◌∙◌, refl}
use Rattle.ve_value.proofs.ModuleSteps.{steps_outside, term_of_zero, no_term, never_numbered}
use Rattle.ve_value.proofs.module_shape.behind_number.Goals as goal

pub returns-in-Name-clause-next : goal.returns-in-Name-clause-next
returns-in-Name-clause-next c = λ r h. steps_outside _ _ tt r h ∙ rw c.in-Name.is refl

pub returns-in-Number-clause-next : goal.returns-in-Number-clause-next
returns-in-Number-clause-next c = λ r h. steps_outside _ _ tt r h ∙ rw c.in-Number.is refl

pub returns-in-Times-clause-next : goal.returns-in-Times-clause-next
returns-in-Times-clause-next c = λ r h. steps_outside _ _ tt r h ∙ rw (c.in-Symbol.is, c.sign_of.ensures, c.in-Times.is) refl

pub returns-then-not-is_zero-clause-next : goal.returns-then-not-is_zero-clause-next
returns-then-not-is_zero-clause-next c = λ r h. steps_outside _ _ tt r h ∙ rw (c.in-Symbol.is, c.sign_of.ensures, c.if-not-is_zero.true) (no_term _ c.in-Plus.is)

pub returns-else-not-is_zero-clause-next : goal.returns-else-not-is_zero-clause-next
returns-else-not-is_zero-clause-next c = λ r h. steps_outside _ _ tt r h ∙ rw (c.in-Symbol.is, c.sign_of.ensures, c.if-not-is_zero.false) (term_of_zero _ c.in-Plus.is)

pub returns-in-Power : goal.returns-in-Power
returns-in-Power c = record { next = λ r h. steps_outside _ _ tt r h ∙ rw (c.in-Symbol.is, c.sign_of.ensures) (never_numbered _ _ c.in-Power.is); depth = tt }
