use Rattle.std.proofs.Common.{◌∙◌, refl, sym, ap, Some}
use Rattle.ve_value.specs.declared.shape.Shape.{Shape}
use Rattle.ve_value.specs.declared.module_shape.ModuleShape.TheVariants.{Multiplying}
use Rattle.ve_value.proofs.ModuleSteps.{steps_outside, next_term, never_behind}
use Rattle.ve_value.proofs.module_shape.behind_term.Goals as goal

pub returns-in-Name-clause-next : goal.returns-in-Name-clause-next
returns-in-Name-clause-next c = λ r h. steps_outside _ _ tt r h ∙ rw c.in-Name.is refl

pub returns-in-Number-clause-next : goal.returns-in-Number-clause-next
returns-in-Number-clause-next c = λ r h. steps_outside _ _ tt r h ∙ rw c.in-Number.is refl

pub returns-in-Times-clause-next : goal.returns-in-Times-clause-next
returns-in-Times-clause-next c = λ r h. steps_outside _ _ tt r h ∙ rw (c.in-Symbol.is, c.sign_of.ensures, c.in-Times.is) (ap (λ (s : Shape). Some (Multiplying s)) (sym c.factor.ensures))

pub returns-in-Plus-clause-next : goal.returns-in-Plus-clause-next
returns-in-Plus-clause-next c = λ r h. steps_outside _ _ tt r h ∙ rw (c.in-Symbol.is, c.sign_of.ensures) (next_term _ c.in-Plus.is)

pub returns-in-Power : goal.returns-in-Power
returns-in-Power c = record { next = λ r h. steps_outside _ _ tt r h ∙ rw (c.in-Symbol.is, c.sign_of.ensures) (never_behind _ c.in-Power.is); depth = tt }
