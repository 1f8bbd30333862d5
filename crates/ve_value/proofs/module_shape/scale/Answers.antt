use Rattle.std.proofs.Common.{◌∙◌, refl}
use Rattle.ve_value.proofs.ModuleSteps.{steps_outside}
use Rattle.ve_value.proofs.module_shape.scale.Goals as goal

pub returns-in-Name-clause-next : goal.returns-in-Name-clause-next
returns-in-Name-clause-next c = λ r h. steps_outside _ _ tt r h ∙ rw c.in-Name.is refl

pub returns-in-Number-clause-next : goal.returns-in-Number-clause-next
returns-in-Number-clause-next c = λ r h. steps_outside _ _ tt r h ∙ rw c.in-Number.is refl

pub returns-in-Symbol-clause-next : goal.returns-in-Symbol-clause-next
returns-in-Symbol-clause-next c = λ r h. steps_outside _ _ tt r h ∙ rw c.in-Symbol.is refl
