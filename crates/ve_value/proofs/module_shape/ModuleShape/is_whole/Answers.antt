use Rattle.std.proofs.Common.{◌∙◌, ap, Some}
use Rattle.ve_value.proofs.ModuleSteps.{whole_outside, whole_within}
use Rattle.ve_value.proofs.module_shape.ModuleShape.is_whole.Goals as goal

pub returns-in-Wanted : goal.returns-in-Wanted
returns-in-Wanted c = λ r h. whole_outside _ tt r (h ∙ ap Some c.in-Wanted.is)

pub returns-in-Number : goal.returns-in-Number
returns-in-Number c = λ r h. whole_outside _ tt r (h ∙ ap Some c.in-Number.is)

pub returns-in-Scaling : goal.returns-in-Scaling
returns-in-Scaling c = λ r h. whole_outside _ tt r (h ∙ ap Some c.in-Scaling.is)

pub returns-in-Standing : goal.returns-in-Standing
returns-in-Standing c = λ r h. whole_outside _ tt r (h ∙ ap Some c.in-Standing.is)

pub returns-in-Multiplying : goal.returns-in-Multiplying
returns-in-Multiplying c = λ r h. whole_within _ _ c.is_whole.ensures r (h ∙ ap Some c.in-Multiplying.is)
