use Rattle.std.proofs.Common.{refl, ◌∙◌, sym, ap, Some}
use Rattle.ve_value.proofs.ShapeSteps.{steps}
use Rattle.ve_value.proofs.shape.Shape.invert.Goals as goal

pub returns-in-Number-clause-next : goal.returns-in-Number-clause-next
returns-in-Number-clause-next c = λ r h. steps r _ _ h ∙ rw (c.in-Number.is, c.requires.place) (ap Some (sym c.at.ensures))

pub returns-in-Name-clause-next : goal.returns-in-Name-clause-next
returns-in-Name-clause-next c = λ r h. steps r _ _ h ∙ rw (c.in-Name.is, c.requires.place) refl

pub returns-in-Symbol-clause-next : goal.returns-in-Symbol-clause-next
returns-in-Symbol-clause-next c = λ r h. steps r _ _ h ∙ rw (c.in-Symbol.is, c.requires.place) refl
