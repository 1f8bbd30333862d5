use Rattle.std.proofs.Common.{refl, ◌∙◌, sym, ap, Some}
use Rattle.ve_value.proofs.ShapeSteps.{steps, never_raises}
use Rattle.ve_value.proofs.shape.Shape.raise.Goals as goal

pub returns-in-Name-clause-next : goal.returns-in-Name-clause-next
returns-in-Name-clause-next c = λ r h. steps r _ _ h ∙ rw (c.in-Name.is, c.requires.place) refl

pub returns-in-Number-clause-next : goal.returns-in-Number-clause-next
returns-in-Number-clause-next c = λ r h. steps r _ _ h ∙ rw (c.in-Number.is, c.requires.place) (ap Some (sym c.at.ensures))

pub returns-in-Minus-clause-next : goal.returns-in-Minus-clause-next
returns-in-Minus-clause-next c = λ r h. steps r _ _ h ∙ rw (c.in-Symbol.is, c.requires.place, c.sign_of.ensures, c.in-Minus.is) (ap Some (sym c.at-in-Minus.ensures))

pub returns-in-Plus : goal.returns-in-Plus
returns-in-Plus c = record { next = λ r h. steps r _ _ h ∙ rw (c.in-Symbol.is, c.requires.place, c.sign_of.ensures) (never_raises _ _ c.in-Plus.is); depth = tt }
