use Rattle.std.proofs.Common.{refl, ◌∙◌, sym, ap, Some}
use Rattle.ve_value.proofs.ShapeSteps.{steps, sign_wanted, sign_unwanted, never_wanted}
use Rattle.ve_value.proofs.shape.Shape.begin.Goals as goal

pub returns-in-Open-clause-next : goal.returns-in-Open-clause-next
returns-in-Open-clause-next c = λ r h. steps r _ _ h ∙ rw (c.in-Symbol.is, c.requires.place, c.sign_of.ensures, c.in-Open.is) refl

pub returns-in-Times-clause-next : goal.returns-in-Times-clause-next
returns-in-Times-clause-next c = λ r h. steps r _ _ h ∙ rw (c.in-Symbol.is, c.requires.place, c.sign_of.ensures) (never_wanted _ _ _ c.in-Times.is)

pub returns-then-not-signed-clause-next : goal.returns-then-not-signed-clause-next
returns-then-not-signed-clause-next c = λ r h. steps r _ _ h ∙ rw (c.in-Symbol.is, c.requires.place, c.sign_of.ensures, c.if-not-signed.true) (sign_unwanted _ _ c.in-Plus.is)

pub returns-else-not-signed-clause-next : goal.returns-else-not-signed-clause-next
returns-else-not-signed-clause-next c = λ r h. steps r _ _ h ∙ rw (c.in-Symbol.is, c.requires.place, c.sign_of.ensures, c.if-not-signed.false) (sign_wanted _ _ _ c.in-Plus.is c.at-in-Plus.ensures)

pub returns-in-Name-clause-next : goal.returns-in-Name-clause-next
returns-in-Name-clause-next c = λ r h. steps r _ _ h ∙ rw (c.in-Name.is, c.requires.place) (ap Some (sym c.at.ensures))

pub returns-in-Number-clause-next : goal.returns-in-Number-clause-next
returns-in-Number-clause-next c = λ r h. steps r _ _ h ∙ rw (c.in-Number.is, c.requires.place) (ap Some (sym c.at-in-Number.ensures))
