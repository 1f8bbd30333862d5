use Rattle.std.proofs.Common.{◌<◌, refl, ◌∙◌, sym, ap, Some, arith}
use Rattle.ve_value.proofs.ShapeSteps.{steps, joins, never_joins, closes}
use Rattle.ve_value.proofs.shape.Shape.go_on.Goals as goal

pub returns-then-not-raisable-clause-next : goal.returns-then-not-raisable-clause-next
returns-then-not-raisable-clause-next c = λ r h. steps r _ _ h ∙ rw (c.in-Symbol.is, c.requires.place, c.sign_of.ensures, c.in-Power.is, c.if-not-raisable.true) refl

pub returns-else-not-raisable-clause-next : goal.returns-else-not-raisable-clause-next
returns-else-not-raisable-clause-next c = λ r h. steps r _ _ h ∙ rw (c.in-Symbol.is, c.requires.place, c.sign_of.ensures, c.in-Power.is, c.if-not-raisable.false) (ap Some (sym c.at.ensures))

pub returns-in-Times-clause-next : goal.returns-in-Times-clause-next
returns-in-Times-clause-next c = λ r h. steps r _ _ h ∙ rw (c.in-Symbol.is, c.requires.place, c.sign_of.ensures) (joins _ _ _ _ c.in-Times.is c.at-in-Times.ensures)

pub returns-then-self-eq0-clause-next : goal.returns-then-self-eq0-clause-next
returns-then-self-eq0-clause-next c = λ r h. steps r _ _ h ∙ rw (c.in-Symbol.is, c.requires.place, c.sign_of.ensures, c.in-Close.is, c.if-self-eq0.true) refl

pub returns-else-self-eq0-clause-next : goal.returns-else-self-eq0-clause-next
returns-else-self-eq0-clause-next c = λ r h. let some : 0 < c.args.self.depth = omega arith in steps r _ _ h ∙ rw (c.in-Symbol.is, c.requires.place, c.sign_of.ensures, c.in-Close.is) (closes _ some)

pub returns-in-Open-clause-next : goal.returns-in-Open-clause-next
returns-in-Open-clause-next c = λ r h. steps r _ _ h ∙ rw (c.in-Symbol.is, c.requires.place, c.sign_of.ensures) (never_joins _ _ _ c.in-Open.is)

pub returns-in-Name-clause-next : goal.returns-in-Name-clause-next
returns-in-Name-clause-next c = λ r h. steps r _ _ h ∙ rw (c.in-Name.is, c.requires.place) refl

pub returns-in-Number-clause-next : goal.returns-in-Number-clause-next
returns-in-Number-clause-next c = λ r h. steps r _ _ h ∙ rw (c.in-Number.is, c.requires.place) refl
