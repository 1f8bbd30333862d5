use Rattle.std.proofs.Common.{refl, subst, ap, ◌∙◌}
use Rattle.ve_turn.specs.declared.view.Knowledge.{Knowledge}
use Rattle.ve_turn.specs.Numbered.{IsNumbered}
use Rattle.ve_turn.specs.Views.{TurnView}
use Rattle.ve_turn.proofs.Standing.{same_inside, lent_value}
use Rattle.ve_turn.proofs.turn.Turn.value_mut.Goals as goal

pub invariant_of-self-lent : goal.invariant_of-self-lent
invariant_of-self-lent g c = λ w. subst (λ known. IsNumbered c.self.inside.numbers known.1) (same_inside c.self.inside.token c.self.inside.inside (c.self-1.given w).0) c.self.invariant

pub returns : goal.returns
returns g c = (
  (refl, λ w. lent_value c.self.inside.token (c.self-1.given w).0 c.self.inside.inside w ∙ ap (λ (t : TurnView g.row.T.Denot (Knowledge g.row.T.Denot g.row.T-Opening.Denot g.row.T-Entry.Denot g.row.T-Desk.Denot)). record t { value = w }) c.self.view_is),
  record { lends = tt; value = ap (λ t. t.value) c.self.view_is },
)
