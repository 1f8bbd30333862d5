-- What the wait tells, carried over to the turn and the pass that was given.
use Rattle.std.proofs.Common.{◌≡◌, sym, ap, ◌∙◌, subst}
use Rattle.ve_turn.specs.Steps.{Meets}
use Rattle.ve_turn.proofs.Standing.{outside}
use Rattle.ve_turn.proofs.turnstile.Turnstile.enter.Goals as goal

pub draw-ticket-requires-clause-outside : goal.draw-ticket-requires-clause-outside
draw-ticket-requires-clause-outside g c = let o = c.pass.inside.outside in (o.0, outside c.pass.inside.token o.0 o.1)

pub wait-requires-clause-waits : goal.wait-requires-clause-waits
wait-requires-clause-waits g c = let o = c.pass.inside.outside in (o.0, c.draw-ticket.ensures.waits o.0 (outside c.pass.inside.token o.0 o.1))

pub lift-value-requires-clause-inside : goal.lift-value-requires-clause-inside
lift-value-requires-clause-inside g c = let o = c.pass.inside.outside in let met = c.wait.ensures.inside o.0 (c.draw-ticket.ensures.waits o.0 (outside c.pass.inside.token o.0 o.1)) in (o.0, met.0, met.1)

pub of-requires : goal.of-requires
of-requires g c = let o = c.pass.inside.outside in let met = c.wait.ensures.inside o.0 (c.draw-ticket.ensures.waits o.0 (outside c.pass.inside.token o.0 o.1)) in
    (o.0, met.0, (c.lift-value.ensures.lifted o.0 met.0 met.1).0, c.pass.invariant.0)

pub returns : goal.returns
returns g c =
    let o = c.pass.inside.outside in let token = c.pass.inside.token in let met = c.wait.ensures.inside o.0 (c.draw-ticket.ensures.waits o.0 (outside token o.0 o.1)) in
    let lifted = c.lift-value.ensures.lifted o.0 met.0 met.1 in let made = c.of.ensures o.0 met.0 lifted.0 in
    let same : c.lift-value.new.token.table_id ≡ token.table_id = c.lift-value.ensures.table ∙ (c.wait.ensures.table ∙ c.draw-ticket.ensures.table) in
    let pass : c.of.result.pass ≡ c.args.pass = ap (λ t. t.pass) made ∙ ((λ i. record { turnstile = same i; knows = o.0 }) ∙ c.pass.view_is) in
    let found : Meets g.T.Journaled c.of.result.met c.args.pass.knows =
    subst (λ x. Meets g.T.Journaled x c.args.pass.knows) (sym (ap (λ t. t.met) made)) (subst (λ k. Meets g.T.Journaled met.0 k) (ap (λ p. p.knows) c.pass.view_is) met.2) in
    record { pass = pass; value = ap (λ t. t.value) made ∙ (lifted.1 ∙ sym (ap (λ t. t.met) made)); opening = found.0; seen = found.1; entries = found.2; desks = found.3 }
