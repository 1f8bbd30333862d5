-- The slot has the value, of which the last pass knows all.
use Rattle.std.proofs.Common.{◌≡◌, ◌+◌, refl, sym, ap, ◌∙◌, subst}
use Rattle.std.specs.Option.{IsSome}
use Rattle.ve_turn.proofs.Standing.{outside}
use Rattle.ve_turn.proofs.Turns.{value_or}
use Rattle.ve_turn.proofs.Passes.{IsLast, last_slot}
use Rattle.ve_turn.proofs.turnstile.Turnstile.close.Goals as goal

pub filled-requires : goal.filled-requires
filled-requires g c = let p = c.pass.inside in let k = p.outside.0 in
    let last = last_slot g.T.Journaled c.self.inside.table.shared.key.seats p.token.id p.token.me.0 k _ _ c.take-slot.result (ap (λ m. m.0) (outside p.token k p.outside.1))
    (subst (λ x. x.knows.left + 1 ≡ x.knows.seats) (sym c.pass.view_is) c.requires.all) c.close_with-closed.ensures.values.2 c.take-slot.ensures.value in
    subst IsSome (sym last.1) refl

pub returns : goal.returns
returns g c = let p = c.pass.inside in let k = p.outside.0 in let j = g.T.Journaled in
    let last = last_slot j c.self.inside.table.shared.key.seats p.token.id p.token.me.0 k _ _ c.take-slot.result (ap (λ m. m.0) (outside p.token k p.outside.1))
    (subst (λ x. x.knows.left + 1 ≡ x.knows.seats) (sym c.pass.view_is) c.requires.all) c.close_with-closed.ensures.values.2 c.take-slot.ensures.value in
    let value : last.0 ≡ c.filled.result = ap (value_or last.0) (sym last.1 ∙ c.filled.ensures) in
    let is : IsLast j c.self.inside.table.shared.key.seats c.filled.result c.args.pass.knows =
    subst (λ k. IsLast j c.self.inside.table.shared.key.seats c.filled.result k) (ap (λ v. v.knows) c.pass.view_is) (subst (λ x. IsLast j c.self.inside.table.shared.key.seats x k) value last.2) in
    record { opening = is.opening_is; seen = is.begins; entries = is.entries_are; desks = is.desks_are }
