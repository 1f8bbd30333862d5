-- The table is made over the value, with the first pass outside.
use Rattle.std.proofs.Common.{List, [], ◌∷◌, refl, sym, ap, ◌∙◌, subst, arith, Option}
use Rattle.atomic_table.specs.Table.{opening}
use Rattle.ve_turn.specs.declared.view.View.TheVariants.{Outside}
use Rattle.ve_turn.specs.Knows.{opening_knowledge}
use Rattle.ve_turn.specs.Rule.{Turning}
use Rattle.ve_turn.proofs.Passes.{opens}
use Rattle.ve_turn.proofs.turnstile.Turnstile.open.Goals as goal

pub new-requires : goal.new-requires
new-requires g c = let j = g.T.Journaled in let seats = c.args.seats in let items = c.in_ok-slots.ensures.filled in let same = c.of.ensures in
    subst (λ (x : List (Option g.row.T.Denot) × g.row.T.Denot). Turning j seats (opening (0 ∷ 0 ∷ []) x.0 (Outside (opening_knowledge j x.1 seats)))) (λ i. (sym items i, sym same i))
    (opens j seats c.args.value c.requires.seats.0 c.requires.seats.1 c.requires.empty.0 c.requires.empty.1)

pub of-requires-in-Ok : goal.of-requires-in-Ok
of-requires-in-Ok g c = let low = c.requires.seats.0 in (opening_knowledge g.T.Journaled c.of.result.value c.args.seats, c.in-Ok.ensures.ok.4, (refl, refl, refl, omega arith), refl)

pub returns-in-Ok-clause-opened : goal.returns-in-Ok-clause-opened
returns-in-Ok-clause-opened g c = let j = g.T.Journaled in let seats = c.args.seats in let made = c.of-in-Ok.ensures (opening_knowledge j c.of.result.value seats) c.in-Ok.ensures.ok.4 in
    (ap (λ p. p.turnstile) made ∙ c.in-Ok.ensures.ok.2, ap (λ p. p.knows) made ∙ ap (λ x. opening_knowledge j x seats) c.of.ensures)
