-- The seat stands outside again, and knows what it laid back.
use Rattle.std.proofs.Common.{◌≡◌, sym, ap, ◌∙◌, subst}
use Rattle.ve_turn.specs.Knows.{after_turn}
use Rattle.ve_turn.proofs.Standing.{inside}
use Rattle.ve_turn.proofs.turnstile.Turnstile.leave.Goals as goal

pub lay_back-requires-clause-inside : goal.lay_back-requires-clause-inside
lay_back-requires-clause-inside g c = let i = c.turn.inside.inside in (i.0.1, i.0.0, inside c.turn.inside.token i.0 i.1)

pub move_on-requires-clause-moves : goal.move_on-requires-clause-moves
move_on-requires-clause-moves g c = let i = c.turn.inside.inside in let laid = c.lay_back.ensures.laid i.0.1 i.0.0 (inside c.turn.inside.token i.0 i.1) in
    (i.0.1, i.0.0, c.turn.inside.value, laid, subst (λ t. g.T.Journaled.moves t.pass.knows.seat t.met t.value) (sym c.turn.view_is) c.requires.moves)

pub of-requires : goal.of-requires
of-requires g c = let i = c.turn.inside.inside in let laid = c.lay_back.ensures.laid i.0.1 i.0.0 (inside c.turn.inside.token i.0 i.1) in
    (after_turn g.T.Journaled i.0.0 c.turn.inside.value i.0.1, c.move_on.ensures.outside i.0.1 i.0.0 c.turn.inside.value laid, c.turn.invariant, c.journal_len-seen_len.ensures)

pub returns : goal.returns
returns g c = let i = c.turn.inside.inside in let laid = c.lay_back.ensures.laid i.0.1 i.0.0 (inside c.turn.inside.token i.0 i.1) in
    let made = c.of.ensures (after_turn g.T.Journaled i.0.0 c.turn.inside.value i.0.1) (c.move_on.ensures.outside i.0.1 i.0.0 c.turn.inside.value laid) in
    let same : c.move_on.new.token.table_id ≡ c.turn.inside.token.table_id = c.move_on.ensures.table ∙ c.lay_back.ensures.table in record {
      turnstile = ap (λ p. p.turnstile) made ∙ (same ∙ (ap (λ t. t.pass.turnstile) c.turn.view_is ∙ c.requires.turnstile));
      knows = ap (λ p. p.knows) made ∙ ap (λ t. after_turn g.T.Journaled t.met t.value t.pass.knows) c.turn.view_is;
      goes_on = g.met.T.Journaled.goes_on c.args.turn.pass.knows.seat c.args.turn.met c.args.turn.value c.requires.moves;
    }
