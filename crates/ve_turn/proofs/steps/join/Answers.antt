use Rattle.std.proofs.Common.{ap, arith}
use Rattle.ve_turn.proofs.Passes.{joins}
use Rattle.ve_turn.proofs.steps.join.Goals as goal

pub join_seat-requires : goal.join_seat-requires
join_seat-requires g c = let at = c.requires.table in let words = at.0.1 in let o = c.requires.outside in let s = c.args.token.now in let t = c.args.other in
    (at.0.0, at.1, ap (λ m. m.1) o.3, omega arith, joins g.T.Journaled c.args.shared.now.key.seats s.id t.id s.me.0 t.me.0 o.0 o.1 (ap (λ m. m.0) o.2) (ap (λ m. m.0) o.3))
