-- The view is cut in two, and each part is a pass.
use Rattle.std.proofs.Common.{◌≡◌, ◌≤◌, ◌-◌, [], refl, sym, ap, ◌∙◌, subst, arith}
use Rattle.ve_turn.specs.Knows.{new_seat}
use Rattle.ve_turn.specs.Steps.{first_cut, second_cut}
use Rattle.ve_turn.proofs.Standing.{outside, one_less}
use Rattle.ve_turn.proofs.Passes.{splits}
use Rattle.ve_turn.proofs.turnstile.Turnstile.split.Goals as goal

pub split_seat-other-requires : goal.split_seat-other-requires
split_seat-other-requires g c = let o = c.pass.inside.outside in let k = o.0 in let is = outside c.pass.inside.token k o.1 in let known = c.pass.view_is in let sized = c.self.invariant in let words = sized.0 in (
  ap (λ p. p.turnstile) known ∙ (c.requires.turnstile ∙ sym c.self.view_is),
  omega arith,
  splits g.T.Journaled c.self.inside.table.shared.key.seats c.pass.inside.token.id c.pass.inside.token.me.0 k (ap (λ m. m.0) is)
      (subst (λ p. 1 ≤ p.knows.left) (sym known) c.requires.left) (ap (λ p. p.knows.is_met) known ∙ c.requires.unmet),
)

pub overflow_sub-second : goal.overflow_sub-second
overflow_sub-second g c = let n = c.pass.invariant.0 in omega arith

pub of-requires : goal.of-requires
of-requires g c = let o = c.pass.inside.outside in let k = o.0 in let n = c.pass.invariant.0 in let less = n.3 in
    (one_less k, c.split_seat-other.ensures.2 ∙ ap (λ m. (first_cut m.0, m.1)) (outside c.pass.inside.token k o.1), (n.0, n.1, ap (λ z. z - 1) n.2, omega arith), c.pass.invariant.1)

pub of-requires-2 : goal.of-requires-2
of-requires-2 g c = let o = c.pass.inside.outside in let k = o.0 in let n = c.pass.invariant.0 in let less = n.3 in let empty = g.T.Journaled.empty_desk in
    (new_seat empty (k.seats - k.left) k, c.split_seat-other.ensures.4 ∙ ap (λ m. (second_cut empty m.0, [])) (outside c.pass.inside.token k o.1), (n.0, (λ i. n.0 i - n.2 i), refl, omega arith), c.pass.invariant.1)

pub returns : goal.returns
returns g c = let o = c.pass.inside.outside in let k = o.0 in let is = outside c.pass.inside.token k o.1 in let empty = g.T.Journaled.empty_desk in let cut = c.split_seat-other.ensures in
    let first = c.of.ensures (one_less k) (cut.2 ∙ ap (λ m. (first_cut m.0, m.1)) is) in
    let second = c.of-2.ensures (new_seat empty (k.seats - k.left) k) (cut.4 ∙ ap (λ m. (second_cut empty m.0, [])) is) in
    let own : c.pass.inside.token.table_id ≡ c.args.self.now = ap (λ p. p.turnstile) c.pass.view_is ∙ c.requires.turnstile in record {
      turnstile = (ap (λ p. p.turnstile) first ∙ (cut.0 ∙ own), ap (λ p. p.turnstile) second ∙ (cut.3 ∙ own));
      first = ap (λ p. p.knows) first ∙ ap (λ p. one_less p.knows) c.pass.view_is;
      second = ap (λ p. p.knows) second ∙ ap (λ p. new_seat empty (p.knows.seats - p.knows.left) p.knows) c.pass.view_is;
    }
