use Rattle.std.proofs.Common.{ℕ, ◌-◌, ◌≤◌, ◌%◌, ◌∷◌, nat_eq, sym, subst, ◌∙◌, arith}
use Rattle.std.proofs.Math.ListN.{set}
use Rattle.ve_theory.specs.Combinations.{Alike}
use Rattle.ve_vec.specs.Spans.{spanned}
use Rattle.ve_vec.proofs.Spanning.{nothing_left, residue_taken}
use Rattle.ve_vec.proofs.dense.DenseSum.take.Goals as goal

pub returns-clause-sum : goal.returns-clause-sum
returns-clause-sum c =
    let low : c.self.inside.low ≤ c.args.id = subst (λ s. s.low ≤ c.args.id) (sym c.self.view_is) c.requires.low in
    let high : c.args.id ≤ c.self.inside.high = subst (λ s. c.args.id ≤ s.high) (sym c.self.view_is) c.requires.high in
    let at : ℕ = c.args.id - c.self.inside.low in
    subst (λ s. Alike nat_eq c.args.field.now s.total ((c.args.id, c.index.result.now % c.from.result) ∷ spanned c.self.inside.low (set c.self.inside.numbers.items at 0))) c.self.view_is
    (subst (λ n. Alike nat_eq c.args.field.now (spanned c.self.inside.low c.self.inside.numbers.items) ((c.args.id, n % c.from.result) ∷ spanned c.self.inside.low (set c.self.inside.numbers.items at 0))) (sym c.index.ensures)
    (residue_taken c.args.field.now c.from.result c.self.inside.low c.self.inside.numbers.items at c.index.result.now c.args.id (c.from.ensures ∙ c.prime.ensures.prime) (omega (arith, low)) (omega (arith, low, high, c.self.invariant.0))))

pub returns-clause-gone : goal.returns-clause-gone
returns-clause-gone c =
    let low : c.self.inside.low ≤ c.args.id = subst (λ s. s.low ≤ c.args.id) (sym c.self.view_is) c.requires.low in
    let high : c.args.id ≤ c.self.inside.high = subst (λ s. c.args.id ≤ s.high) (sym c.self.view_is) c.requires.high in
    nothing_left c.self.inside.low c.self.inside.numbers.items (c.args.id - c.self.inside.low) c.args.id (omega (arith, low)) (omega (arith, low, high, c.self.invariant.0))
