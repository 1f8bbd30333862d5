use Rattle.std.proofs.Common.{◌≡◌, ℕ, ◌-◌, ◌≤◌, ◌↔◌, nat_eq, true, sym, subst, ◌∙◌, arith}
use Rattle.std.proofs.lemmas.Bool.{eqb-true, eq-eqb}
use Rattle.ve_theory.specs.Combinations.{coefficient}
use Rattle.ve_vec.proofs.Spanning.{coefficient-spanned}
use Rattle.ve_vec.proofs.dense.DenseSum.is_empty_at.Goals as goal

pub returns : goal.returns
returns c =
    let low : c.self.inside.low ≤ c.args.id = subst (λ s. s.low ≤ c.args.id) (sym c.self.view_is) c.requires.low in
    let high : c.args.id ≤ c.self.inside.high = subst (λ s. c.args.id ≤ s.high) (sym c.self.view_is) c.requires.high in
    let number : ℕ = c.index.result.now in
    subst (λ s. (nat_eq number 0 ≡ true) ↔ (coefficient nat_eq s.total c.args.id ≡ 0)) c.self.view_is
    (let there = coefficient-spanned c.self.inside.low c.self.inside.numbers.items (c.args.id - c.self.inside.low) number c.args.id (omega (arith, low)) (omega (arith, low, high, c.self.invariant.0)) ∙ sym c.index.ensures in
    (λ none. there ∙ eqb-true number 0 none, λ nothing. eq-eqb number 0 (sym there ∙ nothing)))
