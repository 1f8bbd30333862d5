use Rattle.std.proofs.Common.{◌≡◌, inl, inr, ℕ, ◌+◌, ◌-◌, ◌++◌, ap₂, refl, sym, ◌∙◌, arith}
use Rattle.ve_table.specs.Births.{births_of}
use Rattle.ve_table.proofs.Producing.{births_more, births_none, births_all}
use Rattle.ve_table.proofs.birth.products.Goals as goal

pub loop-parent-init : goal.loop-parent-init
loop-parent-init c = record {
  so_far = c.new-births.ensures.items ∙ sym (births_none c.args.parents.0 (c.args.parents.0 - c.args.parents.0) c.args.letters.now (omega arith));
  range = inl refl;
}

pub loop-parent-preserved : goal.loop-parent-preserved
loop-parent-preserved c =
    let from : ℕ = c.args.parents.0 in
    let at : ℕ = c.loop-parent.parent in
    let letters = c.args.letters.now in
    record {
      so_far = c.in_ok-push_products.ensures
          ∙ ap₂ (λ l p. l ++ births_of p letters) c.loop-parent.invariant.so_far (let e : at ≡ from + (at - from) = omega (arith, c.loop-parent.auto.parent) in e)
          ∙ sym (births_more from (at - from) letters)
          ∙ births_all from (at - from + 1) (at + 1 - from) letters (omega (arith, c.loop-parent.auto.parent));
      range = inr (omega (arith, c.loop-parent-test.true));
    }

pub returns : goal.returns
returns c =
    c.loop-parent.invariant.so_far
    ∙ births_all c.args.parents.0 (c.loop-parent.parent - c.args.parents.0) (c.args.parents.1 - c.args.parents.0) c.args.letters.now
    (elim c.loop-parent.invariant.range [
      | inl same ↦ omega (arith, same, c.loop-parent-test.false)
      | inr le ↦ omega (arith, le, c.loop-parent-test.false)
    ])
