use Rattle.std.proofs.Common.{◌-◌, ◌∙◌, [], ◌∷◌, ap, sym, subst, ℕ}
use Rattle.ve_theory.specs.Words.{times}
use Rattle.ve_pres.specs.Terms.{IsKept}
use Rattle.ve_pres.proofs.InAlgebra.{first_inverse, inverse_view, kept_inverse}
use Rattle.ve_pres.proofs.free_alg.FreeAlg.inverse_relator.Goals as goal

pub of_two-requires : goal.of_two-requires
of_two-requires c =
    let P : ℕ → Type 0 = λ q. IsKept ((c.push-2.new.self, 1) ∷ (c.root.result, q - 1) ∷ []) in
    subst P (sym c.prime.ensures.prime)
    (kept_inverse _ _ _ _ _ _ c.prime.ensures.above_one c.root-product.ensures (c.in_ok-push-2.ensures.ok ∙ ap (λ w. times w c.args.inverse) c.in_ok-push.ensures.ok) c.root.ensures)

pub invariant_of-result : goal.invariant_of-result
invariant_of-result c =
    first_inverse _ _ _ _ _ _ _ c.root-product.ensures (c.in_ok-push-2.ensures.ok ∙ ap (λ w. times w c.args.inverse) c.in_ok-push.ensures.ok) c.root.ensures c.in_ok-element.ensures

pub returns : goal.returns
returns c =
    inverse_view _ _ _ _ _ _ _ c.root-product.ensures (c.in_ok-push-2.ensures.ok ∙ ap (λ w. times w c.args.inverse) c.in_ok-push.ensures.ok) c.root.ensures c.in_ok-element.ensures
    ∙ ap (λ q. (c.args.letter ∷ c.args.inverse ∷ [], 1) ∷ ([], q - 1) ∷ []) c.prime.ensures.prime
