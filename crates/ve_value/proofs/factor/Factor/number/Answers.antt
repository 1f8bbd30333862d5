use Rattle.std.proofs.Common.{◌≡◌, ℕ, ◌*◌, ◌%◌, ◌+◌, Bool, true, false, cond, List, [], ◌∷◌, ◌∙◌, arith}
use Rattle.std.proofs.Math.Nat.{mod-mod}
use Rattle.ve_theory.specs.Combinations.{coefficient, scaled, unit}
use Rattle.ve_theory.specs.Residues.{Congruent}
use Rattle.ve_theory.specs.Words.{same_letters}
use Rattle.ve_formats.specs.Values.{of_constant}
use Rattle.ve_value.proofs.factor.Factor.number.Goals as goal

-- a number is alike to its residue
residue_alike : (p n : ℕ) (k : List ℕ) → Congruent p (coefficient same_letters (([], n % p) ∷ []) k) (coefficient same_letters (scaled n (unit [])) k)
unfolding coefficient scaled
residue_alike p n k = by_test (same_letters [] k)
  where
    by_test : (b : Bool) → (cond b (n % p) 0 + 0) % p ≡ (cond b (n * 1) 0 + 0) % p
    by_test true = grind (arith, mod-mod n p)
    by_test false = grind arith

pub returns : goal.returns
returns c =
    let reduced = rw c.field-field.ensures.field at c.in_ok-constant.ensures.constant.reduced in
    let alike = rw (c.reduce-residue.ensures.residue_of, c.from.ensures, c.field-field.ensures.field) at c.in_ok-constant.ensures.constant.alike in
    rw c.of_value.ensures (record {
      worth = record { value = of_constant _ (record { reduced = reduced; alike = λ k. alike k ∙ residue_alike _ _ k }); reduced = reduced };
      letter = λ letter. ((λ e. absurd (cc)), (λ l. absurd (let is = l.is_name in cc)));
    })
