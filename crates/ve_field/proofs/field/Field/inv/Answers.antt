use Rattle.std.proofs.Common.{◌≡◌, ℕ, suc, ◌*◌, ◌%◌, ◌-◌, ◌<◌, sym, subst, ◌∙◌, ap, arith}
use Rattle.std.proofs.Math.Nat.{mod-eq_of_lt}
use Rattle.ve_theory.specs.Residues.{Congruent}
use Rattle.ve_theory.proofs.Independence.{congruent_by}
use Rattle.ve_field.proofs.TableOfPrimes.{power_inverts}
use Rattle.ve_field.proofs.field.Field.inv.Goals as goal
use Rattle.ve_field.proofs.field.Field.inv.Goals.{then-a-eq1-via-then-a-eq1, then-a-eq1-via-else-a-eq1+then-a-exponent}

-- the square of -1
negative_squared : (m : ℕ) → Congruent (suc (suc m)) (suc m * suc m) 1
negative_squared m = congruent_by (suc (suc m)) (suc m * suc m) 1 0 m (omega arith)

of_one : (p a : ℕ) → a ≡ 1 → Congruent p (a * a) 1
of_one p a is = ap (λ n. n * n % p) is

of_negative : (p a m : ℕ) → p ≡ suc (suc m) → a ≡ suc m → Congruent p (a * a) 1
of_negative p a m p_is a_is =
    subst (λ q. Congruent q (a * a) 1) (sym p_is) (subst (λ n. Congruent (suc (suc m)) (n * n) 1) (sym a_is) (negative_squared m))

pub returns-clause-inverse : goal.returns-clause-inverse
returns-clause-inverse c =
    let one : 1 < c.args.self.now = c.prime-exponent.ensures.above_one in
    rw (c.pow.ensures.power, c.prime-exponent.ensures.prime)
    (power_inverts c.args.self.now c.args.a c.prime-exponent.ensures.in_table c.requires.nonzero c.requires.residue) ∙ sym (mod-eq_of_lt one)

pub returns-then-a-eq1-clause-inverse : goal.returns-then-a-eq1-clause-inverse
returns-then-a-eq1-clause-inverse c =
    elim c.then-a-eq1.branch [
      | then-a-eq1-via-then-a-eq1 w ↦ of_one c.args.self.now c.args.a w.if-a-eq1.true
      | then-a-eq1-via-else-a-eq1+then-a-exponent w ↦
          of_negative c.args.self.now c.args.a (c.prime-exponent.result - 2) (omega (arith, c.prime-exponent.ensures.prime, c.prime-exponent.ensures.above_one))
          (omega (arith, w.if-a-exponent.true))
    ]
