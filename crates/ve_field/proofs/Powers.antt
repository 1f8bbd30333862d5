-- Powers by repeated squaring, modulo p.
use Rattle.std.proofs.Common.{◌≡◌, ℕ, ◌+◌, ◌*◌, ◌%◌, ◌^◌, sym, ◌∙◌, ap, arith, add-one}
use Rattle.std.proofs.Math.Pow.{pow-add}
use Rattle.std.proofs.Math.Nat.{pow-suc}
use Rattle.std.proofs.lemmas.Nat.{mul-mod_first, mul-mod_second, pow-mod, mul-pow}

-- a power of the square, reduced, is the power of twice the exponent
squared : (b h p : ℕ) → ((b * b) % p) ^ h % p ≡ b ^ (h + h) % p
squared b h p = pow-mod (b * b) h p ∙ ap (λ n. n % p) (mul-pow b b h ∙ sym (pow-add b h h))

-- one step at an even exponent
pub even_step : (w b p h : ℕ) → (w * ((b * b) % p) ^ h) % p ≡ (w * b ^ (h + h)) % p
even_step w b p h =
    sym (mul-mod_second w (((b * b) % p) ^ h) p) ∙ ap (λ n. (w * n) % p) (squared b h p) ∙ mul-mod_second w (b ^ (h + h)) p

-- one factor more
more : (w b n : ℕ) → w * b * b ^ n ≡ w * b ^ (n + 1)
more w b n = rw (add-one, pow-suc) (omega arith)

-- one step at an odd exponent
pub odd_step : (w b p h : ℕ) → ((w * b) % p * ((b * b) % p) ^ h) % p ≡ (w * b ^ (h + h + 1)) % p
odd_step w b p h =
    mul-mod_first (w * b) (((b * b) % p) ^ h) p ∙ even_step (w * b) b p h ∙ ap (λ n. n % p) (more w b (h + h))
