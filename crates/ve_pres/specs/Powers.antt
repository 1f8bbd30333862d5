-- Powers of elements of the algebra, within the limits.
use Rattle.std.specs.Prelude.{◌≡◌, ℕ, ◌+◌, ◌*◌, ◌<◌, length, Option, Some, None, Result, Ok, Err}
use Rattle.ve_theory.specs.Elements.{AlgebraElement, IsAlgebraElementOf, algebra_length, product}
use Rattle.ve_pres.specs.Limits.{product_limit}
use Rattle.ve_pres.specs.declared.limit.Limit.{Limit}
use Rattle.ve_pres.specs.declared.limit.PresFault.{PresFault}
use Rattle.ve_pres.specs.declared.limit.PresFault.TheVariants.{Limit as Exceeds, Memory}

-- the limit that the product of two elements exceeds
abbrev pub limit_of_product : AlgebraElement → AlgebraElement → Option Limit
limit_of_product v r = product_limit (length v * length r) (algebra_length v + algebra_length r)

-- From the first power on, each power is the one before it times r. They are reached as long as no product exceeds a limit.
pub data Reaches (p : ℕ) (r : AlgebraElement) : ℕ → AlgebraElement → Type 0 where
  first : Reaches p r 1 r
  next : (k : ℕ) (v w : AlgebraElement) → Reaches p r k v → limit_of_product v r ≡ None → IsAlgebraElementOf p w (product v r) → Reaches p r (k + 1) w

-- the first product that exceeds a limit, on the way to the power of an exponent
pub record IsRefusedPower (p : ℕ) (r : AlgebraElement) (exponent : ℕ) (limit : Limit) : Type 0 where
  pub reached : ℕ
  pub value : AlgebraElement
  pub is_reached : Reaches p r reached value
  pub below : reached < exponent
  pub refused : limit_of_product value r ≡ Some limit

-- the power is reached, or the first product that exceeds a limit is told
abbrev pub IsPowerResult : ℕ → AlgebraElement → ℕ → Result AlgebraElement PresFault → Type 0
IsPowerResult p r exponent (Ok value) = 0 < exponent → Reaches p r exponent value
IsPowerResult p r exponent (Err (Exceeds limit)) = IsRefusedPower p r exponent limit
IsPowerResult p r exponent (Err Memory) = Unit {0}
