-- The limits of sums and products.
use Rattle.std.specs.Prelude.{◌≡◌, ℕ, nat_lt, ◌&&◌, if◌then◌else◌, Option, Some, None, Result, Ok, Err}
use Rattle.ve_theory.specs.Validity.{most_terms, most_length}
use Rattle.ve_pres.specs.declared.limit.Limit.{Limit}
use Rattle.ve_pres.specs.declared.limit.Limit.TheVariants.{Terms, Length}
use Rattle.ve_pres.specs.declared.limit.PresFault.{PresFault}
use Rattle.ve_pres.specs.declared.limit.PresFault.TheVariants.{Limit as Exceeds, Memory}

-- the limit that is exceeded by a sum of elements that have `terms` terms together
abbrev pub sum_limit : (terms : ℕ) → Option Limit
sum_limit terms = if nat_lt most_terms terms then Some (Terms terms) else None

-- The limit that is exceeded by a product of elements. `terms` is the product of their numbers of terms, which is 0 where one of
-- them is zero, and `length` the sum of their lengths.
abbrev pub product_limit : (terms length : ℕ) → Option Limit
product_limit terms length =
    if nat_lt most_terms terms then Some (Terms terms)
    else if nat_lt 0 terms && nat_lt most_length length then Some (Length length)
    else None

-- The call is refused exactly where it exceeds a limit, and then for this one. Memory is wanted only where it exceeds none.
abbrev pub IsLimitedBy : {X : Type 0} → Option Limit → Result X PresFault → Type 0
IsLimitedBy limit (Ok value) = limit ≡ None
IsLimitedBy limit (Err (Exceeds exceeded)) = limit ≡ Some exceeded
IsLimitedBy limit (Err Memory) = limit ≡ None
