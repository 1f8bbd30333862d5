-- The number that digits stand for, digit by digit.
use Rattle.std.proofs.Common.{◌≡◌, ℕ, ◌+◌, ◌-◌, ◌*◌, ◌^◌, ◌<◌, ◌≤◌, zero, suc, List, [], ◌∷◌, ◌++◌, length, take, get_or, arith, ap, ◌∙◌, length-append, lit<}
use Rattle.std.specs.Prelude.{IsTrue}
use Rattle.std.specs.List.{list_all}
use Rattle.std.proofs.Math.Nat.{pow-suc, pow-le-pow_right}
use Rattle.std.proofs.Math.Numerals.{add-one}
use Rattle.std.proofs.lemmas.Bool.{and_parts, leb-true}
use Rattle.std.proofs.lemmas.List.{take_more}
use Rattle.ve_theory.specs.Validity.{is_digit}
use Rattle.ve_formats.specs.Tokens.{number_value, most_digits}

shifted : (e p v d : ℕ) → e * (p * 10) + (10 * v + d) ≡ 10 * (e * p + v) + d
shifted e p v d = omega arith

-- one more digit
number_value-push : (ds : List ℕ) (d : ℕ) → number_value (ds ++ d ∷ []) ≡ 10 * number_value ds + (d - 48)
number_value-push [] d = omega arith
number_value-push (e ∷ ds) d =
    let longer : length (ds ++ d ∷ []) ≡ suc (length ds) = length-append ds (d ∷ []) ∙ add-one (length ds) in
    (λ i. (e - 48) * 10 ^ longer i + number_value-push ds d i)
    ∙ ap (λ p. (e - 48) * p + (10 * number_value ds + (d - 48))) (pow-suc 10 (length ds))
    ∙ shifted (e - 48) (10 ^ length ds) (number_value ds) (d - 48)

pub number_value-more : (ds : List ℕ) (i : ℕ) → i < length ds → number_value (take (i + 1) ds) ≡ 10 * number_value (take i ds) + (get_or ds i 0 - 48)
number_value-more ds i within = ap number_value (take_more ds i 0 within) ∙ number_value-push (take i ds) (get_or ds i 0)

-- a digit among digits
pub digit_at : (ds : List ℕ) (i : ℕ) → IsTrue (list_all is_digit ds) → i < length ds → (48 ≤ get_or ds i 0) × (get_or ds i 0 ≤ 57)
digit_at [] i all within = absurd (omega arith)
digit_at (d ∷ ds) zero all within =
    let bounds = and_parts _ _ (and_parts _ _ all).0 in
    (leb-true 48 d bounds.0, leb-true d 57 bounds.1)
digit_at (d ∷ ds) (suc i) all within = digit_at ds i (and_parts _ _ all).1 (omega arith)

-- digits stay below the power of ten
pub below_power : (value i d : ℕ) → value < 10 ^ i → d ≤ 9 → 10 * value + d < 10 ^ (i + 1)
below_power value i d small digit = rw (add-one i, pow-suc 10 i) (omega arith)

pub below_most : (value i d : ℕ) → value < 10 ^ i → d ≤ 9 → i < most_digits → 10 * value + d < 10 ^ most_digits
below_most value i d small digit room =
    let more : i + 1 ≤ most_digits = omega arith in
    let high : 10 ^ (i + 1) ≤ 10 ^ most_digits = pow-le-pow_right (lit< tt) more in
    omega (arith, below_power value i d small digit)
