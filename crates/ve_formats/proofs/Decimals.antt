-- Numbers as they are written.
use Rattle.std.proofs.Common.{◌≡◌, ℕ, ◌^◌, ◌<◌, ◌≤◌, List, [], ◌∷◌, length, get_or, arith, refl, lit<}
use Rattle.std.specs.Prelude.{IsTrue, decimal}
use Rattle.std.specs.List.{list_all}
use Rattle.std.specs.Int.{IsInRange}
use Rattle.std.proofs.lemmas.Bool.{and_parts, and_from, leb-true, le-leb}
use Rattle.std.proofs.lemmas.Str.Parse.{IsDigitsTest, IsNumeralModel, numerals_by_weight}
use Rattle.std.proofs.lemmas.Fmt.{digits_decimal, digits_value-decimal, decimal_nonempty, decimal-digits_value, length-decimal-le}
use Rattle.ve_theory.specs.Validity.{is_digit}
use Rattle.ve_formats.specs.Tokens.{is_number, number_value, most_digits}

in_range : (d : ℕ) → IsTrue (is_digit d) → IsInRange 48 57 d
in_range d h = let parts = and_parts _ _ h in (leb-true 48 d parts.0, leb-true d 57 parts.1)

digits_test : IsDigitsTest (λ ds. IsTrue (list_all is_digit ds))
digits_test = record {
  empty = refl;
  parts = λ d ds all. let parts = and_parts _ _ all in (in_range d parts.0, parts.1);
  more = λ d ds range all. and_from _ _ (and_from _ _ (le-leb 48 d range.0) (le-leb d 57 range.1)) all;
}

own : IsNumeralModel (λ ds. IsTrue (list_all is_digit ds)) number_value
own = numerals_by_weight (λ ds. IsTrue (list_all is_digit ds)) digits_test number_value (record { empty = refl; more = λ d ds range. refl })

pub number_digits : (ds : List ℕ) → IsTrue (is_number ds) → IsTrue (list_all is_digit ds)
number_digits [] h = refl
number_digits (d ∷ ds) h = h

is_number-nonempty : (ds : List ℕ) → IsTrue (list_all is_digit ds) → 0 < length ds → IsTrue (is_number ds)
is_number-nonempty [] all some = absurd (omega arith)
is_number-nonempty (d ∷ ds) all some = all

pub is_number-decimal : (n : ℕ) → n < 2 ^ 64 → IsTrue (is_number (decimal n))
is_number-decimal n small = is_number-nonempty (decimal n) (digits_decimal own n small) (decimal_nonempty n small)

pub number_value-decimal : (n : ℕ) → n < 2 ^ 64 → number_value (decimal n) ≡ n
number_value-decimal n small = digits_value-decimal own n small

pub length-decimal : (n : ℕ) → n < 10 ^ most_digits → length (decimal n) ≤ most_digits
length-decimal n small = length-decimal-le most_digits n (lit< tt) small (omega arith)

is_number-all : (ds : List ℕ) → IsTrue (is_number ds) → IsTrue (list_all is_digit ds) × (0 < length ds)
is_number-all [] h = absurd (cc)
is_number-all (d ∷ ds) h = (h, omega arith)

pub decimal-number_value : (ds : List ℕ) → IsTrue (is_number ds) → (get_or ds 0 0 ≡ 48 → length ds ≡ 1) → number_value ds < 2 ^ 64 → decimal (number_value ds) ≡ ds
decimal-number_value ds h plain small = let parts = is_number-all ds h in decimal-digits_value own ds parts.0 parts.1 plain small
