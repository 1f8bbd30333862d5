-- The numbers of generators, as they are written, and generators times numbers.
use Rattle.std.proofs.Common.{◌≡◌, ◌≢◌, ℕ, zero, suc, ◌+◌, ◌-◌, ◌*◌, ◌^◌, ◌%◌, ◌<◌, ◌≤◌, Bool, true, false, cond, List, [], ◌∷◌, length, Option, Some, None, MatchOption, get_or, arith, sym, ap, ◌∙◌, subst, lit<}
use Rattle.std.specs.Prelude.{IsTrue, IsFalse, decimal}
use Rattle.std.specs.List.{list_all}
use Rattle.std.proofs.Math.Nat.{pow-suc, mod-mod, mul-le-mul_right}
use Rattle.std.proofs.lemmas.Bool.{and_parts, leb-true}
use Rattle.std.proofs.lemmas.Fmt.{decimal_nonempty, first_decimal, length-decimal-le, decimal_digit, decimal_injective}
use Rattle.ve_theory.specs.Combinations.{coefficient, scaled, unit}
use Rattle.ve_theory.specs.Elements.{Element, IsElementOf}
use Rattle.ve_theory.specs.Residues.{Congruent}
use Rattle.ve_theory.specs.Words.{Word, same_word}
use Rattle.ve_theory.specs.Validity.{is_digit}
use Rattle.ve_formats.specs.Tokens.{is_number, number_value}
use Rattle.ve_formats.proofs.Decimals.{number_digits}

-- a number below a thousand has a first digit, which isn't 0, and at most three digits

pub never_empty : (n : ℕ) → n < 1000 → [] ≡ decimal n → ⊥
never_empty n small is = let some = decimal_nonempty n (omega arith) in let none : 0 ≡ length (decimal n) = ap (length {A = ℕ}) is in absurd (omega (arith, some))

pub never_zero_first : (n : ℕ) (ds : List ℕ) → 0 < n → n < 1000 → get_or ds 0 0 ≡ 48 → ds ≡ decimal n → ⊥
never_zero_first n ds some small first is =
    let high = first_decimal n some (omega arith) in
    let same : get_or ds 0 0 ≡ get_or (decimal n) 0 0 = ap (λ (ds : List ℕ). get_or ds 0 0) is in
    absurd (omega (arith, high))

pub never_longer : (n : ℕ) (ds : List ℕ) → n < 1000 → 3 < length ds → ds ≡ decimal n → ⊥
never_longer n ds small long is =
    let short = length-decimal-le 3 n (lit< tt) small (omega arith) in
    let same : length ds ≡ length (decimal n) = ap (length {A = ℕ}) is in
    absurd (omega (arith, short))

digits_below : (ds : List ℕ) → IsTrue (list_all is_digit ds) → number_value ds < 10 ^ length ds
digits_below [] all = omega arith
digits_below (d ∷ ds) all =
    let parts = and_parts _ _ all in
    let high : d ≤ 57 = leb-true d 57 (and_parts _ _ parts.0).1 in
    let rest = digits_below ds parts.1 in
    let first : (d - 48) * 10 ^ length ds ≤ 9 * 10 ^ length ds = mul-le-mul_right (10 ^ length ds) (omega arith) in
    rw pow-suc (omega (arith, rest, first))

small_value : (n : ℕ) (ds : List ℕ) → length ds ≤ 3 → number_value ds < 10 ^ length ds → number_value ds < 1000
small_value n [] short h = omega arith
small_value n (a ∷ []) short h = omega arith
small_value n (a ∷ b ∷ []) short h = omega arith
small_value n (a ∷ b ∷ c ∷ []) short h = omega arith
small_value n (a ∷ b ∷ c ∷ d ∷ ds) short h = absurd (omega arith)

numbered : (ds : List ℕ) → 0 < length ds → IsTrue (list_all is_digit ds) → IsTrue (is_number ds)
numbered [] some all = absurd (omega arith)
numbered (d ∷ ds) some all = all

pub number_given : (ds : List ℕ) (o : Option ℕ) → 0 < length ds → get_or ds 0 0 ≢ 48 → length ds ≤ 3
    → ((n : ℕ) → n < 2 ^ 64 → IsTrue (is_number (decimal n)))
    → ((digits : List ℕ) → IsTrue (is_number digits) → (get_or digits 0 0 ≡ 48 → length digits ≡ 1) → number_value digits < 2 ^ 64 → decimal (number_value digits) ≡ digits)
    → MatchOption o (IsFalse (list_all is_digit ds)) (λ n. IsTrue (list_all is_digit ds) × (n ≡ number_value ds))
    → MatchOption o ((n : ℕ) → 0 < n → n < 1000 → ds ≢ decimal n) (λ n. (0 < n) × (n < 1000) × (ds ≡ decimal n))
number_given ds None some first short digits only h = λ n positive small is.
    let all : IsTrue (list_all is_digit ds) = subst (λ (ds : List ℕ). IsTrue (list_all is_digit ds)) (sym is) (number_digits (decimal n) (digits n (omega arith))) in
    let both : true ≡ false = sym all ∙ h in
    (cc)
number_given ds (Some n) some first short digits only (all, is) =
    let small = small_value n ds short (digits_below ds all) in
    let written : decimal (number_value ds) ≡ ds = only ds (numbered ds some all) (λ zero_first. absurd (first zero_first)) (omega (arith, small)) in
    let same : ds ≡ decimal n = sym written ∙ ap decimal (sym is) in
    (positive n same, omega (arith, small, is), same)
  where
    positive : (n : ℕ) → ds ≡ decimal n → 0 < n
    positive zero same = absurd (first (ap (λ (ds : List ℕ). get_or ds 0 0) (same ∙ decimal_digit 0 (omega arith))))
    positive (suc n) same = omega arith

-- two numbers of one name are one
pub same_generator : (name : List ℕ) (first : ℕ) (digits : List ℕ) (m n : ℕ) → name ≡ first ∷ digits → name ≡ 101 ∷ decimal m → digits ≡ decimal n → m < 2 ^ 64 → n < 2 ^ 64 → m ≡ n
same_generator name first digits m n split is written low small =
    let same : digits ≡ decimal m = (let both : first ∷ digits ≡ 101 ∷ decimal m = sym split ∙ is in (cc)) in
    decimal_injective m n low small (sym same ∙ written)

-- a residue times a word is alike to the number times it
residue_alike : (p n : ℕ) (w k : Word) → Congruent p (coefficient same_word (scaled (n % p) (unit w)) k) (coefficient same_word (scaled n (unit w)) k)
unfolding coefficient scaled
residue_alike p n w k = by_test (same_word w k)
  where
    by_test : (b : Bool) → (cond b ((n % p) * 1) 0 + 0) % p ≡ (cond b (n * 1) 0 + 0) % p
    by_test true = grind (arith, mod-mod n p)
    by_test false = grind arith

pub times_number : (p n : ℕ) (w : Word) (v : Element) → IsElementOf p v (scaled (n % p) (unit w)) → IsElementOf p v (scaled n (unit w))
times_number p n w v h = record { reduced = h.reduced; alike = λ k. h.alike k ∙ residue_alike p n w k }
