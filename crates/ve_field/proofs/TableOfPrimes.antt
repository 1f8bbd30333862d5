-- What is known of each prime of the table, by computing it, and what a search of the table finds.
use Rattle.std.proofs.Common.{◌≢◌, ◌∙◌, ap, sym, ◌≡◌, ◌≢◌, ℕ, suc, zero, ◌*◌, ◌-◌, ◌%◌, ◌^◌, ◌<◌, ◌⊎◌, inl, inr, cond, Bool, true, false, Option, Some, None, List, [], ◌∷◌, length, slice_index_or, refl, arith, sym, ◌∙◌, eq-eqb}
use Rattle.std.specs.Prelude.{◌==◌, find, Contains}
use Rattle.std.proofs.Math.Nat.{mod-eq_of_lt, zero-mod, one-mul, zero-mul}
use Rattle.std.proofs.lemmas.Nat.{mul-mod_first}
use Rattle.std.proofs.lemmas.Bool.{eqb-true}
use Rattle.ve_theory.specs.Residues.{IsFieldPrime}
use Rattle.ve_lemmas.proofs.Residues.{prime-large, power_inverts as congruent_inverse}

-- the power with the exponent p - 2 is the inverse
pub power_inverts : (p a : ℕ) → IsFieldPrime p → 0 < a → a < p → (a * (a ^ (p - 2) % p)) % p ≡ 1
power_inverts p a prime positive residue = congruent_inverse p a prime positive residue ∙ mod-eq_of_lt (prime-large p prime)

-- a product with a nonzero residue can be undone
undone : (p a b : ℕ) → IsFieldPrime p → 0 < a → a < p → b < p → ((a * b) % p * (a ^ (p - 2) % p)) % p ≡ b
undone p a b prime positive a_residue b_residue =
    let inverse = a ^ (p - 2) % p in
    let regrouped : a * b * inverse ≡ a * inverse * b = omega arith in
    mul-mod_first (a * b) inverse p
    ∙ ap (λ n. n % p) regrouped
    ∙ sym (mul-mod_first (a * inverse) b p)
    ∙ ap (λ n. (n * b) % p) (power_inverts p a prime positive a_residue)
    ∙ ap (λ n. n % p) (one-mul b)
    ∙ mod-eq_of_lt b_residue

-- a field has no divisors of zero
pub product_nonzero : (p a b : ℕ) → IsFieldPrime p → 0 < a → a < p → 0 < b → b < p → 0 < (a * b) % p
product_nonzero p a b prime a_positive a_residue b_positive b_residue =
    let nonzero : (a * b) % p ≢ 0 = λ zero_product.
    let none = sym (undone p a b prime a_positive a_residue b_residue)
    ∙ ap (λ n. (n * (a ^ (p - 2) % p)) % p) zero_product
    ∙ ap (λ n. n % p) (zero-mul (a ^ (p - 2) % p)) ∙ zero-mod p in
    omega arith
    in omega arith

found_cases : (b : Bool) (x y : ℕ) (later : Option ℕ) → cond b (Some x) later ≡ Some y → ((b ≡ true) × (x ≡ y)) ⊎ (later ≡ Some y)
found_cases true x y later e = inl (refl, cc)
found_cases false x y later e = inr e

missed_parts : (b : Bool) (x : ℕ) (later : Option ℕ) → cond b (Some x) later ≡ None → (b ≡ false) × (later ≡ None)
missed_parts true x later e = cc
missed_parts false x later e = (refl, e)

-- what a search finds is what it looked for
pub found : (p : ℕ) (xs : List ℕ) (x : ℕ) → find (λ q. q == p) xs ≡ Some x → (x ≡ p) × Contains xs p
found p [] x e = cc
found p (y ∷ ys) x e =
    elim (found_cases (y == p) y x (find (λ q. q == p) ys) e) [
      | inl h ↦ let same = eqb-true y p h.0 in (sym h.1 ∙ same, (0, omega arith, same))
      | inr h ↦ let later = found p ys x h in (later.0, (suc later.1.0, omega arith, later.1.2))
    ]

-- a search that finds nothing was over a list without it
pub missed : (p : ℕ) (xs : List ℕ) (k : ℕ) → find (λ q. q == p) xs ≡ None → k < length xs → slice_index_or xs k p ≡ p → ⊥
missed p [] k e within here = omega arith
missed p (y ∷ ys) zero e within here = let t = missed_parts (y == p) y (find (λ q. q == p) ys) e in let same = eq-eqb y p here in cc
missed p (y ∷ ys) (suc k) e within here = missed p ys k (missed_parts (y == p) y (find (λ q. q == p) ys) e).1 (omega arith) here
