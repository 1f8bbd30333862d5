-- Inverses of residues: `a ^ (p - 2)`, tried at every prime of the table.
use Rattle.std.proofs.Common.{◌≡◌, ℕ, zero, suc, ◌-◌, ◌*◌, ◌^◌, ◌%◌, ◌<◌, ◌≤◌, ◌⊎◌, inl, inr, Bool, true, ◌&&◌, eqb, refl, subst, arith, ltb, eqb-true}
use Rattle.std.proofs.lemmas.Bool.{cases_lt, and_parts}
use Rattle.std.proofs.lemmas.Nat.{mod_below}
use Rattle.std.specs.List.{list_all}
use Rattle.std.proofs.lemmas.List.Sums.{AllPass-from_list_all}
use Rattle.std.proofs.lemmas.List.Elements.{All-contains}
use Rattle.ve_theory.specs.Residues.{primes, IsFieldPrime, Congruent}

inverse : ℕ → ℕ → ℕ
inverse p a = a ^ (p - 2) % p

is_inverse : ℕ → ℕ → Bool
unfolding inverse
is_inverse p a = eqb (a * inverse p a % p) (1 % p)

-- the numbers from 1 to n have inverses
have_inverses : ℕ → ℕ → Bool
have_inverses p zero = true
have_inverses p (suc n) = is_inverse p (suc n) && have_inverses p n

passes : ℕ → Bool
passes p = ltb 0 p && have_inverses p (p - 1)

all_pass : list_all passes primes ≡ true
unfolding primes passes have_inverses is_inverse inverse
all_pass = refl

one_of_many : (p n a : ℕ) → have_inverses p n ≡ true → 0 < a → a ≤ n → is_inverse p a ≡ true
unfolding have_inverses
one_of_many p zero a h l k = absurd (omega arith)
one_of_many p (suc n) a h l k = cases (one_of_many p n a) (and_parts (is_inverse p (suc n)) (have_inverses p n) h) (cases_lt n a)
  where
    cases : (have_inverses p n ≡ true → 0 < a → a ≤ n → is_inverse p a ≡ true) → (is_inverse p (suc n) ≡ true) × (have_inverses p n ≡ true) → (n < a) ⊎ (a ≤ n)
        → is_inverse p a ≡ true
    cases later e (inl m) = let same : suc n ≡ a = omega arith in subst (λ b. is_inverse p b ≡ true) same e.0
    cases later e (inr m) = later e.1 l m

-- the power with the exponent p - 2 is the inverse
pub power_inverts : (p a : ℕ) → IsFieldPrime p → 0 < a → a < p → Congruent p (a * (a ^ (p - 2) % p)) 1
unfolding passes is_inverse inverse
power_inverts p a f l h =
    let e : passes p ≡ true = All-contains (λ q. passes q ≡ true) primes p (AllPass-from_list_all passes primes all_pass) f in
    let both = and_parts (ltb 0 p) (have_inverses p (p - 1)) e in
    let k : is_inverse p a ≡ true = one_of_many p (p - 1) a both.1 l (omega arith) in
    eqb-true (a * inverse p a % p) (1 % p) k

pub has_inverses : (p a : ℕ) → IsFieldPrime p → 0 < a → a < p → (b : ℕ) × (b < p) × Congruent p (a * b) 1
has_inverses p a f l h = (a ^ (p - 2) % p, mod_below (a ^ (p - 2)) p (omega arith), power_inverts p a f l h)
