-- Residues modulo a prime. Numbers in definitions are natural numbers; two are compared modulo the prime.
use Rattle.std.specs.Prelude.{◌≡◌, ℕ, ◌%◌, List, [], ◌∷◌, Contains}

-- the primes below 256, in order
unfoldable pub primes : List ℕ
primes =
    2 ∷ 3 ∷ 5 ∷ 7 ∷ 11 ∷ 13 ∷ 17 ∷ 19 ∷ 23 ∷ 29 ∷ 31 ∷ 37 ∷ 41 ∷ 43 ∷ 47 ∷ 53 ∷ 59 ∷ 61 ∷ 67 ∷ 71 ∷ 73 ∷ 79 ∷ 83 ∷ 89
    ∷ 97 ∷ 101 ∷ 103 ∷ 107 ∷ 109 ∷ 113 ∷ 127 ∷ 131 ∷ 137 ∷ 139 ∷ 149 ∷ 151 ∷ 157 ∷ 163 ∷ 167 ∷ 173 ∷ 179 ∷ 181 ∷ 191
    ∷ 193 ∷ 197 ∷ 199 ∷ 211 ∷ 223 ∷ 227 ∷ 229 ∷ 233 ∷ 239 ∷ 241 ∷ 251 ∷ []

-- p is the number of elements of one of the fields
abbrev pub IsFieldPrime : ℕ → Type 0
IsFieldPrime p = Contains primes p

-- two numbers have the same residue
abbrev pub Congruent : (p a b : ℕ) → Type 0
Congruent p a b = a % p ≡ b % p
