-- What expressions are worth in a presentation, and the first fault of those that have no value. Values are worked out from
-- left to right, inner before outer.
use Rattle.std.specs.Prelude.{◌≡◌, ◌≢◌, ℕ, suc, ◌+◌, ◌*◌, ◌-◌, ◌<◌, ◌≤◌, List, [], ◌∷◌, ◌++◌, length, Some, Result, Ok, Err, slice_get, Contains, All, AllPairs}
use Rattle.ve_theory.specs.Residues.{IsFieldPrime}
use Rattle.ve_theory.specs.Combinations.{scaled, unit, IsReduced}
use Rattle.ve_theory.specs.Words.{ShortlexLetters}
use Rattle.ve_theory.specs.Elements as elements
use Rattle.ve_theory.specs.Elements.{AlgebraElement, IsAlgebraElementOf, algebra_length}
use Rattle.ve_theory.specs.Presentations.{Presentation, letter_count, HasLetters}
use Rattle.ve_theory.specs.Validity.{most_terms, most_length, most_generators}
use Rattle.ve_formats.specs.Causes as why
use Rattle.ve_formats.specs.Causes.{Cause, beyond}
use Rattle.ve_formats.specs.Expressions.{Expression, constant, letter, grouped, power, inverse_power, product, opposite, sum, difference}

-- the presentations in which each expression has a value or a fault: those of which a text has been read so far
pub record IsReadable (P : Presentation) : Type 0 where
  pub field : IsFieldPrime P.prime
  pub distinct : AllPairs ◌≢◌ P.names
  pub generators : P.generators ≤ most_generators
  pub inverses : (x y : ℕ) → slice_get P.inverses x ≡ Some (Some y) → y < letter_count P

-- a list of terms of the presentation's algebra, within the limits of elements
pub record IsAlgebraValue (P : Presentation) (v : AlgebraElement) : Type 0 where
  pub reduced : IsReduced ShortlexLetters P.prime v
  pub letters : All (λ t. HasLetters P t.0) v
  pub terms : length v ≤ most_terms
  pub short : algebra_length v ≤ most_length

-- the letter with a name; its number
abbrev pub HasNumber : List (List ℕ) → List ℕ → ℕ → Type 0
HasNumber names x i = slice_get names i ≡ Some x

-- the sum of two values: too many terms, counted before they are collected, or the list of its terms
pub data AddsUp (p : ℕ) (u v : AlgebraElement) : Result AlgebraElement Cause → Type 0 where
  added : (w : AlgebraElement) → length u + length v ≤ most_terms → IsAlgebraElementOf p w (u ++ v) → AddsUp p u v (Ok w)
  too_many : most_terms < length u + length v → AddsUp p u v (Err (beyond (why.terms (length u + length v))))

-- the product of two values: too many terms, then words too long, or the list of its terms
pub data Multiplies (p : ℕ) (u v : AlgebraElement) : Result AlgebraElement Cause → Type 0 where
  multiplied : (w : AlgebraElement) → length u * length v ≤ most_terms → (u ≢ [] → v ≢ [] → algebra_length u + algebra_length v ≤ most_length)
      → IsAlgebraElementOf p w (elements.product u v) → Multiplies p u v (Ok w)
  too_many : most_terms < length u * length v → Multiplies p u v (Err (beyond (why.terms (length u * length v))))
  too_long : length u * length v ≤ most_terms → u ≢ [] → v ≢ [] → most_length < algebra_length u + algebra_length v
      → Multiplies p u v (Err (beyond (why.length (algebra_length u + algebra_length v))))

-- A power: 1, the value, and then each power before times the value.
pub data HasPower (p : ℕ) (u : AlgebraElement) : ℕ → Result AlgebraElement Cause → Type 0 where
  zeroth : HasPower p u 0 (Ok (unit []))
  first : HasPower p u 1 (Ok u)
  next : {k : ℕ} {v : AlgebraElement} {r : Result AlgebraElement Cause} → HasPower p u (suc k) (Ok v) → Multiplies p v u r → HasPower p u (suc (suc k)) r
  stopped : {k : ℕ} {cause : Cause} → HasPower p u (suc k) (Err cause) → HasPower p u (suc (suc k)) (Err cause)

-- the base of an inverse power is the name of a letter, and this is the letter's inverse
pub record HasInverse (P : Presentation) (base : Expression) (inverse : ℕ) : Type 0 where
  pub name : List ℕ
  pub number : ℕ
  pub is_name : base ≡ letter name
  pub numbered : HasNumber P.names name number
  pub inverted : slice_get P.inverses number ≡ Some (Some inverse)

abbrev pub most_exponent : ℕ
most_exponent = 1000

-- a number is its residue, and zero where that is 0
abbrev pub IsConstant : ℕ → ℕ → AlgebraElement → Type 0
IsConstant p n v = IsAlgebraElementOf p v (scaled n (unit []))

-- the negative of a value
abbrev pub IsNegative : ℕ → AlgebraElement → AlgebraElement → Type 0
IsNegative p u v = IsAlgebraElementOf p v (scaled (p - 1) u)

-- the value of an expression, or its first fault
pub data HasValue (P : Presentation) : Expression → Result AlgebraElement Cause → Type 0 where
  of_constant : (n : ℕ) {v : AlgebraElement} → IsConstant P.prime n v → HasValue P (constant n) (Ok v)
  of_letter : {x : List ℕ} {i : ℕ} → HasNumber P.names x i → HasValue P (letter x) (Ok (unit (i ∷ [])))
  of_unknown : {x : List ℕ} → ¬ Contains P.names x → HasValue P (letter x) (Err why.unknown_name)
  of_group : {e : Expression} {r : Result AlgebraElement Cause} → HasValue P e r → HasValue P (grouped e) r
  -- powers
  of_power : {e : Expression} {k : ℕ} {u : AlgebraElement} {r : Result AlgebraElement Cause} → HasValue P e (Ok u) → k ≤ most_exponent → HasPower P.prime u k r
      → HasValue P (power e k) r
  of_large_power : {e : Expression} {k : ℕ} {u : AlgebraElement} → HasValue P e (Ok u) → most_exponent < k → HasValue P (power e k) (Err why.exponent_too_large)
  of_faulty_base : {e : Expression} {k : ℕ} {cause : Cause} → HasValue P e (Err cause) → HasValue P (power e k) (Err cause)
  -- inverse powers
  of_inverse_power : {e : Expression} {k y : ℕ} {r : Result AlgebraElement Cause} → HasInverse P e y → k ≤ most_exponent → HasPower P.prime (unit (y ∷ [])) k r
      → HasValue P (inverse_power e k) r
  of_large_inverse_power : {e : Expression} {k : ℕ} {u : AlgebraElement} → HasValue P e (Ok u) → most_exponent < k
      → HasValue P (inverse_power e k) (Err why.exponent_too_large)
  of_no_inverse : {e : Expression} {k : ℕ} {u : AlgebraElement} → HasValue P e (Ok u) → k ≤ most_exponent → ((y : ℕ) → ¬ HasInverse P e y)
      → HasValue P (inverse_power e k) (Err why.no_inverse)
  of_faulty_inverse_base : {e : Expression} {k : ℕ} {cause : Cause} → HasValue P e (Err cause) → HasValue P (inverse_power e k) (Err cause)
  -- products
  of_product : {d e : Expression} {u v : AlgebraElement} {r : Result AlgebraElement Cause} → HasValue P d (Ok u) → HasValue P e (Ok v) → Multiplies P.prime u v r
      → HasValue P (product d e) r
  of_product_left : {d e : Expression} {cause : Cause} → HasValue P d (Err cause) → HasValue P (product d e) (Err cause)
  of_product_right : {d e : Expression} {u : AlgebraElement} {cause : Cause} → HasValue P d (Ok u) → HasValue P e (Err cause) → HasValue P (product d e) (Err cause)
  -- sums
  of_opposite : {e : Expression} {u v : AlgebraElement} → HasValue P e (Ok u) → IsNegative P.prime u v → HasValue P (opposite e) (Ok v)
  of_faulty_opposite : {e : Expression} {cause : Cause} → HasValue P e (Err cause) → HasValue P (opposite e) (Err cause)
  of_sum : {d e : Expression} {u v : AlgebraElement} {r : Result AlgebraElement Cause} → HasValue P d (Ok u) → HasValue P e (Ok v) → AddsUp P.prime u v r
      → HasValue P (sum d e) r
  of_sum_left : {d e : Expression} {cause : Cause} → HasValue P d (Err cause) → HasValue P (sum d e) (Err cause)
  of_sum_right : {d e : Expression} {u : AlgebraElement} {cause : Cause} → HasValue P d (Ok u) → HasValue P e (Err cause) → HasValue P (sum d e) (Err cause)
  of_difference : {d e : Expression} {u v w : AlgebraElement} {r : Result AlgebraElement Cause} → HasValue P d (Ok u) → HasValue P e (Ok v) → IsNegative P.prime v w
      → AddsUp P.prime u w r → HasValue P (difference d e) r
  of_difference_left : {d e : Expression} {cause : Cause} → HasValue P d (Err cause) → HasValue P (difference d e) (Err cause)
  of_difference_right : {d e : Expression} {u : AlgebraElement} {cause : Cause} → HasValue P d (Ok u) → HasValue P e (Err cause) → HasValue P (difference d e) (Err cause)
