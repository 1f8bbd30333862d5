-- What expressions of the module are worth in a presentation, and the first fault of those that have no value.
use Rattle.std.specs.Prelude.{◌≡◌, ◌≢◌, ℕ, ◌+◌, ◌*◌, ◌-◌, ◌<◌, ◌≤◌, List, [], ◌∷◌, ◌++◌, length, Option, Some, None, Result, Ok, Err, All, decimal}
use Rattle.ve_theory.specs.Combinations.{scaled, unit, IsReduced}
use Rattle.ve_theory.specs.Words as words
use Rattle.ve_theory.specs.Words.{Shortlex}
use Rattle.ve_theory.specs.Elements.{AlgebraElement, Element, IsElementOf, algebra_length, element_length, element_times}
use Rattle.ve_theory.specs.Presentations.{Presentation, IsWord}
use Rattle.ve_theory.specs.Validity.{most_terms, most_length}
use Rattle.ve_formats.specs.Causes as why
use Rattle.ve_formats.specs.Causes.{Cause, beyond}
use Rattle.ve_formats.specs.Expressions.{Expression}
use Rattle.ve_formats.specs.ModuleExpressions.{ModuleExpression, nothing, generator, product, opposite, sum, difference}
use Rattle.ve_formats.specs.Values.{HasValue}

-- a list of terms of the presentation's free module, within the limits of elements
pub record IsModuleValue (P : Presentation) (v : Element) : Type 0 where
  pub reduced : IsReduced Shortlex P.prime v
  pub words : All (λ t. IsWord P t.0) v
  pub terms : length v ≤ most_terms
  pub short : element_length v ≤ most_length

pub data ModuleAddsUp (p : ℕ) (u v : Element) : Result Element Cause → Type 0 where
  added : (w : Element) → length u + length v ≤ most_terms → IsElementOf p w (u ++ v) → ModuleAddsUp p u v (Ok w)
  too_many : most_terms < length u + length v → ModuleAddsUp p u v (Err (beyond (why.terms (length u + length v))))

pub data ModuleMultiplies (p : ℕ) (u : Element) (r : AlgebraElement) : Result Element Cause → Type 0 where
  multiplied : (w : Element) → length u * length r ≤ most_terms → (u ≢ [] → r ≢ [] → element_length u + algebra_length r ≤ most_length)
      → IsElementOf p w (element_times u r) → ModuleMultiplies p u r (Ok w)
  too_many : most_terms < length u * length r → ModuleMultiplies p u r (Err (beyond (why.terms (length u * length r))))
  too_long : length u * length r ≤ most_terms → u ≢ [] → r ≢ [] → most_length < element_length u + algebra_length r
      → ModuleMultiplies p u r (Err (beyond (why.length (element_length u + algebra_length r))))

-- the name of a generator: e and its number from 1, without leading zeros
abbrev pub IsGenerator : Presentation → List ℕ → ℕ → Type 0
IsGenerator P e i = (i < P.generators) × (e ≡ 101 ∷ decimal (i + 1))

-- the number before a generator, 1 where none stands
abbrev pub multiple : Option ℕ → ℕ
multiple None = 1
multiple (Some n) = n

abbrev pub IsModuleNegative : ℕ → Element → Element → Type 0
IsModuleNegative p u v = IsElementOf p v (scaled (p - 1) u)

pub data HasModuleValue (P : Presentation) : ModuleExpression → Result Element Cause → Type 0 where
  of_zero : HasModuleValue P nothing (Ok [])
  of_generator : {n : Option ℕ} {e : List ℕ} {i : ℕ} {v : Element} → IsGenerator P e i → IsElementOf P.prime v (scaled (multiple n) (unit (words.generator i)))
      → HasModuleValue P (generator n e) (Ok v)
  of_unknown : {n : Option ℕ} {e : List ℕ} → ((i : ℕ) → ¬ IsGenerator P e i) → HasModuleValue P (generator n e) (Err why.unknown_name)
  of_product : {d : ModuleExpression} {e : Expression} {u : Element} {v : AlgebraElement} {r : Result Element Cause} → HasModuleValue P d (Ok u) → HasValue P e (Ok v)
      → ModuleMultiplies P.prime u v r → HasModuleValue P (product d e) r
  of_product_left : {d : ModuleExpression} {e : Expression} {cause : Cause} → HasModuleValue P d (Err cause) → HasModuleValue P (product d e) (Err cause)
  of_product_right : {d : ModuleExpression} {e : Expression} {u : Element} {cause : Cause} → HasModuleValue P d (Ok u) → HasValue P e (Err cause)
      → HasModuleValue P (product d e) (Err cause)
  of_opposite : {e : ModuleExpression} {u v : Element} → HasModuleValue P e (Ok u) → IsModuleNegative P.prime u v → HasModuleValue P (opposite e) (Ok v)
  of_faulty_opposite : {e : ModuleExpression} {cause : Cause} → HasModuleValue P e (Err cause) → HasModuleValue P (opposite e) (Err cause)
  of_sum : {d e : ModuleExpression} {u v : Element} {r : Result Element Cause} → HasModuleValue P d (Ok u) → HasModuleValue P e (Ok v)
      → ModuleAddsUp P.prime u v r → HasModuleValue P (sum d e) r
  of_sum_left : {d e : ModuleExpression} {cause : Cause} → HasModuleValue P d (Err cause) → HasModuleValue P (sum d e) (Err cause)
  of_sum_right : {d e : ModuleExpression} {u : Element} {cause : Cause} → HasModuleValue P d (Ok u) → HasModuleValue P e (Err cause)
      → HasModuleValue P (sum d e) (Err cause)
  of_difference : {d e : ModuleExpression} {u v w : Element} {r : Result Element Cause} → HasModuleValue P d (Ok u) → HasModuleValue P e (Ok v)
      → IsModuleNegative P.prime v w → ModuleAddsUp P.prime u w r → HasModuleValue P (difference d e) r
  of_difference_left : {d e : ModuleExpression} {cause : Cause} → HasModuleValue P d (Err cause) → HasModuleValue P (difference d e) (Err cause)
  of_difference_right : {d e : ModuleExpression} {u : Element} {cause : Cause} → HasModuleValue P d (Ok u) → HasModuleValue P e (Err cause)
      → HasModuleValue P (difference d e) (Err cause)
