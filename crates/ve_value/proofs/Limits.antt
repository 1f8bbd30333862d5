-- Sums and products within the limits, and refused ones.
use Rattle.std.proofs.Common.{◌≡◌, ◌≢◌, ℕ, ◌+◌, ◌*◌, ◌<◌, ◌≤◌, ◌⊎◌, inl, inr, Bool, true, false, cond, List, [], ◌∷◌, ◌++◌, length, Option, Some, None, Ok, Err, refl, sym, ap, ◌∙◌, subst, arith}
use Rattle.std.specs.Prelude.{nat_lt, ◌&&◌}
use Rattle.std.proofs.lemmas.Bool.{ltb-true, ltb-false}
use Rattle.ve_theory.specs.Elements.{AlgebraElement, IsAlgebraElementOf, algebra_length, product}
use Rattle.ve_theory.specs.Validity.{most_terms, most_length}
use Rattle.ve_formats.specs.Causes.{beyond}
use Rattle.ve_formats.specs.Values.{AddsUp, Multiplies}
use Rattle.ve_formats.specs.Values as values
use Rattle.ve_pres.specs.Limits.{sum_limit, product_limit, IsLimitedBy}
use Rattle.ve_pres.specs.declared.limit.PresFault.{PresFault}
use Rattle.ve_pres.specs.declared.limit.PresFault.TheVariants.{Limit as Exceeds, Memory}
use Rattle.ve_pres.specs.declared.limit.Limit.{Limit}
use Rattle.ve_pres.specs.declared.limit.Limit.TheVariants.{Terms, Length}
use Rattle.ve_value.specs.Faults.{limit_of, of_pres_fault, Tells}

pub sum_limit-cases : (n : ℕ) → ((most_terms < n) × (sum_limit n ≡ Some (Terms n))) ⊎ ((n ≤ most_terms) × (sum_limit n ≡ None))
sum_limit-cases n = by_test (nat_lt most_terms n) refl
  where
    by_test : (b : Bool) → nat_lt most_terms n ≡ b → ((most_terms < n) × (sum_limit n ≡ Some (Terms n))) ⊎ ((n ≤ most_terms) × (sum_limit n ≡ None))
    by_test true is = inl (ltb-true most_terms n is, ap (λ b. cond b (Some (Terms n)) None) is)
    by_test false is = inr (ltb-false most_terms n is, ap (λ b. cond b (Some (Terms n)) None) is)

-- a product of terms, and the length of its words, by the limit that they exceed
pub data Judged (terms length : ℕ) : Option Limit → Type 0 where
  many : most_terms < terms → Judged terms length (Some (Terms terms))
  long : terms ≤ most_terms → 0 < terms → most_length < length → Judged terms length (Some (Length length))
  fine : terms ≤ most_terms → (0 < terms → length ≤ most_length) → Judged terms length None

pub judged : (t n : ℕ) → Judged t n (product_limit t n)
judged t n = by_terms (nat_lt most_terms t) refl
  where
    by_length : t ≤ most_terms → (a b : Bool) → nat_lt 0 t ≡ a → nat_lt most_length n ≡ b → Judged t n (cond (a && b) (Some (Length n)) None)
    by_length few true true some over = long few (ltb-true 0 t some) (ltb-true most_length n over)
    by_length few true false some over = fine few (λ h. ltb-false most_length n over)
    by_length few false b some over = fine few (λ h. let none : t ≤ 0 = ltb-false 0 t some in absurd (omega arith))

    by_terms : (b : Bool) → nat_lt most_terms t ≡ b → Judged t n (product_limit t n)
    by_terms true is = subst (λ b. Judged t n (cond b (Some (Terms t)) (cond (nat_lt 0 t && nat_lt most_length n) (Some (Length n)) None))) (sym is) (many (ltb-true most_terms t is))
    by_terms false is =
        subst (λ b. Judged t n (cond b (Some (Terms t)) (cond (nat_lt 0 t && nat_lt most_length n) (Some (Length n)) None))) (sym is)
        (by_length (ltb-false most_terms t is) _ _ refl refl)

pub adds_up : (p : ℕ) (u v w : AlgebraElement) → IsAlgebraElementOf p w (u ++ v) → sum_limit (length u + length v) ≡ None → AddsUp p u v (Ok w)
adds_up p u v w sums limit = by_cases (sum_limit-cases (length u + length v))
  where
    by_cases : ((most_terms < length u + length v) × (sum_limit (length u + length v) ≡ Some (Terms (length u + length v)))) ⊎ ((length u + length v ≤ most_terms) × (sum_limit (length u + length v) ≡ None)) → AddsUp p u v (Ok w)
    by_cases (inl h) = let no_limit : Some (Terms (length u + length v)) ≡ None = sym h.1 ∙ limit in absurd (cc)
    by_cases (inr h) = values.added w h.0 sums

pub adds_too_many : (p : ℕ) (u v : AlgebraElement) (limit : Limit) → sum_limit (length u + length v) ≡ Some limit → AddsUp p u v (Err (beyond (limit_of limit)))
adds_too_many p u v limit is = by_cases (sum_limit-cases (length u + length v))
  where
    by_cases : ((most_terms < length u + length v) × (sum_limit (length u + length v) ≡ Some (Terms (length u + length v)))) ⊎ ((length u + length v ≤ most_terms) × (sum_limit (length u + length v) ≡ None)) → AddsUp p u v (Err (beyond (limit_of limit)))
    by_cases (inl h) =
        let same : Terms (length u + length v) ≡ limit = (let both : Some (Terms (length u + length v)) ≡ Some limit = sym h.1 ∙ is in (cc)) in
        subst (λ (l : Limit). AddsUp p u v (Err (beyond (limit_of l)))) same (values.too_many h.0)
    by_cases (inr h) = let no_limit : None ≡ Some limit = sym h.1 ∙ is in absurd (cc)

pub some_terms : {X Y : Type 0} (u : List X) (v : List Y) → u ≢ [] → v ≢ [] → 0 < length u * length v
some_terms [] v h k = absurd (h refl)
some_terms (x ∷ u) [] h k = absurd (k refl)
some_terms (x ∷ u) (y ∷ v) h k = omega arith

pub some_left : {X Y : Type 0} (u : List X) (v : List Y) → 0 < length u * length v → u ≢ []
some_left [] v h = absurd (omega arith)
some_left (x ∷ u) v h = λ e. absurd (cc)

pub some_right : {X Y : Type 0} (u : List X) (v : List Y) → 0 < length u * length v → v ≢ []
some_right u [] h = absurd (omega arith)
some_right u (y ∷ v) h = λ e. absurd (cc)

pub multiplies : (p : ℕ) (u v w : AlgebraElement) → IsAlgebraElementOf p w (product u v) → product_limit (length u * length v) (algebra_length u + algebra_length v) ≡ None → Multiplies p u v (Ok w)
multiplies p u v w multiplied limit = by_judged _ (judged (length u * length v) (algebra_length u + algebra_length v)) limit
  where
    by_judged : (l : Option Limit) → Judged (length u * length v) (algebra_length u + algebra_length v) l → l ≡ None → Multiplies p u v (Ok w)
    by_judged _ (many h) is = absurd (cc)
    by_judged _ (long few some over) is = absurd (cc)
    by_judged _ (fine few short) is = values.multiplied w few (λ h k. short (some_terms u v h k)) multiplied

pub multiplies_too_far : (p : ℕ) (u v : AlgebraElement) (limit : Limit) → product_limit (length u * length v) (algebra_length u + algebra_length v) ≡ Some limit → Multiplies p u v (Err (beyond (limit_of limit)))
multiplies_too_far p u v limit is = by_judged _ (judged (length u * length v) (algebra_length u + algebra_length v)) is
  where
    by_judged : (l : Option Limit) → Judged (length u * length v) (algebra_length u + algebra_length v) l → l ≡ Some limit → Multiplies p u v (Err (beyond (limit_of limit)))
    by_judged _ (many h) is =
        let same : Terms (length u * length v) ≡ limit = (cc) in
        subst (λ (l : Limit). Multiplies p u v (Err (beyond (limit_of l)))) same (values.too_many h)
    by_judged _ (long few some over) is =
        let same : Length (algebra_length u + algebra_length v) ≡ limit = (cc) in
        subst (λ (l : Limit). Multiplies p u v (Err (beyond (limit_of l)))) same (values.too_long few (some_left u v some) (some_right u v some) over)
    by_judged _ (fine few short) is = absurd (cc)

-- what refusals tell

pub sum_refused : (p : ℕ) (u v : AlgebraElement) (fault : PresFault) → IsLimitedBy {X = AlgebraElement} (sum_limit (length u + length v)) (Err fault)
    → Tells (λ cause. AddsUp p u v (Err cause)) (of_pres_fault fault)
sum_refused p u v (Exceeds limit) h = adds_too_many p u v limit h
sum_refused p u v Memory h = refl

pub product_refused : (p : ℕ) (u v : AlgebraElement) (fault : PresFault)
    → IsLimitedBy {X = AlgebraElement} (product_limit (length u * length v) (algebra_length u + algebra_length v)) (Err fault) → Tells (λ cause. Multiplies p u v (Err cause)) (of_pres_fault fault)
product_refused p u v (Exceeds limit) h = multiplies_too_far p u v limit h
product_refused p u v Memory h = refl
