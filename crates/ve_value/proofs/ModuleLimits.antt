-- Sums and products of the module within the limits, and refused ones.
use Rattle.std.proofs.Common.{◌≡◌, ℕ, ◌+◌, ◌*◌, ◌<◌, ◌≤◌, ◌⊎◌, inl, inr, ◌++◌, length, Option, Some, None, Ok, Err, refl, sym, ◌∙◌, subst}
use Rattle.ve_theory.specs.Elements.{AlgebraElement, Element, IsElementOf, algebra_length, element_length, element_times}
use Rattle.ve_theory.specs.Validity.{most_terms}
use Rattle.ve_formats.specs.Causes.{beyond}
use Rattle.ve_formats.specs.ModuleValues as values
use Rattle.ve_formats.specs.ModuleValues.{ModuleAddsUp, ModuleMultiplies}
use Rattle.ve_pres.specs.Limits.{sum_limit, product_limit, IsLimitedBy}
use Rattle.ve_pres.specs.declared.limit.PresFault.{PresFault}
use Rattle.ve_pres.specs.declared.limit.PresFault.TheVariants.{Limit as Exceeds, Memory}
use Rattle.ve_pres.specs.declared.limit.Limit.{Limit}
use Rattle.ve_pres.specs.declared.limit.Limit.TheVariants.{Terms, Length}
use Rattle.ve_value.specs.Faults.{limit_of, of_pres_fault, Tells}
use Rattle.ve_value.proofs.Limits.{sum_limit-cases, Judged, many, long, fine, judged, some_terms, some_left, some_right}

pub module_adds_up : (p : ℕ) (u v w : Element) → IsElementOf p w (u ++ v) → sum_limit (length u + length v) ≡ None → ModuleAddsUp p u v (Ok w)
module_adds_up p u v w sums limit = by_cases (sum_limit-cases (length u + length v))
  where
    by_cases : ((most_terms < length u + length v) × (sum_limit (length u + length v) ≡ Some (Terms (length u + length v)))) ⊎ ((length u + length v ≤ most_terms) × (sum_limit (length u + length v) ≡ None)) → ModuleAddsUp p u v (Ok w)
    by_cases (inl h) = let no_limit : Some (Terms (length u + length v)) ≡ None = sym h.1 ∙ limit in absurd (cc)
    by_cases (inr h) = values.added w h.0 sums

adds_too_many : (p : ℕ) (u v : Element) (limit : Limit) → sum_limit (length u + length v) ≡ Some limit → ModuleAddsUp p u v (Err (beyond (limit_of limit)))
adds_too_many p u v limit is = by_cases (sum_limit-cases (length u + length v))
  where
    by_cases : ((most_terms < length u + length v) × (sum_limit (length u + length v) ≡ Some (Terms (length u + length v)))) ⊎ ((length u + length v ≤ most_terms) × (sum_limit (length u + length v) ≡ None)) → ModuleAddsUp p u v (Err (beyond (limit_of limit)))
    by_cases (inl h) =
        let same : Terms (length u + length v) ≡ limit = (let both : Some (Terms (length u + length v)) ≡ Some limit = sym h.1 ∙ is in (cc)) in
        subst (λ (l : Limit). ModuleAddsUp p u v (Err (beyond (limit_of l)))) same (values.too_many h.0)
    by_cases (inr h) = let no_limit : None ≡ Some limit = sym h.1 ∙ is in absurd (cc)

pub module_multiplies : (p : ℕ) (u : Element) (r : AlgebraElement) (w : Element) → IsElementOf p w (element_times u r)
    → product_limit (length u * length r) (element_length u + algebra_length r) ≡ None → ModuleMultiplies p u r (Ok w)
module_multiplies p u r w multiplied limit = by_judged _ (judged (length u * length r) (element_length u + algebra_length r)) limit
  where
    by_judged : (l : Option Limit) → Judged (length u * length r) (element_length u + algebra_length r) l → l ≡ None → ModuleMultiplies p u r (Ok w)
    by_judged _ (many h) is = absurd (cc)
    by_judged _ (long few some over) is = absurd (cc)
    by_judged _ (fine few short) is = values.multiplied w few (λ h k. short (some_terms u r h k)) multiplied

multiplies_too_far : (p : ℕ) (u : Element) (r : AlgebraElement) (limit : Limit) → product_limit (length u * length r) (element_length u + algebra_length r) ≡ Some limit
    → ModuleMultiplies p u r (Err (beyond (limit_of limit)))
multiplies_too_far p u r limit is = by_judged _ (judged (length u * length r) (element_length u + algebra_length r)) is
  where
    by_judged : (l : Option Limit) → Judged (length u * length r) (element_length u + algebra_length r) l → l ≡ Some limit → ModuleMultiplies p u r (Err (beyond (limit_of limit)))
    by_judged _ (many h) is =
        let same : Terms (length u * length r) ≡ limit = (cc) in
        subst (λ (l : Limit). ModuleMultiplies p u r (Err (beyond (limit_of l)))) same (values.too_many h)
    by_judged _ (long few some over) is =
        let same : Length (element_length u + algebra_length r) ≡ limit = (cc) in
        subst (λ (l : Limit). ModuleMultiplies p u r (Err (beyond (limit_of l)))) same (values.too_long few (some_left u r some) (some_right u r some) over)
    by_judged _ (fine few short) is = absurd (cc)

-- what refusals tell

pub module_sum_refused : (p : ℕ) (u v : Element) (fault : PresFault) → IsLimitedBy {X = Element} (sum_limit (length u + length v)) (Err fault)
    → Tells (λ cause. ModuleAddsUp p u v (Err cause)) (of_pres_fault fault)
module_sum_refused p u v (Exceeds limit) h = adds_too_many p u v limit h
module_sum_refused p u v Memory h = refl

pub module_product_refused : (p : ℕ) (u : Element) (r : AlgebraElement) (fault : PresFault)
    → IsLimitedBy {X = Element} (product_limit (length u * length r) (element_length u + algebra_length r)) (Err fault) → Tells (λ cause. ModuleMultiplies p u r (Err cause)) (of_pres_fault fault)
module_product_refused p u r (Exceeds limit) h = multiplies_too_far p u r limit h
module_product_refused p u r Memory h = refl
