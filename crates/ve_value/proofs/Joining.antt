-- What a factor adds to a sum and a product that are not finished.
use Rattle.std.proofs.Common.{◌≡◌, ℕ, Bool, true, false, Option, Some, None, Result, Ok, Err, refl, sym, subst, MatchOption, MatchResult}
use Rattle.ve_theory.specs.Combinations.{IsReduced}
use Rattle.ve_theory.specs.Words.{ShortlexLetters}
use Rattle.ve_theory.specs.Elements.{AlgebraElement}
use Rattle.ve_theory.specs.Presentations.{Presentation}
use Rattle.ve_formats.specs.Causes.{Cause}
use Rattle.ve_formats.specs.Expressions as expressions
use Rattle.ve_formats.specs.Expressions.{Expression}
use Rattle.ve_formats.specs.Values as values
use Rattle.ve_formats.specs.Values.{HasValue, AddsUp, Multiplies, IsNegative}
use Rattle.ve_value.specs.declared.fault.ValueFault.{ValueFault}
use Rattle.ve_value.specs.declared.fault.ValueFault.TheVariants.{Memory}
use Rattle.ve_value.specs.Faults.{cause_of, Tells}
use Rattle.ve_value.specs.Given.{Gives}
use Rattle.ve_value.specs.Evaluation.{IsWorth, IsProductOf, IsSumOf}

-- what is told may be weakened
pub tells_more : (Q R : Cause → Type 0) → ((cause : Cause) → Q cause → R cause) → (why : ValueFault) → Tells Q why → Tells R why
tells_more Q R f why h = by_cause (why ≡ Memory) (cause_of why) h
  where
    by_cause : (A : Type 0) (o : Option Cause) → MatchOption o A Q → MatchOption o A R
    by_cause A None h = h
    by_cause A (Some cause) h = f cause h

-- what the product with a factor is, where there is a product so far
abbrev pub Multiplied : ℕ → Option AlgebraElement → AlgebraElement → Result AlgebraElement ValueFault → Type 0
Multiplied p product factor r =
    MatchOption product (r ≡ Ok factor) (λ v. MatchResult r (λ w. Multiplies p v factor (Ok w)) (Tells (λ cause. Multiplies p v factor (Err cause))))

-- what the sum with a term is, where there is a sum so far
abbrev pub Added : ℕ → Option AlgebraElement → AlgebraElement → Result AlgebraElement ValueFault → Type 0
Added p sum term r = MatchOption sum (r ≡ Ok term) (λ v. MatchResult r (λ w. AddsUp p v term (Ok w)) (Tells (λ cause. AddsUp p v term (Err cause))))

along : (P : Presentation) {d e : Expression} (r : Result AlgebraElement ValueFault) → d ≡ e → Gives P d r → Gives P e r
along P r same h = subst (λ e. Gives P e r) same h

product_reduced : (p : ℕ) (u v w : AlgebraElement) (r : Result AlgebraElement Cause) → Multiplies p u v r → r ≡ Ok w → IsReduced ShortlexLetters p w
product_reduced p u v w _ (values.multiplied x few short h) is = let same : x ≡ w = (cc) in subst (IsReduced ShortlexLetters p) same h.reduced
product_reduced p u v w _ (values.too_many h) is = absurd (cc)
product_reduced p u v w _ (values.too_long h k l m) is = absurd (cc)

sum_reduced : (p : ℕ) (u v w : AlgebraElement) (r : Result AlgebraElement Cause) → AddsUp p u v r → r ≡ Ok w → IsReduced ShortlexLetters p w
sum_reduced p u v w _ (values.added x few h) is = let same : x ≡ w = (cc) in subst (IsReduced ShortlexLetters p) same h.reduced
sum_reduced p u v w _ (values.too_many h) is = absurd (cc)

pub times_gives : (P : Presentation) (times : Expression → Expression) (e : Expression) (product : Option AlgebraElement) (factor : AlgebraElement) (r : Result AlgebraElement ValueFault)
    → IsProductOf P times product → IsWorth P e factor → Multiplied P.prime product factor r → Gives P (times e) r
times_gives P times e None factor r is worth h = along P r (sym (is e)) (rw h worth)
times_gives P times e (Some v) factor (Ok w) (d, left, is) worth h =
    along P (Ok w) (sym (is e)) (record { value = values.of_product left.value worth.value h; reduced = product_reduced P.prime v factor w _ h refl })
times_gives P times e (Some v) factor (Err why) (d, left, is) worth h =
    along P (Err why) (sym (is e)) (tells_more (λ cause. Multiplies P.prime v factor (Err cause)) (λ cause. HasValue P (expressions.product d e) (Err cause)) (λ cause many. values.of_product left.value worth.value many) why h)

pub times_passes : (P : Presentation) (times : Expression → Expression) (product : Option AlgebraElement) → IsProductOf P times product
    → (e : Expression) (cause : Cause) → HasValue P e (Err cause) → HasValue P (times e) (Err cause)
times_passes P times None is e cause h = rw (is e) h
times_passes P times (Some v) (d, left, is) e cause h = rw (is e) (values.of_product_right left.value h)

pub joins_passes : (P : Presentation) (joins : Expression → Expression) (negative : Bool) (sum : Option AlgebraElement) → IsSumOf P joins negative sum
    → (e : Expression) (cause : Cause) → HasValue P e (Err cause) → HasValue P (joins e) (Err cause)
joins_passes P joins false None is e cause h = rw (is e) h
joins_passes P joins true None is e cause h = rw (is e) (values.of_faulty_opposite h)
joins_passes P joins false (Some v) (d, left, is) e cause h = rw (is e) (values.of_sum_right left.value h)
joins_passes P joins true (Some v) (d, left, is) e cause h = rw (is e) (values.of_difference_right left.value h)

-- a term that is added
pub added_gives : (P : Presentation) (joins : Expression → Expression) (e : Expression) (sum : Option AlgebraElement) (term : AlgebraElement) (r : Result AlgebraElement ValueFault)
    → IsSumOf P joins false sum → IsWorth P e term → Added P.prime sum term r → Gives P (joins e) r
added_gives P joins e None term r is worth h = along P r (sym (is e)) (rw h worth)
added_gives P joins e (Some v) term (Ok w) (d, left, is) worth h =
    along P (Ok w) (sym (is e)) (record { value = values.of_sum left.value worth.value h; reduced = sum_reduced P.prime v term w _ h refl })
added_gives P joins e (Some v) term (Err why) (d, left, is) worth h =
    along P (Err why) (sym (is e)) (tells_more (λ cause. AddsUp P.prime v term (Err cause)) (λ cause. HasValue P (expressions.sum d e) (Err cause)) (λ cause many. values.of_sum left.value worth.value many) why h)

-- a term that is subtracted
pub subtracted_gives : (P : Presentation) (joins : Expression → Expression) (e : Expression) (sum : Option AlgebraElement) (term opposite : AlgebraElement) (r : Result AlgebraElement ValueFault)
    → IsSumOf P joins true sum → IsWorth P e term → IsNegative P.prime term opposite → Added P.prime sum opposite r → Gives P (joins e) r
subtracted_gives P joins e None term opposite r is worth negative h =
    along P r (sym (is e)) (rw h (record { value = values.of_opposite worth.value negative; reduced = negative.reduced }))
subtracted_gives P joins e (Some v) term opposite (Ok w) (d, left, is) worth negative h =
    along P (Ok w) (sym (is e)) (record { value = values.of_difference left.value worth.value negative h; reduced = sum_reduced P.prime v opposite w _ h refl })
subtracted_gives P joins e (Some v) term opposite (Err why) (d, left, is) worth negative h =
    along P (Err why) (sym (is e))
    (tells_more (λ cause. AddsUp P.prime v opposite (Err cause)) (λ cause. HasValue P (expressions.difference d e) (Err cause)) (λ cause many. values.of_difference left.value worth.value negative many) why h)
