-- What a term adds to a sum of the module that is not finished, and a factor to a term.
use Rattle.std.proofs.Common.{◌≡◌, ℕ, Bool, true, false, Option, Some, None, Result, Ok, Err, refl, sym, subst, MatchOption, MatchResult}
use Rattle.ve_theory.specs.Combinations.{IsReduced}
use Rattle.ve_theory.specs.Words.{Shortlex}
use Rattle.ve_theory.specs.Elements.{AlgebraElement, Element}
use Rattle.ve_theory.specs.Presentations.{Presentation}
use Rattle.ve_formats.specs.Causes.{Cause}
use Rattle.ve_formats.specs.Expressions.{Expression}
use Rattle.ve_formats.specs.ModuleExpressions as expressions
use Rattle.ve_formats.specs.ModuleExpressions.{ModuleExpression}
use Rattle.ve_formats.specs.ModuleValues as values
use Rattle.ve_formats.specs.ModuleValues.{HasModuleValue, ModuleAddsUp, ModuleMultiplies, IsModuleNegative}
use Rattle.ve_value.specs.declared.fault.ValueFault.{ValueFault}
use Rattle.ve_value.specs.Faults.{Tells}
use Rattle.ve_value.specs.Evaluation.{IsWorth}
use Rattle.ve_value.specs.Given.{IsModuleWorth, GivesModule}
use Rattle.ve_value.specs.ModuleEvaluation.{IsModuleSumOf, Passes}
use Rattle.ve_value.proofs.Joining.{tells_more}

-- what the sum with a term is, where there is a sum so far
abbrev pub ModuleAdded : ℕ → Option Element → Element → Result Element ValueFault → Type 0
ModuleAdded p sum term r = MatchOption sum (r ≡ Ok term) (λ v. MatchResult r (λ w. ModuleAddsUp p v term (Ok w)) (Tells (λ cause. ModuleAddsUp p v term (Err cause))))

along : (P : Presentation) {m n : ModuleExpression} (r : Result Element ValueFault) → m ≡ n → GivesModule P m r → GivesModule P n r
along P r same h = subst (λ (n : ModuleExpression). GivesModule P n r) same h

sum_reduced : (p : ℕ) (u v w : Element) (r : Result Element Cause) → ModuleAddsUp p u v r → r ≡ Ok w → IsReduced Shortlex p w
sum_reduced p u v w _ (values.added x few h) is = let same : x ≡ w = (cc) in subst (IsReduced Shortlex p) same h.reduced
sum_reduced p u v w _ (values.too_many h) is = absurd (cc)

product_reduced : (p : ℕ) (u : Element) (v : AlgebraElement) (w : Element) (r : Result Element Cause) → ModuleMultiplies p u v r → r ≡ Ok w → IsReduced Shortlex p w
product_reduced p u v w _ (values.multiplied x few short h) is = let same : x ≡ w = (cc) in subst (IsReduced Shortlex p) same h.reduced
product_reduced p u v w _ (values.too_many h) is = absurd (cc)
product_reduced p u v w _ (values.too_long h k l m) is = absurd (cc)

pub module_times_gives : (P : Presentation) (m : ModuleExpression) (e : Expression) (u w : Element) (v : AlgebraElement) → IsModuleWorth P m u → IsWorth P e v → ModuleMultiplies P.prime u v (Ok w)
    → IsModuleWorth P (expressions.product m e) w
module_times_gives P m e u w v left right h = record { value = values.of_product left.value right.value h; reduced = product_reduced P.prime u v w _ h refl }

pub sum_passes : (P : Presentation) (joins : ModuleExpression → ModuleExpression) (negative : Bool) (sum : Option Element) → IsModuleSumOf P joins negative sum → Passes P joins
sum_passes P joins false None is n cause h = rw (is n) h
sum_passes P joins true None is n cause h = rw (is n) (values.of_faulty_opposite h)
sum_passes P joins false (Some v) (m, left, is) n cause h = rw (is n) (values.of_sum_right left.value h)
sum_passes P joins true (Some v) (m, left, is) n cause h = rw (is n) (values.of_difference_right left.value h)

-- a term that is added
pub term_added : (P : Presentation) (joins : ModuleExpression → ModuleExpression) (n : ModuleExpression) (sum : Option Element) (term : Element) (r : Result Element ValueFault)
    → IsModuleSumOf P joins false sum → IsModuleWorth P n term → ModuleAdded P.prime sum term r → GivesModule P (joins n) r
term_added P joins n None term r is worth h = along P r (sym (is n)) (rw h worth)
term_added P joins n (Some v) term (Ok w) (m, left, is) worth h =
    along P (Ok w) (sym (is n)) (record { value = values.of_sum left.value worth.value h; reduced = sum_reduced P.prime v term w _ h refl })
term_added P joins n (Some v) term (Err why) (m, left, is) worth h =
    along P (Err why) (sym (is n))
    (tells_more (λ cause. ModuleAddsUp P.prime v term (Err cause)) (λ cause. HasModuleValue P (expressions.sum m n) (Err cause)) (λ cause many. values.of_sum left.value worth.value many) why h)

-- a term that is subtracted
pub term_subtracted : (P : Presentation) (joins : ModuleExpression → ModuleExpression) (n : ModuleExpression) (sum : Option Element) (term opposite : Element) (r : Result Element ValueFault)
    → IsModuleSumOf P joins true sum → IsModuleWorth P n term → IsModuleNegative P.prime term opposite → ModuleAdded P.prime sum opposite r → GivesModule P (joins n) r
term_subtracted P joins n None term opposite r is worth negative h =
    along P r (sym (is n)) (rw h (record { value = values.of_opposite worth.value negative; reduced = negative.reduced }))
term_subtracted P joins n (Some v) term opposite (Ok w) (m, left, is) worth negative h =
    along P (Ok w) (sym (is n)) (record { value = values.of_difference left.value worth.value negative h; reduced = sum_reduced P.prime v opposite w _ h refl })
term_subtracted P joins n (Some v) term opposite (Err why) (m, left, is) worth negative h =
    along P (Err why) (sym (is n))
    (tells_more (λ cause. ModuleAddsUp P.prime v opposite (Err cause)) (λ cause. HasModuleValue P (expressions.difference m n) (Err cause)) (λ cause many. values.of_difference left.value worth.value negative many) why h)
