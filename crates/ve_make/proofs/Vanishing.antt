-- The elements that vanish, as reduced lists.
use Rattle.std.specs.Prelude.{◌≡◌, ℕ, zero, suc, ◌+◌, ◌-◌, ◌*◌, ◌<◌, ◌≤◌, List, [], ◌∷◌, ◌++◌, length, replicate, Some, None, Err, nat_lt, nat_eq, ◌&&◌, cond}
use Rattle.std.specs.List.{concat}
use Rattle.std.proofs.Common.{refl, ap, sym, subst, ◌∙◌, inl, arith}
use Rattle.std.proofs.lemmas.Bool.{cond_both, ltb-true, and_parts}
use Rattle.std.proofs.lemmas.Grind.{replicate_next}
use Rattle.std.proofs.lemmas.List.Folds.{concat-append}
use Rattle.ve_theory.specs.Combinations.{unit, scaled, IsReduced, AllBefore}
use Rattle.ve_theory.specs.Words.{Word, generator, times, times_all, letters, Shortlex, ShortlexLetters}
use Rattle.ve_theory.specs.Elements.{AlgebraElement, Element, IsAlgebraElementOf, IsElementOf, product, letters_times, word_times, element_times, greatest, algebra_length, element_length}
use Rattle.ve_theory.specs.Laws.{ReducedListsAreUnique}
use Rattle.ve_theory.specs.Validity.{most_length, most_terms}
use Rattle.ve_pres.specs.Limits.{IsLimitedBy, product_limit, sum_limit}
use Rattle.ve_pres.specs.Powers.{Reaches, first, next, limit_of_product, IsRefusedPower, IsPowerResult}
use Rattle.ve_pres.specs.declared.limit.Limit.{Limit}
use Rattle.ve_pres.specs.declared.limit.Limit.TheVariants.{Terms, Length}
use Rattle.ve_pres.specs.declared.limit.PresFault.{PresFault}
use Rattle.ve_pres.specs.declared.limit.PresFault.TheVariants.{Limit as Exceeds}
use Rattle.ve_make.specs.Symmetric.{product_power, product_order, order_relation, fixing_relation}

-- ---- reduced lists

pub same_algebra : ReducedListsAreUnique → (p : ℕ) (r e : AlgebraElement) → IsReduced ShortlexLetters p e → IsAlgebraElementOf p r e → r ≡ e
same_algebra law p r e reduced is = law.algebra p r e is.reduced reduced is.alike

pub same_element : ReducedListsAreUnique → (p : ℕ) (v e : Element) → IsReduced Shortlex p e → IsElementOf p v e → v ≡ e
same_element law p v e reduced is = law.elements p v e is.reduced reduced is.alike

pub unit_reduced : (p : ℕ) (u : List ℕ) → 1 < p → IsReduced ShortlexLetters p (unit u)
unfolding IsReduced AllBefore
unit_reduced p u h = (omega arith, h, tt, tt)

pub word_reduced : (p : ℕ) (w : Word) → 1 < p → IsReduced Shortlex p (unit w)
unfolding IsReduced AllBefore
word_reduced p w h = (omega arith, h, tt, tt)

pub constant_reduced : (p : ℕ) → 1 < p → IsReduced ShortlexLetters p (([], p - 1) ∷ [])
unfolding IsReduced AllBefore
constant_reduced p h = (omega arith, omega arith, tt, tt)

pub generator_reduced : (p : ℕ) → 1 < p → IsReduced Shortlex p ((generator 0, p - 1) ∷ [])
unfolding IsReduced AllBefore
generator_reduced p h = (omega arith, omega arith, tt, tt)

pub less_one_reduced : (p : ℕ) (u : List ℕ) → 1 < p → 0 < length u → IsReduced ShortlexLetters p ((u, 1) ∷ ([], p - 1) ∷ [])
unfolding IsReduced AllBefore ShortlexLetters
less_one_reduced p u h some = (omega arith, h, (inl some, tt), (omega arith, omega arith, tt, tt))

pub fixing_reduced : (p x : ℕ) → 1 < p → IsReduced Shortlex p (fixing_relation p x)
unfolding IsReduced AllBefore Shortlex letters
fixing_reduced p x h = (omega arith, h, (inl (omega arith), tt), (omega arith, omega arith, tt, tt))

-- ---- products

pub unit_product : (u v : List ℕ) → product (unit u) (unit v) ≡ unit (u ++ v)
unfolding product letters_times scaled
unit_product u v = refl

pub moved : (x : ℕ) → element_times (unit (generator 0)) (unit (x ∷ [])) ≡ unit (times (generator 0) x)
unfolding element_times word_times times_all scaled
moved x = refl

pub negative : (p : ℕ) → scaled (p - 1) (unit (generator 0)) ≡ (generator 0, p - 1) ∷ []
unfolding scaled
negative p = let one : (p - 1) * 1 ≡ p - 1 = omega arith in ap (λ c. (generator 0, c) ∷ []) one

pub length-product_power : (x y order : ℕ) → length (product_power x y order) ≡ 2 * order
length-product_power x y zero = refl
length-product_power x y (suc k) = let rest = length-product_power x y k in omega arith

pub next_power : (x y order : ℕ) → product_power x y order ++ x ∷ y ∷ [] ≡ product_power x y (order + 1)
next_power x y order =
    sym (ap concat (replicate_next order (x ∷ y ∷ [])) ∙ concat-append (replicate order (x ∷ y ∷ [])) ((x ∷ y ∷ []) ∷ []))

pub reached_power : ReducedListsAreUnique → (p x y : ℕ) → 1 < p → (k : ℕ) (v : AlgebraElement) → Reaches p (unit (x ∷ y ∷ [])) k v → v ≡ unit (product_power x y k)
reached_power law p x y h _ _ first = refl
reached_power law p x y h _ _ (next k v w reached room is) =
    let before = reached_power law p x y h k v reached in
    let whole : product v (unit (x ∷ y ∷ [])) ≡ unit (product_power x y (k + 1)) =
    ap (λ u. product u (unit (x ∷ y ∷ []))) before ∙ unit_product (product_power x y k) (x ∷ y ∷ []) ∙ ap unit (next_power x y k) in
    same_algebra law p w _ (unit_reduced p (product_power x y (k + 1)) h) (subst (λ e. IsAlgebraElementOf p w e) whole is)

-- ---- limits that are kept

few_terms : (m : ℕ) (limit : Limit) → m ≤ most_terms → sum_limit m ≡ Some limit → ⊥
few_terms m limit h = cond_both (nat_lt most_terms m) (Some (Terms m)) None (λ o. o ≡ Some limit → ⊥)
    (λ many _. let above = ltb-true most_terms m many in omega arith) (λ _ none. cc)

short_product : (terms length : ℕ) (limit : Limit) → terms ≤ most_terms → length ≤ most_length → product_limit terms length ≡ Some limit → ⊥
short_product terms length limit few short = cond_both (nat_lt most_terms terms) (Some (Terms terms))
    (cond (nat_lt 0 terms && nat_lt most_length length) (Some (Length length)) None) (λ o. o ≡ Some limit → ⊥)
    (λ many _. let above = ltb-true most_terms terms many in omega arith)
    (λ _. cond_both (nat_lt 0 terms && nat_lt most_length length) (Some (Length length)) None (λ o. o ≡ Some limit → ⊥)
    (λ long _. let above = ltb-true most_length length (and_parts (nat_lt 0 terms) (nat_lt most_length length) long).1 in omega arith)
    (λ _ none. cc))

generator_length : element_length (unit (generator 0)) ≡ 0
unfolding greatest letters
generator_length = refl

unit_length : (u : List ℕ) → algebra_length (unit u) ≡ length u
unfolding greatest
unit_length u = omega arith

pub no_sum : (X : Type 0) (m : ℕ) (fault : PresFault) (limit : Limit) → m ≤ most_terms → fault ≡ Exceeds limit → IsLimitedBy {X = X} (sum_limit m) (Err fault) → ⊥
no_sum X m fault limit few is h = few_terms m limit few (subst (λ f. IsLimitedBy {X = X} (sum_limit m) (Err f)) is h)

pub no_unit_product : (X : Type 0) (u v : List ℕ) (r s : AlgebraElement) (fault : PresFault) (limit : Limit) → r ≡ unit u → s ≡ unit v → length u + length v ≤ most_length
    → fault ≡ Exceeds limit → IsLimitedBy {X = X} (product_limit (length r * length s) (algebra_length r + algebra_length s)) (Err fault) → ⊥
no_unit_product X u v r s fault limit r_is s_is short is h =
    let at_units : product_limit (length (unit u) * length (unit v)) (algebra_length (unit u) + algebra_length (unit v)) ≡ Some limit =
    subst (λ r'. product_limit (length r' * length (unit v)) (algebra_length r' + algebra_length (unit v)) ≡ Some limit) r_is
    (subst (λ s'. product_limit (length r * length s') (algebra_length r + algebra_length s') ≡ Some limit) s_is
    (subst (λ f. IsLimitedBy {X = X} (product_limit (length r * length s) (algebra_length r + algebra_length s)) (Err f)) is h)) in
    let left = unit_length u in
    let right = unit_length v in
    short_product 1 (algebra_length (unit u) + algebra_length (unit v)) limit (omega arith) (omega arith) at_units

pub no_move : (X : Type 0) (x : ℕ) (v : Element) (r : AlgebraElement) (fault : PresFault) (limit : Limit) → v ≡ unit (generator 0) → r ≡ unit (x ∷ [])
    → fault ≡ Exceeds limit → IsLimitedBy {X = X} (product_limit (length v * length r) (element_length v + algebra_length r)) (Err fault) → ⊥
no_move X x v r fault limit v_is r_is is h =
    let at_units : product_limit (length (unit (generator 0)) * length (unit (x ∷ []))) (element_length (unit (generator 0)) + algebra_length (unit (x ∷ []))) ≡ Some limit =
    subst (λ v'. product_limit (length v' * length (unit (x ∷ []))) (element_length v' + algebra_length (unit (x ∷ []))) ≡ Some limit) v_is
    (subst (λ r'. product_limit (length v * length r') (element_length v + algebra_length r') ≡ Some limit) r_is
    (subst (λ f. IsLimitedBy {X = X} (product_limit (length v * length r) (element_length v + algebra_length r)) (Err f)) is h)) in
    let left = generator_length in
    let right = unit_length (x ∷ []) in
    short_product 1 (element_length (unit (generator 0)) + algebra_length (unit (x ∷ []))) limit (omega arith) (omega arith) at_units

power_never : ReducedListsAreUnique → (p x y order : ℕ) (limit : Limit) → 1 < p → order ≤ 3 → IsRefusedPower p (unit (x ∷ y ∷ [])) order limit → ⊥
power_never law p x y order limit h small refused =
    let value = reached_power law p x y h refused.reached refused.value refused.is_reached in
    let at_unit : limit_of_product (unit (product_power x y refused.reached)) (unit (x ∷ y ∷ [])) ≡ Some limit =
    subst (λ v. limit_of_product v (unit (x ∷ y ∷ [])) ≡ Some limit) value refused.refused in
    let left = unit_length (product_power x y refused.reached) in
    let right = unit_length (x ∷ y ∷ []) in
    let letters = length-product_power x y refused.reached in
    let below = refused.below in
    short_product 1 (algebra_length (unit (product_power x y refused.reached)) + algebra_length (unit (x ∷ y ∷ []))) limit (omega arith) (omega arith) at_unit

pub no_power : ReducedListsAreUnique → (p x y order : ℕ) (r : AlgebraElement) (fault : PresFault) (limit : Limit) → 1 < p → order ≤ 3 → r ≡ unit (x ∷ y ∷ [])
    → fault ≡ Exceeds limit → IsPowerResult p r order (Err fault) → ⊥
no_power law p x y order r fault limit h small r_is is refused =
    power_never law p x y order limit h small
    (subst (λ r'. IsPowerResult p r' order (Err (Exceeds limit))) r_is (subst (λ f. IsPowerResult p r order (Err f)) is refused))

pub order_reduced : (p x y : ℕ) → 1 < p → IsReduced ShortlexLetters p (order_relation p x y)
order_reduced p x y h =
    let some : 0 < length (product_power x y (product_order x y)) =
    cond_both (nat_eq y (x + 1)) 3 2 (λ n. 0 < length (product_power x y n)) (λ _. omega arith) (λ _. omega arith) in
    less_one_reduced p (product_power x y (product_order x y)) h some

-- a word and a constant are few terms
pub no_pair : (X : Type 0) (p : ℕ) (u : List ℕ) (r s : AlgebraElement) (fault : PresFault) (limit : Limit) → r ≡ unit u → s ≡ ([], p) ∷ []
    → fault ≡ Exceeds limit → IsLimitedBy {X = X} (sum_limit (length r + length s)) (Err fault) → ⊥
no_pair X p u r s fault limit r_is s_is = no_sum X (length r + length s) fault limit (rw (r_is, s_is) (omega arith))

pub no_element_pair : (X : Type 0) (p : ℕ) (w : Word) (v q : Element) (fault : PresFault) (limit : Limit) → v ≡ unit w → q ≡ (generator 0, p) ∷ []
    → fault ≡ Exceeds limit → IsLimitedBy {X = X} (sum_limit (length v + length q)) (Err fault) → ⊥
no_element_pair X p w v q fault limit v_is q_is = no_sum X (length v + length q) fault limit (rw (v_is, q_is) (omega arith))

-- the generator times the opposite of one, and this opposite
pub opposite_generator : ReducedListsAreUnique → (p : ℕ) (one v : Element) (prime : ℕ) → prime ≡ p → 1 < p → one ≡ unit (generator 0)
    → IsElementOf p v (scaled (prime - 1) one) → v ≡ (generator 0, p - 1) ∷ []
opposite_generator law p one v prime prime_is h one_is is =
    same_element law p v ((generator 0, p - 1) ∷ []) (generator_reduced p h)
    (subst (λ e. IsElementOf p v e) (negative p) (subst (λ o. IsElementOf p v (scaled (p - 1) o)) one_is (subst (λ q. IsElementOf p v (scaled (q - 1) one)) prime_is is)))

pub opposite_constant : ReducedListsAreUnique → (p : ℕ) (r : AlgebraElement) (prime : ℕ) → prime ≡ p → 1 < p
    → IsAlgebraElementOf p r (([], prime - 1) ∷ []) → r ≡ ([], p - 1) ∷ []
opposite_constant law p r prime prime_is h is =
    same_algebra law p r (([], p - 1) ∷ []) (constant_reduced p h) (subst (λ q. IsAlgebraElementOf p r (([], q - 1) ∷ [])) prime_is is)
