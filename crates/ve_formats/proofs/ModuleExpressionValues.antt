-- Each expression of the module has exactly one value or first fault.
use Rattle.std.proofs.Common.{◌≡◌, ℕ, zero, suc, ◌+◌, ◌-◌, ◌<◌, ◌≤◌, ◌^◌, ◌⊎◌, inl, inr, true, false, List, [], ◌∷◌, Option, Result, Ok, Err, refl, sym, ap, ◌∙◌, arith, lit<}
use Rattle.std.specs.Prelude.{decimal}
use Rattle.std.proofs.lemmas.Bool.{cases_Bool, cases_order}
use Rattle.ve_theory.specs.Combinations.{scaled, unit}
use Rattle.ve_theory.specs.Words as words
use Rattle.ve_theory.specs.Words.{same_letters}
use Rattle.ve_theory.specs.Elements.{Element, AlgebraElement, IsElementOf}
use Rattle.ve_theory.specs.Presentations.{Presentation}
use Rattle.ve_theory.specs.Laws.{ReducedListsAreUnique}
use Rattle.ve_lemmas.proofs.Words.{same_letters-true}
use Rattle.ve_formats.specs.Causes as why
use Rattle.ve_formats.specs.Causes.{Cause}
use Rattle.ve_formats.specs.Tokens.{number_value}
use Rattle.ve_formats.specs.Expressions.{Expression}
use Rattle.ve_formats.specs.ModuleExpressions.{ModuleExpression, nothing, generator, product, opposite, sum, difference}
use Rattle.ve_formats.specs.Once.{ExactlyOne}
use Rattle.ve_formats.specs.Values.{IsReadable, HasValue}
use Rattle.ve_formats.specs.ModuleValues.{IsGenerator, multiple, HasModuleValue, of_zero, of_generator, of_unknown, of_product, of_product_left, of_product_right, of_opposite, of_faulty_opposite, of_sum, of_sum_left, of_sum_right, of_difference, of_difference_left, of_difference_right}
use Rattle.ve_formats.proofs.Decimals.{number_value-decimal}
use Rattle.ve_formats.proofs.SameNames.{same_letters-false}
use Rattle.ve_formats.proofs.ElementSums.{one_module_list, one_module_sum, one_module_product, after, prime_positive}
use Rattle.ve_formats.proofs.ExpressionValues.{one_value}

-- the name of the generator i
abbrev generator_name : ℕ → List ℕ
generator_name i = 101 ∷ decimal (i + 1)

abbrev Found : List ℕ → ℕ → Type 0
Found e n = ((i : ℕ) × (i < n) × (e ≡ generator_name i)) ⊎ ((i : ℕ) → i < n → e ≡ generator_name i → ⊥)

find : (e : List ℕ) (n : ℕ) → Found e n
find e zero = inr (λ i h k. omega arith)
find e (suc n) = by_last (cases_Bool (same_letters e (generator_name n))) (find e n)
  where
    by_last : (same_letters e (generator_name n) ≡ true) ⊎ (same_letters e (generator_name n) ≡ false) → Found e n → Found e (suc n)
    by_last (inl same) earlier = inl (n, omega arith, same_letters-true e (generator_name n) same)
    by_last (inr other) (inl (i, h, k)) = inl (i, omega arith, k)
    by_last (inr other) (inr none) = inr elsewhere
      where
        elsewhere : (i : ℕ) → i < suc n → e ≡ generator_name i → ⊥
        elsewhere i h k = by_place (cases_order i n)
          where
            by_place : (i ≡ n) ⊎ ((i < n) ⊎ (n < i)) → ⊥
            by_place (inl same) = same_letters-false e (generator_name n) other (k ∙ ap generator_name same)
            by_place (inr (inl less)) = none i less k
            by_place (inr (inr more)) = omega arith

module _ (unique : ReducedListsAreUnique) (P : Presentation) (readable : IsReadable P) where
  some : 0 < P.prime
  some = prime_positive P.prime readable.field

  list_of : Element → Element
  list_of e = (one_module_list unique P.prime some e).it

  abbrev negative : Element → Element
  negative u = list_of (scaled (P.prime - 1) u)

  abbrev plus : Element → Element → Result Element Cause
  plus u v = (one_module_sum unique P.prime some u v).it

  abbrev times : Element → AlgebraElement → Result Element Cause
  times u v = (one_module_product unique P.prime some u v).it

  algebra_value : Expression → Result AlgebraElement Cause
  algebra_value e = (one_value unique P readable e).it

  abbrev join : {X Y : Type 0} → (X → Y → Result Element Cause) → Result X Cause → Result Y Cause → Result Element Cause
  join f r s = after (λ u. after (λ v. f u v) s) r

  same_generator : {e : List ℕ} {i j : ℕ} → IsGenerator P e i → IsGenerator P e j → i ≡ j
  same_generator {e} {i} {j} h k =
      let most : P.generators ≤ 255 = readable.generators in
      let small : 256 < 2 ^ 64 = lit< tt in
      let names : 101 ∷ decimal (i + 1) ≡ 101 ∷ decimal (j + 1) = sym h.1 ∙ k.1 in
      let digits : decimal (i + 1) ≡ decimal (j + 1) = (cc) in
      let numbers : i + 1 ≡ j + 1 = sym (number_value-decimal (i + 1) (omega (arith, h.0))) ∙ (ap number_value digits ∙ number_value-decimal (j + 1) (omega (arith, k.0))) in
      omega arith

  generator_value : (n : Option ℕ) {e : List ℕ} → Found e P.generators → Result Element Cause
  generator_value n (inl (i, h, k)) = Ok (list_of (scaled (multiple n) (unit (words.generator i))))
  generator_value n (inr none) = Err why.unknown_name

  module_value : ModuleExpression → Result Element Cause
  module_value nothing = Ok []
  module_value (generator n e) = generator_value n (find e P.generators)
  module_value (product d e) = join times (module_value d) (algebra_value e)
  module_value (opposite e) = after (λ u. Ok (negative u)) (module_value e)
  module_value (sum d e) = join plus (module_value d) (module_value e)
  module_value (difference d e) = join (λ u v. plus u (negative v)) (module_value d) (module_value e)

  has_generator : (n : Option ℕ) (e : List ℕ) (found : Found e P.generators) → HasModuleValue P (generator n e) (generator_value n found)
  unfolding generator_value list_of
  has_generator n e (inl (i, h, k)) = of_generator (h, k) (one_module_list unique P.prime some (scaled (multiple n) (unit (words.generator i)))).holds
  has_generator n e (inr none) = of_unknown (λ i h. none i h.0 h.1)

  has_product : (d : ModuleExpression) (e : Expression) (r : Result Element Cause) (s : Result AlgebraElement Cause) → HasModuleValue P d r → HasValue P e s
      → HasModuleValue P (product d e) (join times r s)
  has_product d e (Err cause) s h k = of_product_left h
  has_product d e (Ok u) (Err cause) h k = of_product_right h k
  has_product d e (Ok u) (Ok v) h k = of_product h k (one_module_product unique P.prime some u v).holds

  has_opposite : (e : ModuleExpression) (r : Result Element Cause) → HasModuleValue P e r → HasModuleValue P (opposite e) (after (λ u. Ok (negative u)) r)
  unfolding list_of
  has_opposite e (Err cause) h = of_faulty_opposite h
  has_opposite e (Ok u) h = of_opposite h (one_module_list unique P.prime some (scaled (P.prime - 1) u)).holds

  has_sum : (d e : ModuleExpression) (r s : Result Element Cause) → HasModuleValue P d r → HasModuleValue P e s → HasModuleValue P (sum d e) (join plus r s)
  has_sum d e (Err cause) s h k = of_sum_left h
  has_sum d e (Ok u) (Err cause) h k = of_sum_right h k
  has_sum d e (Ok u) (Ok v) h k = of_sum h k (one_module_sum unique P.prime some u v).holds

  has_difference : (d e : ModuleExpression) (r s : Result Element Cause) → HasModuleValue P d r → HasModuleValue P e s
      → HasModuleValue P (difference d e) (join (λ u v. plus u (negative v)) r s)
  unfolding list_of
  has_difference d e (Err cause) s h k = of_difference_left h
  has_difference d e (Ok u) (Err cause) h k = of_difference_right h k
  has_difference d e (Ok u) (Ok v) h k =
      of_difference h k (one_module_list unique P.prime some (scaled (P.prime - 1) v)).holds (one_module_sum unique P.prime some u (negative v)).holds

  has_module_value : (e : ModuleExpression) → HasModuleValue P e (module_value e)
  unfolding module_value algebra_value
  has_module_value nothing = of_zero
  has_module_value (generator n e) = has_generator n e (find e P.generators)
  has_module_value (product d e) = has_product d e (module_value d) (algebra_value e) (has_module_value d) (one_value unique P readable e).holds
  has_module_value (opposite e) = has_opposite e (module_value e) (has_module_value e)
  has_module_value (sum d e) = has_sum d e (module_value d) (module_value e) (has_module_value d) (has_module_value e)
  has_module_value (difference d e) = has_difference d e (module_value d) (module_value e) (has_module_value d) (has_module_value e)

  generator_is : (n : Option ℕ) (e : List ℕ) (i : ℕ) (v : Element) → IsGenerator P e i → IsElementOf P.prime v (scaled (multiple n) (unit (words.generator i)))
      → (found : Found e P.generators) → Ok v ≡ generator_value n found
  unfolding generator_value list_of
  generator_is n e i v h k (inr none) = absurd (none i h.0 h.1)
  generator_is n e i v h k (inl (j, within, name)) =
      ap (λ v. Ok v) ((one_module_list unique P.prime some (scaled (multiple n) (unit (words.generator i)))).only v k)
      ∙ ap (λ m. Ok (list_of (scaled (multiple n) (unit (words.generator m))))) (same_generator h (within, name))

  unknown_is : (n : Option ℕ) (e : List ℕ) → ((i : ℕ) → IsGenerator P e i → ⊥) → (found : Found e P.generators) → Err why.unknown_name ≡ generator_value n found
  unfolding generator_value
  unknown_is n e none (inl (j, within, name)) = absurd (none j (within, name))
  unknown_is n e none (inr h) = refl

  join_is : {X Y : Type 0} (f : X → Y → Result Element Cause) {u : X} {v : Y} {r : Result X Cause} {s : Result Y Cause} → Ok u ≡ r → Ok v ≡ s → f u v ≡ join f r s
  join_is f h k = (λ i. join f (h i) (k i))

  join_left : {X Y : Type 0} (f : X → Y → Result Element Cause) {cause : Cause} {r : Result X Cause} (s : Result Y Cause) → Err cause ≡ r → Err cause ≡ join f r s
  join_left f s h = ap (λ r. join f r s) h

  join_right : {X Y : Type 0} (f : X → Y → Result Element Cause) {u : X} {cause : Cause} {r : Result X Cause} {s : Result Y Cause} → Ok u ≡ r → Err cause ≡ s → Err cause ≡ join f r s
  join_right f h k = (λ i. join f (h i) (k i))

  algebra_is : {e : Expression} {r : Result AlgebraElement Cause} → HasValue P e r → r ≡ algebra_value e
  unfolding algebra_value
  algebra_is {e} {r} h = (one_value unique P readable e).only r h

  module_value_is : {e : ModuleExpression} {r : Result Element Cause} → HasModuleValue P e r → r ≡ module_value e
  unfolding module_value list_of
  module_value_is of_zero = refl
  module_value_is (of_generator {n} {e} {i} {v} h k) = generator_is n e i v h k (find e P.generators)
  module_value_is (of_unknown {n} {e} none) = unknown_is n e none (find e P.generators)
  module_value_is (of_product {u} {v} {r} h k m) = (one_module_product unique P.prime some u v).only r m ∙ join_is times (module_value_is h) (algebra_is k)
  module_value_is (of_product_left {e} h) = join_left times (algebra_value e) (module_value_is h)
  module_value_is (of_product_right h k) = join_right times (module_value_is h) (algebra_is k)
  module_value_is (of_opposite {u} {v} h m) =
      ap (λ v. Ok v) ((one_module_list unique P.prime some (scaled (P.prime - 1) u)).only v m) ∙ ap (after (λ u. Ok (negative u))) (module_value_is h)
  module_value_is (of_faulty_opposite h) = ap (after (λ u. Ok (negative u))) (module_value_is h)
  module_value_is (of_sum {u} {v} {r} h k m) = (one_module_sum unique P.prime some u v).only r m ∙ join_is plus (module_value_is h) (module_value_is k)
  module_value_is (of_sum_left {e} h) = join_left plus (module_value e) (module_value_is h)
  module_value_is (of_sum_right h k) = join_right plus (module_value_is h) (module_value_is k)
  module_value_is (of_difference {u} {v} {w} {r} h k n m) =
      (one_module_sum unique P.prime some u w).only r m ∙ ap (plus u) ((one_module_list unique P.prime some (scaled (P.prime - 1) v)).only w n)
      ∙ join_is (λ u v. plus u (negative v)) (module_value_is h) (module_value_is k)
  module_value_is (of_difference_left {e} h) = join_left (λ u v. plus u (negative v)) (module_value e) (module_value_is h)
  module_value_is (of_difference_right h k) = join_right (λ u v. plus u (negative v)) (module_value_is h) (module_value_is k)

  pub one_module_value : (e : ModuleExpression) → ExactlyOne (HasModuleValue P e)
  one_module_value e = record { it = module_value e; holds = has_module_value e; only = λ r h. module_value_is h }
