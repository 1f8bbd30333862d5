-- What a line does to a draft is unique.
use Rattle.std.proofs.Common.{◌≡◌, ℕ, zero, suc, ◌+◌, ◌<◌, ◌≤◌, ◌⊎◌, inl, inr, true, false, List, [], ◌∷◌, length, get_or, Contains, Option, Some, None, Result, Ok, Err, refl, ap, ◌∙◌, arith}
use Rattle.std.proofs.lemmas.Bool.{cases_lt, cases_order, cases_Bool}
use Rattle.ve_theory.specs.Residues.{IsFieldPrime, primes}
use Rattle.ve_theory.specs.Elements.{AlgebraElement, Element, IsAlgebraElementOf, halved}
use Rattle.ve_theory.specs.Presentations.{Presentation}
use Rattle.ve_theory.specs.Laws.{ReducedListsAreUnique}
use Rattle.ve_theory.specs.Validity.{most_letters, most_generators, most_relations, most_cells, is_rooted, algebra_cells, element_cells, cells}
use Rattle.ve_theory.specs.Presentations.{most_weight}
use Rattle.ve_lemmas.proofs.Lists.{Contains-slice_get}
use Rattle.ve_formats.specs.Causes as why
use Rattle.ve_formats.specs.Causes.{Cause, beyond}
use Rattle.ve_formats.specs.Expressions as algebra
use Rattle.ve_formats.specs.Expressions.{Expression}
use Rattle.ve_formats.specs.ModuleExpressions as modules
use Rattle.ve_formats.specs.ModuleExpressions.{ModuleExpression}
use Rattle.ve_formats.specs.Once.{ExactlyOne}
use Rattle.ve_formats.specs.Values.{IsReadable, HasValue}
use Rattle.ve_formats.specs.ModuleValues.{HasModuleValue}
use Rattle.ve_formats.specs.PresentationLines.{Declared, Line, version, prime, letter, pair, involution, generators, balance, relation, submodule, end, Draft, after_version, among_letters, after_generators, among_relations, after_end, weight_of, with_letter, with_first, Declares, free, rooted, taken, full, misweighed, IsRelatorOf, moved, with_relation, with_submodule, Works, takes_version, takes_prime, refuses_prime, takes_letter, refuses_letter, takes_involution, refuses_involution, takes_pair, refuses_first, refuses_second, takes_generators, refuses_generators, takes_balance, takes_end, takes_relation, refuses_count, refuses_value, refuses_room, takes_submodule, refuses_submodule_count, refuses_submodule_value, refuses_submodule_room}
use Rattle.ve_formats.proofs.ElementSums.{one_list, after, prime_positive}
use Rattle.ve_formats.proofs.ExpressionValues.{one_value, place, Placed}
use Rattle.ve_formats.proofs.ModuleExpressionValues.{one_module_value}

-- whether a number is in a list
listed : (ns : List ℕ) (n : ℕ) → Contains ns n ⊎ (Contains ns n → ⊥)
listed [] n = inr (λ h. omega (arith, h.1))
listed (m ∷ ns) n = by_first (cases_order m n) (listed ns n)
  where
    by_first : (m ≡ n) ⊎ ((m < n) ⊎ (n < m)) → Contains ns n ⊎ (Contains ns n → ⊥) → Contains (m ∷ ns) n ⊎ (Contains (m ∷ ns) n → ⊥)
    by_first (inl same) later = inl (0, omega arith, same)
    by_first (inr other) (inl (k, within, is)) = inl (suc k, omega arith, is)
    by_first (inr other) (inr absent) = inr elsewhere
      where
        differs : (m < n) ⊎ (n < m) → m ≡ n → ⊥
        differs (inl h) e = omega arith
        differs (inr h) e = omega arith

        at_place : (k : ℕ) → k < length (m ∷ ns) → get_or (m ∷ ns) k n ≡ n → ⊥
        at_place zero within is = differs other is
        at_place (suc k) within is = absent (k, omega arith, is)

        elsewhere : Contains (m ∷ ns) n → ⊥
        elsewhere h = at_place h.0 h.1 h.2

-- declaring a letter

module _ (P : Presentation) (x : Declared) where
  declared_rooted : is_rooted x.called ≡ true → (o : Option Cause) → Declares P x o → o ≡ Some why.name_taken
  declared_rooted is _ (free absent plain room light heavy) = absurd (cc)
  declared_rooted is _ (rooted h) = refl
  declared_rooted is _ (taken h) = refl
  declared_rooted is _ (full absent plain room) = absurd (cc)
  declared_rooted is _ (misweighed absent plain room weight) = absurd (cc)

  declared_taken : Contains P.names x.called → (o : Option Cause) → Declares P x o → o ≡ Some why.name_taken
  declared_taken is _ (free absent plain room light heavy) = absurd (absent is)
  declared_taken is _ (rooted h) = refl
  declared_taken is _ (taken h) = refl
  declared_taken is _ (full absent plain room) = absurd (absent is)
  declared_taken is _ (misweighed absent plain room weight) = absurd (absent is)

  module _ (absent : Contains P.names x.called → ⊥) (plain : is_rooted x.called ≡ false) where
    declared_full : most_letters ≤ length P.names → (o : Option Cause) → Declares P x o → o ≡ Some (beyond why.letters)
    declared_full is _ (free absent plain room light heavy) = absurd (omega arith)
    declared_full is _ (rooted h) = absurd (cc)
    declared_full is _ (taken h) = absurd (absent h)
    declared_full is _ (full absent plain room) = refl
    declared_full is _ (misweighed absent plain room weight) = absurd (omega arith)

    declared_misweighed : length P.names < most_letters → (weight_of x ≡ 0) ⊎ (most_weight < weight_of x) → (o : Option Cause) → Declares P x o → o ≡ Some why.bad_weight
    declared_misweighed small (inl h) _ (free absent plain room light heavy) = absurd (omega arith)
    declared_misweighed small (inr h) _ (free absent plain room light heavy) = absurd (omega arith)
    declared_misweighed small is _ (rooted h) = absurd (cc)
    declared_misweighed small is _ (taken h) = absurd (absent h)
    declared_misweighed small is _ (full absent plain room) = absurd (omega arith)
    declared_misweighed small is _ (misweighed absent plain room weight) = refl

    declared_free : length P.names < most_letters → 0 < weight_of x → weight_of x ≤ most_weight → (o : Option Cause) → Declares P x o → o ≡ None
    declared_free small light heavy _ (free absent plain room l h) = refl
    declared_free small light heavy _ (rooted h) = absurd (cc)
    declared_free small light heavy _ (taken h) = absurd (absent h)
    declared_free small light heavy _ (full absent plain room) = absurd (omega arith)
    declared_free small light heavy _ (misweighed absent plain room (inl h)) = absurd (omega arith)
    declared_free small light heavy _ (misweighed absent plain room (inr h)) = absurd (omega arith)

    by_weight : length P.names < most_letters → (0 < weight_of x) ⊎ (weight_of x ≤ 0) → (most_weight < weight_of x) ⊎ (weight_of x ≤ most_weight) → ExactlyOne (Declares P x)
    by_weight room (inl light) (inl heavy) =
        record { it = Some why.bad_weight; holds = misweighed absent plain room (inr heavy); only = declared_misweighed room (inr heavy) }
    by_weight room (inl light) (inr fits) = record { it = None; holds = free absent plain room light fits; only = declared_free room light fits }
    by_weight room (inr none) other =
        let zero : weight_of x ≡ 0 = omega arith in
        record { it = Some why.bad_weight; holds = misweighed absent plain room (inl zero); only = declared_misweighed room (inl zero) }

    by_room : (length P.names < most_letters) ⊎ (most_letters ≤ length P.names) → ExactlyOne (Declares P x)
    by_room (inl room) = by_weight room (cases_lt 0 (weight_of x)) (cases_lt most_weight (weight_of x))
    by_room (inr none) = record { it = Some (beyond why.letters); holds = full absent plain none; only = declared_full none }

  by_name : (is_rooted x.called ≡ true) ⊎ (is_rooted x.called ≡ false) → Placed P.names x.called → ExactlyOne (Declares P x)
  by_name (inl is) placed = record { it = Some why.name_taken; holds = rooted is; only = declared_rooted is }
  by_name (inr plain) (inl (i, h)) =
      let is : Contains P.names x.called = Contains-slice_get P.names x.called i h in
      record { it = Some why.name_taken; holds = taken is; only = declared_taken is }
  by_name (inr plain) (inr absent) = by_room absent plain (cases_lt (length P.names) most_letters)

  one_declaration : ExactlyOne (Declares P x)
  one_declaration = by_name (cases_Bool (is_rooted x.called)) (place P.names x.called)

-- the relator of a relation

one_relator : ReducedListsAreUnique → (P : Presentation) → IsReadable P → (value : AlgebraElement) → ExactlyOne (IsRelatorOf P value)
one_relator unique P readable value = by_balance (cases_Bool P.is_balanced)
  where
    half : ExactlyOne (λ r. IsAlgebraElementOf P.prime r (halved P.inverses value))
    half = one_list unique P.prime (prime_positive P.prime readable.field) (halved P.inverses value)

    by_balance : (P.is_balanced ≡ true) ⊎ (P.is_balanced ≡ false) → ExactlyOne (IsRelatorOf P value)
    by_balance (inl balanced) = record { it = half.it; holds = inl (balanced, half.holds); only = only }
      where
        only : (other : AlgebraElement) → IsRelatorOf P value other → other ≡ half.it
        only other (inl h) = half.only other h.1
        only other (inr h) = let plain = h.0 in absurd (cc)
    by_balance (inr plain) = record { it = value; holds = inr (plain, refl); only = only }
      where
        only : (other : AlgebraElement) → IsRelatorOf P value other → other ≡ value
        only other (inl h) = let balanced = h.0 in absurd (cc)
        only other (inr h) = h.1

-- what a line does

module _ (unique : ReducedListsAreUnique) (draft : Draft) (readable : IsReadable draft.presentation) where
  abbrev declared : Presentation → Declared → Option Cause
  declared P x = (one_declaration P x).it

  abbrev unless : Result Draft Cause → Option Cause → Result Draft Cause
  unless r None = r
  unless r (Some cause) = Err cause

  abbrev worked_prime : (n : ℕ) → IsFieldPrime n ⊎ (IsFieldPrime n → ⊥) → Result Draft Cause
  worked_prime n (inl h) = Ok (moved draft among_letters (record draft.presentation { prime = n }))
  worked_prime n (inr h) = Err why.bad_prime

  abbrev worked_generators : (n : ℕ) → (most_generators < n) ⊎ (n ≤ most_generators) → Result Draft Cause
  worked_generators n (inl h) = Err (beyond why.generators)
  worked_generators n (inr h) = Ok (moved draft after_generators (record draft.presentation { generators = n }))

  abbrev fitted : Draft → (n : ℕ) → (most_cells < n) ⊎ (n ≤ most_cells) → Result Draft Cause
  fitted next n (inl h) = Err (beyond (why.cells n))
  fitted next n (inr h) = Ok next

  relation_cells : AlgebraElement → ℕ
  relation_cells r = cells draft.presentation + algebra_cells r

  submodule_cells : Element → ℕ
  submodule_cells q = cells draft.presentation + element_cells q

  relator : AlgebraElement → AlgebraElement
  relator v = (one_relator unique draft.presentation readable v).it

  abbrev fitted_relation : AlgebraElement → Result Draft Cause
  fitted_relation r = fitted (with_relation draft r) (relation_cells r) (cases_lt most_cells (relation_cells r))

  abbrev fitted_submodule : Element → Result Draft Cause
  fitted_submodule q = fitted (with_submodule draft q) (submodule_cells q) (cases_lt most_cells (submodule_cells q))

  abbrev Count : Type 0
  Count = (draft.counted < most_relations) ⊎ (most_relations ≤ draft.counted)

  abbrev counted : {X : Type 0} → (X → Result Draft Cause) → Result X Cause → Count → Result Draft Cause
  counted f r (inl room) = after f r
  counted f r (inr none) = Err (beyond why.relations)

  value : Expression → Result AlgebraElement Cause
  value e = (one_value unique draft.presentation readable e).it

  module_value : ModuleExpression → Result Element Cause
  module_value e = (one_module_value unique draft.presentation readable e).it

  worked : Line → Result Draft Cause
  worked (version n) = Ok (moved draft after_version (record draft.presentation { version = n }))
  worked (prime n) = worked_prime n (listed primes n)
  worked (letter x) = unless (Ok (moved draft among_letters (with_letter draft.presentation x None))) (declared draft.presentation x)
  worked (involution x) = unless (Ok (moved draft among_letters (with_letter draft.presentation x (Some (length draft.presentation.names))))) (declared draft.presentation x)
  worked (pair x y) =
      unless
      (unless (Ok (moved draft among_letters (with_letter (with_first draft.presentation x) y (Some (length draft.presentation.names)))))
      (declared (with_first draft.presentation x) y))
      (declared draft.presentation x)
  worked (generators n) = worked_generators n (cases_lt most_generators n)
  worked balance = Ok (moved draft among_relations (record draft.presentation { is_balanced = true }))
  worked end = Ok (moved draft after_end draft.presentation)
  worked (relation d e) = counted (λ v. fitted_relation (relator v)) (value (algebra.difference d e)) (cases_lt draft.counted most_relations)
  worked (submodule d e) = counted fitted_submodule (module_value (modules.difference d e)) (cases_lt draft.counted most_relations)

  -- the line does it

  works_prime : (n : ℕ) (test : IsFieldPrime n ⊎ (IsFieldPrime n → ⊥)) → Works draft (prime n) (worked_prime n test)
  works_prime n (inl h) = takes_prime n h
  works_prime n (inr h) = refuses_prime n h

  works_generators : (n : ℕ) (test : (most_generators < n) ⊎ (n ≤ most_generators)) → Works draft (generators n) (worked_generators n test)
  works_generators n (inl h) = refuses_generators n h
  works_generators n (inr h) = takes_generators n h

  works_letter : (x : Declared) (o : Option Cause) → Declares draft.presentation x o
      → Works draft (letter x) (unless (Ok (moved draft among_letters (with_letter draft.presentation x None))) o)
  works_letter x None h = takes_letter x h
  works_letter x (Some cause) h = refuses_letter x cause h

  works_involution : (x : Declared) (o : Option Cause) → Declares draft.presentation x o
      → Works draft (involution x) (unless (Ok (moved draft among_letters (with_letter draft.presentation x (Some (length draft.presentation.names))))) o)
  works_involution x None h = takes_involution x h
  works_involution x (Some cause) h = refuses_involution x cause h

  works_pair : (x y : Declared) (o q : Option Cause) → Declares draft.presentation x o → Declares (with_first draft.presentation x) y q
      → Works draft (pair x y) (unless (unless (Ok (moved draft among_letters (with_letter (with_first draft.presentation x) y (Some (length draft.presentation.names))))) q) o)
  works_pair x y (Some cause) q h k = refuses_first x y cause h
  works_pair x y None (Some cause) h k = refuses_second x y cause h k
  works_pair x y None None h k = takes_pair x y h k

  module _ (d e : Expression) where
    works_fitted : (v : AlgebraElement) → draft.counted < most_relations → HasValue draft.presentation (algebra.difference d e) (Ok v)
        → (test : (most_cells < relation_cells (relator v)) ⊎ (relation_cells (relator v) ≤ most_cells))
        → Works draft (relation d e) (fitted (with_relation draft (relator v)) (relation_cells (relator v)) test)
    unfolding relation_cells relator
    works_fitted v room h (inl much) = refuses_room d e v (relator v) room h (one_relator unique draft.presentation readable v).holds much
    works_fitted v room h (inr few) = takes_relation d e v (relator v) room h (one_relator unique draft.presentation readable v).holds few

    works_relation : (r : Result AlgebraElement Cause) → HasValue draft.presentation (algebra.difference d e) r → (count : Count)
        → Works draft (relation d e) (counted (λ v. fitted_relation (relator v)) r count)
    works_relation r h (inr none) = refuses_count d e none
    works_relation (Err cause) h (inl room) = refuses_value d e cause room h
    works_relation (Ok v) h (inl room) = works_fitted v room h (cases_lt most_cells (relation_cells (relator v)))

  module _ (d e : ModuleExpression) where
    works_fitted_submodule : (q : Element) → draft.counted < most_relations → HasModuleValue draft.presentation (modules.difference d e) (Ok q)
        → (test : (most_cells < submodule_cells q) ⊎ (submodule_cells q ≤ most_cells)) → Works draft (submodule d e) (fitted (with_submodule draft q) (submodule_cells q) test)
    unfolding submodule_cells
    works_fitted_submodule q room h (inl much) = refuses_submodule_room d e q room h much
    works_fitted_submodule q room h (inr few) = takes_submodule d e q room h few

    works_submodule : (r : Result Element Cause) → HasModuleValue draft.presentation (modules.difference d e) r → (count : Count)
        → Works draft (submodule d e) (counted fitted_submodule r count)
    works_submodule r h (inr none) = refuses_submodule_count d e none
    works_submodule (Err cause) h (inl room) = refuses_submodule_value d e cause room h
    works_submodule (Ok q) h (inl room) = works_fitted_submodule q room h (cases_lt most_cells (submodule_cells q))

  works : (line : Line) → Works draft line (worked line)
  unfolding worked value module_value
  works (version n) = takes_version n
  works (prime n) = works_prime n (listed primes n)
  works (letter x) = works_letter x (declared draft.presentation x) (one_declaration draft.presentation x).holds
  works (involution x) = works_involution x (declared draft.presentation x) (one_declaration draft.presentation x).holds
  works (pair x y) =
      works_pair x y (declared draft.presentation x) (declared (with_first draft.presentation x) y) (one_declaration draft.presentation x).holds
      (one_declaration (with_first draft.presentation x) y).holds
  works (generators n) = works_generators n (cases_lt most_generators n)
  works balance = takes_balance
  works end = takes_end
  works (relation d e) =
      works_relation d e (value (algebra.difference d e)) (one_value unique draft.presentation readable (algebra.difference d e)).holds (cases_lt draft.counted most_relations)
  works (submodule d e) =
      works_submodule d e (module_value (modules.difference d e)) (one_module_value unique draft.presentation readable (modules.difference d e)).holds
      (cases_lt draft.counted most_relations)

  -- and nothing else

  prime_is : (n : ℕ) → IsFieldPrime n → (test : IsFieldPrime n ⊎ (IsFieldPrime n → ⊥)) → Ok (moved draft among_letters (record draft.presentation { prime = n })) ≡ worked_prime n test
  prime_is n h (inl k) = refl
  prime_is n h (inr k) = absurd (k h)

  no_prime_is : (n : ℕ) → (IsFieldPrime n → ⊥) → (test : IsFieldPrime n ⊎ (IsFieldPrime n → ⊥)) → Err why.bad_prime ≡ worked_prime n test
  no_prime_is n h (inl k) = absurd (h k)
  no_prime_is n h (inr k) = refl

  generators_are : (n : ℕ) → n ≤ most_generators → (test : (most_generators < n) ⊎ (n ≤ most_generators))
      → Ok (moved draft after_generators (record draft.presentation { generators = n })) ≡ worked_generators n test
  generators_are n h (inl k) = absurd (omega arith)
  generators_are n h (inr k) = refl

  too_many_generators : (n : ℕ) → most_generators < n → (test : (most_generators < n) ⊎ (n ≤ most_generators)) → Err (beyond why.generators) ≡ worked_generators n test
  too_many_generators n h (inl k) = refl
  too_many_generators n h (inr k) = absurd (omega arith)

  fits : (next : Draft) (n : ℕ) → n ≤ most_cells → (test : (most_cells < n) ⊎ (n ≤ most_cells)) → Ok next ≡ fitted next n test
  fits next n h (inl k) = absurd (omega arith)
  fits next n h (inr k) = refl

  overflows : (next : Draft) (n : ℕ) → most_cells < n → (test : (most_cells < n) ⊎ (n ≤ most_cells)) → Err (beyond (why.cells n)) ≡ fitted next n test
  overflows next n h (inl k) = refl
  overflows next n h (inr k) = absurd (omega arith)

  counts : {X : Type 0} (f : X → Result Draft Cause) (r : Result X Cause) → draft.counted < most_relations → (count : Count) → after f r ≡ counted f r count
  counts f r h (inl k) = refl
  counts f r h (inr k) = absurd (omega arith)

  full_count : {X : Type 0} (f : X → Result Draft Cause) (r : Result X Cause) → most_relations ≤ draft.counted → (count : Count) → Err (beyond why.relations) ≡ counted f r count
  full_count f r h (inl k) = absurd (omega arith)
  full_count f r h (inr k) = refl

  declared_is : (P : Presentation) (x : Declared) {o : Option Cause} → Declares P x o → o ≡ declared P x
  declared_is P x {o} h = (one_declaration P x).only o h

  relation_fits : (v r : AlgebraElement) → IsRelatorOf draft.presentation v r → cells draft.presentation + algebra_cells r ≤ most_cells → Ok (with_relation draft r) ≡ fitted_relation (relator v)
  unfolding relation_cells relator
  relation_fits v r h few = fits (with_relation draft r) (relation_cells r) few (cases_lt most_cells (relation_cells r)) ∙ ap fitted_relation ((one_relator unique draft.presentation readable v).only r h)

  relation_overflows : (v r : AlgebraElement) → IsRelatorOf draft.presentation v r → most_cells < cells draft.presentation + algebra_cells r
      → Err (beyond (why.cells (cells draft.presentation + algebra_cells r))) ≡ fitted_relation (relator v)
  unfolding relation_cells relator
  relation_overflows v r h many =
      overflows (with_relation draft r) (relation_cells r) many (cases_lt most_cells (relation_cells r)) ∙ ap fitted_relation ((one_relator unique draft.presentation readable v).only r h)

  submodule_fits : (q : Element) → cells draft.presentation + element_cells q ≤ most_cells → Ok (with_submodule draft q) ≡ fitted_submodule q
  unfolding submodule_cells
  submodule_fits q few = fits (with_submodule draft q) (submodule_cells q) few (cases_lt most_cells (submodule_cells q))

  submodule_overflows : (q : Element) → most_cells < cells draft.presentation + element_cells q
      → Err (beyond (why.cells (cells draft.presentation + element_cells q))) ≡ fitted_submodule q
  unfolding submodule_cells
  submodule_overflows q many = overflows (with_submodule draft q) (submodule_cells q) many (cases_lt most_cells (submodule_cells q))

  value_is : {e : Expression} {r : Result AlgebraElement Cause} → HasValue draft.presentation e r → r ≡ value e
  unfolding value
  value_is {e} {r} h = (one_value unique draft.presentation readable e).only r h

  module_value_is : {e : ModuleExpression} {r : Result Element Cause} → HasModuleValue draft.presentation e r → r ≡ module_value e
  unfolding module_value
  module_value_is {e} {r} h = (one_module_value unique draft.presentation readable e).only r h

  after_value : {X : Type 0} (f : X → Result Draft Cause) {r s : Result X Cause} → draft.counted < most_relations → r ≡ s → after f r ≡ counted f s (cases_lt draft.counted most_relations)
  after_value f {r} {s} room h = ap (after f) h ∙ counts f s room (cases_lt draft.counted most_relations)

  works_only : {line : Line} {r : Result Draft Cause} → Works draft line r → r ≡ worked line
  unfolding worked
  works_only (takes_version n) = refl
  works_only (takes_prime n h) = prime_is n h (listed primes n)
  works_only (refuses_prime n h) = no_prime_is n h (listed primes n)
  works_only (takes_letter x h) = ap (unless (Ok (moved draft among_letters (with_letter draft.presentation x None)))) (declared_is draft.presentation x h)
  works_only (refuses_letter x cause h) = ap (unless (Ok (moved draft among_letters (with_letter draft.presentation x None)))) (declared_is draft.presentation x h)
  works_only (takes_involution x h) =
      ap (unless (Ok (moved draft among_letters (with_letter draft.presentation x (Some (length draft.presentation.names)))))) (declared_is draft.presentation x h)
  works_only (refuses_involution x cause h) =
      ap (unless (Ok (moved draft among_letters (with_letter draft.presentation x (Some (length draft.presentation.names)))))) (declared_is draft.presentation x h)
  works_only (takes_pair x y h k) =
      let next = Ok (moved draft among_letters (with_letter (with_first draft.presentation x) y (Some (length draft.presentation.names)))) in
      (λ i. unless (unless next (declared_is (with_first draft.presentation x) y k i)) (declared_is draft.presentation x h i))
  works_only (refuses_first x y cause h) =
      let next = Ok (moved draft among_letters (with_letter (with_first draft.presentation x) y (Some (length draft.presentation.names)))) in
      ap (unless (unless next (declared (with_first draft.presentation x) y))) (declared_is draft.presentation x h)
  works_only (refuses_second x y cause h k) =
      let next = Ok (moved draft among_letters (with_letter (with_first draft.presentation x) y (Some (length draft.presentation.names)))) in
      (λ i. unless (unless next (declared_is (with_first draft.presentation x) y k i)) (declared_is draft.presentation x h i))
  works_only (takes_generators n h) = generators_are n h (cases_lt most_generators n)
  works_only (refuses_generators n h) = too_many_generators n h (cases_lt most_generators n)
  works_only takes_balance = refl
  works_only takes_end = refl
  works_only (takes_relation d e v r room h k few) = relation_fits v r k few ∙ after_value (λ v. fitted_relation (relator v)) room (value_is h)
  works_only (refuses_count d e none) = full_count (λ v. fitted_relation (relator v)) (value (algebra.difference d e)) none (cases_lt draft.counted most_relations)
  works_only (refuses_value d e cause room h) = after_value (λ v. fitted_relation (relator v)) room (value_is h)
  works_only (refuses_room d e v r room h k many) = relation_overflows v r k many ∙ after_value (λ v. fitted_relation (relator v)) room (value_is h)
  works_only (takes_submodule d e q room h few) = submodule_fits q few ∙ after_value fitted_submodule room (module_value_is h)
  works_only (refuses_submodule_count d e none) = full_count fitted_submodule (module_value (modules.difference d e)) none (cases_lt draft.counted most_relations)
  works_only (refuses_submodule_value d e cause room h) = after_value fitted_submodule room (module_value_is h)
  works_only (refuses_submodule_room d e q room h many) = submodule_overflows q many ∙ after_value fitted_submodule room (module_value_is h)

  pub one_work : (line : Line) → ExactlyOne (Works draft line)
  one_work line = record { it = worked line; holds = works line; only = λ r h. works_only h }
