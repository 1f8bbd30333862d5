-- A test of presentations that say nothing of balance: that they are valid.
use Rattle.std.proofs.Common.{◌≡◌, ◌≢◌, ℕ, ◌+◌, ◌<◌, ◌≤◌, ◌⊎◌, inl, inr, Bool, true, false, not, ◌&&◌, ◌||◌, nat_eq, nat_lt, nat_le, List, [], ◌∷◌, length, Option, Some, None, slice_get, get_or, All, IsTrue, IsFalse, sym, ap, ◌∙◌, subst}
use Rattle.std.specs.List.{list_all, list_any}
use Rattle.std.proofs.lemmas.Bool.{and_parts, or_cases, not-true, true≢false, eqb-true, eq-eqb, ltb-true, leb-true}
use Rattle.std.proofs.lemmas.List.Folds.{Any-from_list_any}
use Rattle.std.proofs.lemmas.Option.{slice_get_within}
use Rattle.ve_theory.specs.Residues.{primes, IsFieldPrime}
use Rattle.ve_theory.specs.Combinations.{IsReduced}
use Rattle.ve_theory.specs.Words.{Word, start, letters, Shortlex, ShortlexLetters, same_letters}
use Rattle.ve_theory.specs.Elements.{AlgebraElement, Element, algebra_length, element_length}
use Rattle.ve_theory.specs.Presentations.{Presentation, letter_count, HasLetters, IsWord, IsPresentation}
use Rattle.ve_theory.specs.Validity.{most_letters, most_generators, most_relations, most_terms, most_length, most_cells, is_name, is_rooted, cells, AreBeside, IsValid}
use Rattle.ve_examples.proofs.ListTests.{every, Every, every-true, all_below, all_below-at, implies, implies-at, All-from_test, all_pairs, AllPairs-from_test}
use Rattle.ve_examples.proofs.OrderTests.{same_letters-itself, is_shortlex, is_shortlex-true, is_shortlex_letters, is_shortlex_letters-true, is_reduced, is_reduced-true}

-- words

abbrev pub has_letters : Presentation → List ℕ → Bool
has_letters P u = list_all (λ x. nat_lt x (letter_count P)) u

has_letters-true : (P : Presentation) (u : List ℕ) → has_letters P u ≡ true → HasLetters P u
has_letters-true P u e = All-from_test (λ x. x < letter_count P) (λ x. nat_lt x (letter_count P)) (λ x h. ltb-true x (letter_count P) h) u e

abbrev pub is_word : Presentation → Word → Bool
is_word P w = nat_lt (start w) P.generators && has_letters P (letters w)

pub is_word-true : (P : Presentation) (w : Word) → is_word P w ≡ true → IsWord P w
is_word-true P w e =
    let parts = and_parts (nat_lt (start w) P.generators) (has_letters P (letters w)) e in
    (ltb-true (start w) P.generators parts.0, has_letters-true P (letters w) parts.1)

-- relations

abbrev is_empty : {X : Type 0} → List X → Bool
is_empty [] = true
is_empty (x ∷ xs) = false

is_empty-fails : {X : Type 0} (xs : List X) → not (is_empty xs) ≡ true → xs ≢ []
is_empty-fails [] e h = absurd (cc)
is_empty-fails (x ∷ xs) e h = cc

abbrev is_relation : Presentation → AlgebraElement → Bool
is_relation P r = is_reduced is_shortlex_letters P.prime r && (list_all (λ t. has_letters P t.0) r && not (is_empty r))

is_relation-true : (P : Presentation) (r : AlgebraElement) → is_relation P r ≡ true → IsReduced ShortlexLetters P.prime r × All (λ t. HasLetters P t.0) r × (r ≢ [])
is_relation-true P r e =
    let parts = and_parts (is_reduced is_shortlex_letters P.prime r) (list_all (λ t. has_letters P t.0) r && not (is_empty r)) e in
    let rest = and_parts (list_all (λ t. has_letters P t.0) r) (not (is_empty r)) parts.1 in (
      is_reduced-true is_shortlex_letters ShortlexLetters is_shortlex_letters-true P.prime r parts.0,
      All-from_test (λ t. HasLetters P t.0) (λ t. has_letters P t.0) (λ t h. has_letters-true P t.0 h) r rest.0,
      is_empty-fails r rest.1,
    )

abbrev is_submodule_relation : Presentation → Element → Bool
is_submodule_relation P q = is_reduced is_shortlex P.prime q && (list_all (λ t. is_word P t.0) q && not (is_empty q))

is_submodule_relation-true : (P : Presentation) (q : Element) → is_submodule_relation P q ≡ true → IsReduced Shortlex P.prime q × All (λ t. IsWord P t.0) q × (q ≢ [])
is_submodule_relation-true P q e =
    let parts = and_parts (is_reduced is_shortlex P.prime q) (list_all (λ t. is_word P t.0) q && not (is_empty q)) e in
    let rest = and_parts (list_all (λ t. is_word P t.0) q) (not (is_empty q)) parts.1 in (
      is_reduced-true is_shortlex Shortlex is_shortlex-true P.prime q parts.0,
      All-from_test (λ t. IsWord P t.0) (λ t. is_word P t.0) (λ t h. is_word-true P t.0 h) q rest.0,
      is_empty-fails q rest.1,
    )

-- inverses are mutual, and declared side by side

abbrev is_inverse : ℕ → Option (Option ℕ) → Bool
is_inverse x (Some (Some y)) = nat_eq y x
is_inverse x (Some None) = false
is_inverse x None = false

is_inverse-true : (x : ℕ) (o : Option (Option ℕ)) → is_inverse x o ≡ true → o ≡ Some (Some x)
is_inverse-true x (Some (Some y)) e = ap (λ n. Some (Some n)) (eqb-true y x e)
is_inverse-true x (Some None) e = absurd (cc)
is_inverse-true x None e = absurd (cc)

abbrev are_beside : ℕ → ℕ → Bool
are_beside x y = nat_eq x y || (nat_eq y (x + 1) || nat_eq x (y + 1))

are_beside-true : (x y : ℕ) → are_beside x y ≡ true → AreBeside x y
are_beside-true x y e = first (or_cases (nat_eq x y) (nat_eq y (x + 1) || nat_eq x (y + 1)) e)
  where
    second : (nat_eq y (x + 1) ≡ true) ⊎ (nat_eq x (y + 1) ≡ true) → (x ≡ y) ⊎ (y ≡ x + 1) ⊎ (x ≡ y + 1)
    second (inl h) = inr (inl (eqb-true y (x + 1) h))
    second (inr h) = inr (inr (eqb-true x (y + 1) h))

    first : (nat_eq x y ≡ true) ⊎ ((nat_eq y (x + 1) || nat_eq x (y + 1)) ≡ true) → (x ≡ y) ⊎ (y ≡ x + 1) ⊎ (x ≡ y + 1)
    first (inl h) = inl (eqb-true x y h)
    first (inr h) = second (or_cases (nat_eq y (x + 1)) (nat_eq x (y + 1)) h)

abbrev inverse_passes : List (Option ℕ) → ℕ → Option (Option ℕ) → Bool
inverse_passes inverses x (Some (Some y)) = is_inverse x (slice_get inverses y) && are_beside x y
inverse_passes inverses x (Some None) = true
inverse_passes inverses x None = true

abbrev inverses_pass : List (Option ℕ) → Bool
inverses_pass inverses = all_below (length inverses) (λ x. inverse_passes inverses x (slice_get inverses x))

inverses_pass-true : (inverses : List (Option ℕ)) → inverses_pass inverses ≡ true → (x y : ℕ) → slice_get inverses x ≡ Some (Some y)
    → (slice_get inverses y ≡ Some (Some x)) × AreBeside x y
inverses_pass-true inverses e x y here =
    let found : inverse_passes inverses x (Some (Some y)) ≡ true =
    subst (λ o. inverse_passes inverses x o ≡ true) here
    (all_below-at (length inverses) (λ x. inverse_passes inverses x (slice_get inverses x)) e x (slice_get_within inverses x (Some y) here)) in
    let parts = and_parts (is_inverse x (slice_get inverses y)) (are_beside x y) found in
    (is_inverse-true x (slice_get inverses y) parts.0, are_beside-true x y parts.1)

-- primes

abbrev is_prime : ℕ → Bool
is_prime p = list_any (λ q. nat_eq q p) primes

is_prime-true : (p : ℕ) → is_prime p ≡ true → IsFieldPrime p
is_prime-true p e =
    let (k, q, l, here, same) = Any-from_list_any (λ q. nat_eq q p) primes e in
    (k, l, subst (λ n. get_or primes k n ≡ n) (eqb-true q p same) here)

-- the presentation

abbrev presentation_tests : Presentation → List Bool
presentation_tests P =
    is_prime P.prime
    ∷ nat_eq (length P.inverses) (letter_count P)
    ∷ nat_eq (length P.weights) (letter_count P)
    ∷ list_all (λ w. nat_lt 0 w && nat_le w 16) P.weights
    ∷ inverses_pass P.inverses
    ∷ list_all (is_relation P) P.relations
    ∷ list_all (is_submodule_relation P) P.submodule
    ∷ []

IsPresentation-from_tests : (P : Presentation) → Every (presentation_tests P) → IsPresentation P
IsPresentation-from_tests P (prime, (inverses, (weights, (each_weight, (inverted, (relations, (submodule, _))))))) = record {
  field = is_prime-true P.prime prime;
  one_inverse_each = eqb-true (length P.inverses) (letter_count P) inverses;
  one_weight_each = eqb-true (length P.weights) (letter_count P) weights;
  weights = All-from_test (λ w. (0 < w) × (w ≤ 16)) (λ w. nat_lt 0 w && nat_le w 16) bounds P.weights each_weight;
  inverses = λ x y h. (inverses_pass-true P.inverses inverted x y h).0;
  relations = All-from_test (λ r. IsReduced ShortlexLetters P.prime r × All (λ t. HasLetters P t.0) r × (r ≢ [])) (is_relation P) (is_relation-true P) P.relations relations;
  submodule = All-from_test (λ q. IsReduced Shortlex P.prime q × All (λ t. IsWord P t.0) q × (q ≢ [])) (is_submodule_relation P) (is_submodule_relation-true P) P.submodule submodule;
}
  where
    bounds : (w : ℕ) → (nat_lt 0 w && nat_le w 16) ≡ true → (0 < w) × (w ≤ 16)
    bounds w e = let parts = and_parts (nat_lt 0 w) (nat_le w 16) e in (ltb-true 0 w parts.0, leb-true w 16 parts.1)

-- its text

abbrev text_tests : Presentation → List Bool
text_tests P =
    (nat_eq P.version 1 || nat_eq P.version 2)
    ∷ not P.is_balanced
    ∷ implies (nat_eq P.version 1) (list_all (λ w. nat_eq w 1) P.weights)
    ∷ list_all (λ name. is_name name && not (is_rooted name)) P.names
    ∷ all_pairs (λ m n. not (same_letters m n)) P.names
    ∷ []

abbrev is_small : {X : Type 0} → (List (X × ℕ) → ℕ) → List (X × ℕ) → Bool
is_small size v = nat_le (length v) most_terms && nat_le (size v) most_length

abbrev limit_tests : Presentation → List Bool
limit_tests P =
    nat_le (length P.names) most_letters
    ∷ nat_lt 0 P.generators
    ∷ nat_le P.generators most_generators
    ∷ nat_le (length P.relations + length P.submodule) most_relations
    ∷ list_all (is_small algebra_length) P.relations
    ∷ list_all (is_small element_length) P.submodule
    ∷ nat_le (cells P) most_cells
    ∷ []

is_small-true : {X : Type 0} (size : List (X × ℕ) → ℕ) (v : List (X × ℕ)) → is_small size v ≡ true → (length v ≤ most_terms) × (size v ≤ most_length)
is_small-true size v e =
    let parts = and_parts (nat_le (length v) most_terms) (nat_le (size v) most_length) e in
    (leb-true (length v) most_terms parts.0, leb-true (size v) most_length parts.1)

abbrev valid_tests : Presentation → List Bool
valid_tests P = every (presentation_tests P) ∷ every (text_tests P) ∷ every (limit_tests P) ∷ []

unfoldable pub is_presentation : Presentation → Bool
is_presentation P = every (presentation_tests P)

pub is_presentation-true : (P : Presentation) → is_presentation P ≡ true → IsPresentation P
unfolding is_presentation
is_presentation-true P e = IsPresentation-from_tests P (every-true (presentation_tests P) e)

unfoldable pub is_valid : Presentation → Bool
is_valid P = every (valid_tests P)

IsValid-from_tests : (P : Presentation) → Every (presentation_tests P) → Every (text_tests P) → Every (limit_tests P) → IsValid P
IsValid-from_tests P presentation (version, (balance, (plain, (names, (distinct, _))))) (letters, (some, (generators, (count, (relations, (submodule, (size, _))))))) = record {
  presentation = IsPresentation-from_tests P presentation;
  version = versions (or_cases (nat_eq P.version 1) (nat_eq P.version 2) version);
  plain = λ h. (
    not-true P.is_balanced balance,
    All-from_test (λ w. w ≡ 1) (λ w. nat_eq w 1) (λ w e. eqb-true w 1 e) P.weights (implies-at (nat_eq P.version 1) (list_all (λ w. nat_eq w 1) P.weights) plain (eq-eqb P.version 1 h)),
  );
  names = All-from_test (λ name. IsTrue (is_name name) × IsFalse (is_rooted name)) (λ name. is_name name && not (is_rooted name)) named P.names names;
  distinct = AllPairs-from_test ◌≢◌ (λ m n. not (same_letters m n)) differ P.names distinct;
  beside = λ x y h. (inverses_pass-true P.inverses presentation.1.1.1.1.0 x y h).1;
  balanced = λ h. absurd (unbalanced h);
  letters = leb-true (length P.names) most_letters letters;
  generators = (ltb-true 0 P.generators some, leb-true P.generators most_generators generators);
  relation_count = leb-true (length P.relations + length P.submodule) most_relations count;
  relations = All-from_test (λ r. (length r ≤ most_terms) × (algebra_length r ≤ most_length)) (is_small algebra_length) (is_small-true algebra_length) P.relations relations;
  submodule = All-from_test (λ q. (length q ≤ most_terms) × (element_length q ≤ most_length)) (is_small element_length) (is_small-true element_length) P.submodule submodule;
  cell_count = leb-true (cells P) most_cells size;
}
  where
    versions : (nat_eq P.version 1 ≡ true) ⊎ (nat_eq P.version 2 ≡ true) → (P.version ≡ 1) ⊎ (P.version ≡ 2)
    versions (inl e) = inl (eqb-true P.version 1 e)
    versions (inr e) = inr (eqb-true P.version 2 e)

    named : (name : List ℕ) → (is_name name && not (is_rooted name)) ≡ true → IsTrue (is_name name) × IsFalse (is_rooted name)
    named name e = let parts = and_parts (is_name name) (not (is_rooted name)) e in (parts.0, not-true (is_rooted name) parts.1)

    differ : (m n : List ℕ) → not (same_letters m n) ≡ true → m ≢ n
    differ m n e h = absurd (true≢false (sym (same_letters-itself m n h) ∙ not-true (same_letters m n) e))

    unbalanced : P.is_balanced ≡ true → ⊥
    unbalanced h = true≢false (sym h ∙ not-true P.is_balanced balance)

pub is_valid-true : (P : Presentation) → is_valid P ≡ true → IsValid P
unfolding is_valid
is_valid-true P e =
    let parts = every-true (valid_tests P) e in
    IsValid-from_tests P (every-true (presentation_tests P) parts.0) (every-true (text_tests P) parts.1.0) (every-true (limit_tests P) parts.1.1.0)
