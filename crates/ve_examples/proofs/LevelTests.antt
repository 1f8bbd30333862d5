-- A test of finished levels, given derivations of their rows.
use Rattle.std.proofs.Common.{◌≡◌, ℕ, ◌+◌, ◌<◌, ◌≤◌, ◌⊎◌, inl, inr, Bool, true, ◌&&◌, ◌||◌, nat_lt, nat_le, List, [], ◌∷◌, length, slice_index_or}
use Rattle.std.specs.List.{list_all}
use Rattle.std.proofs.lemmas.Bool.{and_parts, or_cases, ltb-true, leb-true, le-leb}
use Rattle.ve_theory.specs.Combinations.{unit, difference}
use Rattle.ve_theory.specs.Words.{Word, generator, times, same_word}
use Rattle.ve_theory.specs.Elements.{Element}
use Rattle.ve_theory.specs.Presentations.{Presentation, letter_count, relators, relator, submodule_relation, step, reach, element_reach, due, before, IsWord}
use Rattle.ve_theory.specs.Derivations.{Derivation, by_relator, by_submodule, combined, multiplied, nothing, value, IsDerivation, StaysWithin, DerivedWithin}
use Rattle.ve_theory.specs.Answers.{Row, Action, basis_word, dimension, image_row, matrix_row, combination_of, row_times_element, word_row, evaluation, IsNotAfter, IsRowUpTo}
use Rattle.ve_theory.specs.FinishedLevels.{IsFinishedLevel}
use Rattle.ve_examples.proofs.ListTests.{every, Every, every-true, implies, implies-at, all_below, all_below-at, All-from_test, all_pairs, AllPairs-from_test}
use Rattle.ve_examples.proofs.OrderTests.{is_weighted, is_weighted-true, same_word-true}
use Rattle.ve_examples.proofs.SumTests.{are_alike_elements, are_alike_elements-true, are_alike_rows, are_alike_rows-true, reaches_within, reaches_within-true}
use Rattle.ve_examples.proofs.PresentationTests.{is_word, is_word-true}

-- derivations

unfoldable pub is_derivation : Presentation → Derivation → Bool
is_derivation P (by_relator w number) = is_word P w && nat_lt number (length (relators P))
is_derivation P (by_submodule number) = nat_lt number (length P.submodule)
is_derivation P (combined c s d t) = is_derivation P s && is_derivation P t
is_derivation P (multiplied t x) = is_derivation P t && nat_lt x (letter_count P)
is_derivation P nothing = true

is_derivation-true : (P : Presentation) (t : Derivation) → is_derivation P t ≡ true → IsDerivation P t
unfolding is_derivation IsDerivation
is_derivation-true P (by_relator w number) e =
    let parts = and_parts (is_word P w) (nat_lt number (length (relators P))) e in
    (is_word-true P w parts.0, ltb-true number (length (relators P)) parts.1)
is_derivation-true P (by_submodule number) e = ltb-true number (length P.submodule) e
is_derivation-true P (combined c s d t) e =
    let parts = and_parts (is_derivation P s) (is_derivation P t) e in
    (is_derivation-true P s parts.0, is_derivation-true P t parts.1)
is_derivation-true P (multiplied t x) e =
    let parts = and_parts (is_derivation P t) (nat_lt x (letter_count P)) e in
    (is_derivation-true P t parts.0, ltb-true x (letter_count P) parts.1)
is_derivation-true P nothing e = tt

unfoldable pub stays_within : Presentation → ℕ → Derivation → Bool
stays_within P k (by_relator w number) = reaches_within P k (value P (by_relator w number))
stays_within P k (by_submodule number) = reaches_within P k (value P (by_submodule number))
stays_within P k (combined c s d t) = stays_within P k s && (stays_within P k t && reaches_within P k (value P (combined c s d t)))
stays_within P k (multiplied t x) = stays_within P k t && reaches_within P k (value P (multiplied t x))
stays_within P k nothing = true

stays_within-true : (P : Presentation) (k : ℕ) (t : Derivation) → stays_within P k t ≡ true → StaysWithin P k t
unfolding stays_within StaysWithin
stays_within-true P k (by_relator w number) e = reaches_within-true P k (value P (by_relator w number)) e
stays_within-true P k (by_submodule number) e = reaches_within-true P k (value P (by_submodule number)) e
stays_within-true P k (combined c s d t) e =
    let parts = and_parts (stays_within P k s) (stays_within P k t && reaches_within P k (value P (combined c s d t))) e in
    let rest = and_parts (stays_within P k t) (reaches_within P k (value P (combined c s d t))) parts.1 in
    (stays_within-true P k s parts.0, stays_within-true P k t rest.0, reaches_within-true P k (value P (combined c s d t)) rest.1)
stays_within-true P k (multiplied t x) e =
    let parts = and_parts (stays_within P k t) (reaches_within P k (value P (multiplied t x))) e in
    (stays_within-true P k t parts.0, reaches_within-true P k (value P (multiplied t x)) parts.1)
stays_within-true P k nothing e = tt

-- the derivation shows that v vanishes, within level k
abbrev shows_within : Presentation → ℕ → Derivation → Element → Bool
shows_within P k t v = is_derivation P t && (stays_within P k t && are_alike_elements P.prime (value P t) v)

shows_within-true : (P : Presentation) (k : ℕ) (t : Derivation) (v : Element) → shows_within P k t v ≡ true → DerivedWithin P k v
shows_within-true P k t v e =
    let parts = and_parts (is_derivation P t) (stays_within P k t && are_alike_elements P.prime (value P t) v) e in
    let rest = and_parts (stays_within P k t) (are_alike_elements P.prime (value P t) v) parts.1 in
    record {
      derivation = t;
      is_derivation = is_derivation-true P t parts.0;
      stays = stays_within-true P k t rest.0;
      shows = are_alike_elements-true P.prime (value P t) v rest.1;
    }

-- rows

abbrev is_not_after : Presentation → Word → Word → Bool
is_not_after P v w = is_weighted P.weights v w || same_word v w

is_not_after-true : (P : Presentation) (v w : Word) → is_not_after P v w ≡ true → IsNotAfter P v w
is_not_after-true P v w e = cases (or_cases (is_weighted P.weights v w) (same_word v w) e)
  where
    cases : (is_weighted P.weights v w ≡ true) ⊎ (same_word v w ≡ true) → IsNotAfter P v w
    cases (inl h) = inl (is_weighted-true P.weights v w h)
    cases (inr h) = inr (same_word-true v w h)

-- the row is that of the word: the derivation shows it, and it has no entry after the word
abbrev is_row_of : Presentation → ℕ → Action → Derivation → Word → Row → Bool
is_row_of P k A t w row =
    shows_within P k t (difference P.prime (unit w) (combination_of A row))
    && list_all (λ s. nat_lt s.0 (dimension A) && is_not_after P (basis_word A s.0) w) row

is_row_of-true : (P : Presentation) (k : ℕ) (A : Action) (t : Derivation) (w : Word) (row : Row) → is_row_of P k A t w row ≡ true
    → DerivedWithin P k (difference P.prime (unit w) (combination_of A row)) × IsRowUpTo P A w row
is_row_of-true P k A t w row e =
    let place = λ (s : ℕ × ℕ). nat_lt s.0 (dimension A) && is_not_after P (basis_word A s.0) w in
    let parts = and_parts (shows_within P k t (difference P.prime (unit w) (combination_of A row))) (list_all place row) e in (
      shows_within-true P k t (difference P.prime (unit w) (combination_of A row)) parts.0,
      All-from_test (λ s. (s.0 < dimension A) × IsNotAfter P (basis_word A s.0) w) place
          (λ s h.
          let bounds = and_parts (nat_lt s.0 (dimension A)) (is_not_after P (basis_word A s.0) w) h in
          (ltb-true s.0 (dimension A) bounds.0, is_not_after-true P (basis_word A s.0) w bounds.1))
          row parts.1,
    )

-- levels

-- an action, and derivations of its rows: for each generator, and for each letter and basis word
pub record Level : Type 0 where
  pub action : Action
  pub images : List Derivation
  pub matrices : List (List Derivation)

abbrev image_derivation : Level → ℕ → Derivation
image_derivation L i = slice_index_or L.images i nothing

abbrev matrix_derivation : Level → ℕ → ℕ → Derivation
matrix_derivation L x j = slice_index_or (slice_index_or L.matrices x []) j nothing

abbrev word_passes : Presentation → ℕ → Word → Bool
word_passes P k w = is_word P w && nat_le (reach P w) k

abbrev has_own_row : Presentation → Action → ℕ → Bool
has_own_row P A j = are_alike_rows P.prime (word_row A (basis_word A j)) (unit j)

abbrev image_passes : Presentation → ℕ → Level → ℕ → Bool
image_passes P k L i = is_row_of P k L.action (image_derivation L i) (generator i) (image_row L.action i)

abbrev row_passes : Presentation → ℕ → Level → ℕ → ℕ → Bool
row_passes P k L x j =
    implies (nat_le (reach P (basis_word L.action j) + step P x) k)
    (is_row_of P k L.action (matrix_derivation L x j) (times (basis_word L.action j) x) (matrix_row L.action x j))

abbrev relator_passes : Presentation → ℕ → Action → ℕ → ℕ → Bool
relator_passes P k A number j =
    implies (nat_le (due P (basis_word A j) (relator P number)) k)
    (are_alike_rows P.prime (row_times_element A (unit j) (relator P number)) [])

abbrev submodule_passes : Presentation → ℕ → Action → ℕ → Bool
submodule_passes P k A number =
    implies (nat_le (element_reach P (submodule_relation P number)) k)
    (are_alike_rows P.prime (evaluation A (submodule_relation P number)) [])

abbrev level_tests : Presentation → ℕ → Level → List Bool
level_tests P k L =
    list_all (word_passes P k) L.action.basis
    ∷ all_pairs (is_weighted P.weights) L.action.basis
    ∷ all_below (dimension L.action) (has_own_row P L.action)
    ∷ all_below P.generators (image_passes P k L)
    ∷ all_below (letter_count P) (λ x. all_below (dimension L.action) (row_passes P k L x))
    ∷ all_below (length (relators P)) (λ number. all_below (dimension L.action) (relator_passes P k L.action number))
    ∷ all_below (length P.submodule) (submodule_passes P k L.action)
    ∷ []

unfoldable pub is_finished : Presentation → ℕ → Level → Bool
is_finished P k L = every (level_tests P k L)

IsFinishedLevel-from_tests : (P : Presentation) (k : ℕ) (L : Level) → Every (level_tests P k L) → IsFinishedLevel P k L.action
IsFinishedLevel-from_tests P k L (words, (rising, (own_rows, (images, (matrices, (relations, (submodule, _))))))) = record {
  words = All-from_test (λ w. IsWord P w × (reach P w ≤ k)) (word_passes P k)
      (λ w e. let parts = and_parts (is_word P w) (nat_le (reach P w) k) e in (is_word-true P w parts.0, leb-true (reach P w) k parts.1))
      L.action.basis words;
  rising = AllPairs-from_test (before P) (is_weighted P.weights) (is_weighted-true P.weights) L.action.basis rising;
  own_rows = λ j l. are_alike_rows-true P.prime (word_row L.action (basis_word L.action j)) (unit j)
      (all_below-at (dimension L.action) (has_own_row P L.action) own_rows j l);
  images = λ i l. is_row_of-true P k L.action (image_derivation L i) (generator i) (image_row L.action i)
      (all_below-at P.generators (image_passes P k L) images i l);
  matrices = λ x j l m h.
      let column = all_below-at (letter_count P) (λ y. all_below (dimension L.action) (row_passes P k L y)) matrices x l in
      is_row_of-true P k L.action (matrix_derivation L x j) (times (basis_word L.action j) x) (matrix_row L.action x j)
      (implies-at (nat_le (reach P (basis_word L.action j) + step P x) k)
      (is_row_of P k L.action (matrix_derivation L x j) (times (basis_word L.action j) x) (matrix_row L.action x j))
      (all_below-at (dimension L.action) (row_passes P k L x) column j m)
      (le-leb (reach P (basis_word L.action j) + step P x) k h));
  relators = λ number j l m h.
      let column = all_below-at (length (relators P)) (λ n. all_below (dimension L.action) (relator_passes P k L.action n)) relations number l in
      are_alike_rows-true P.prime (row_times_element L.action (unit j) (relator P number)) []
      (implies-at (nat_le (due P (basis_word L.action j) (relator P number)) k)
      (are_alike_rows P.prime (row_times_element L.action (unit j) (relator P number)) [])
      (all_below-at (dimension L.action) (relator_passes P k L.action number) column j m)
      (le-leb (due P (basis_word L.action j) (relator P number)) k h));
  submodule = λ number l h.
      are_alike_rows-true P.prime (evaluation L.action (submodule_relation P number)) []
      (implies-at (nat_le (element_reach P (submodule_relation P number)) k)
      (are_alike_rows P.prime (evaluation L.action (submodule_relation P number)) [])
      (all_below-at (length P.submodule) (submodule_passes P k L.action) submodule number l)
      (le-leb (element_reach P (submodule_relation P number)) k h));
}

pub is_finished-true : (P : Presentation) (k : ℕ) (L : Level) → is_finished P k L ≡ true → IsFinishedLevel P k L.action
unfolding is_finished
is_finished-true P k L e = IsFinishedLevel-from_tests P k L (every-true (level_tests P k L) e)
