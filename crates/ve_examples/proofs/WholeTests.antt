-- A test of a whole example, given its levels: that its answer is right, and that its levels have the sizes that are said.
use Rattle.std.proofs.Common.{◌≡◌, ℕ, zero, suc, ◌+◌, ◌<◌, ◌≤◌, ◌⊎◌, inl, inr, Bool, true, ◌&&◌, ◌||◌, nat_eq, nat_lt, nat_le, List, [], ◌∷◌, length, slice_index_or, All, sum_by, subst, arith}
use Rattle.std.specs.List.{list_all, list_any}
use Rattle.std.proofs.lemmas.Bool.{and_parts, or_cases, eqb-true, ltb-true, leb-true}
use Rattle.std.proofs.lemmas.List.Elements.{All-contains}
use Rattle.std.proofs.lemmas.List.Folds.{Any-from_list_any}
use Rattle.ve_theory.specs.Combinations.{scaled, extended, coefficient}
use Rattle.ve_theory.specs.Residues.{primes}
use Rattle.ve_theory.specs.Words.{Word, start, letters, times_all, same_letters, same_word, letters_weight, word_weight}
use Rattle.ve_theory.specs.Elements.{word_times, times_letter, greatest}
use Rattle.ve_theory.specs.Presentations.{Presentation, inverse_relators, greatest_of, reach, relator_bound, submodule_bound}
use Rattle.ve_theory.specs.Validity.{is_name, is_rooted, IsValid}
use Rattle.ve_theory.specs.Derivations.{value}
use Rattle.ve_theory.specs.Levels.{IsNormal, steps_to, HasSize, Closes}
use Rattle.ve_theory.specs.Answers.{Row, Action, Answer, dimension, row_times_letters, word_row, IsRow, IsGrown, IsWellFormed, HasShape, IsOrdered, MeetsRelations, IsAnswer}
use Rattle.ve_theory.specs.FinishedLevels.{IsFinishedLevel}
use Rattle.ve_theory.specs.Laws.{SettlesLevel, SettlesModule, FinishedLevelsSettle, ClosingLevelsSettle}
use Rattle.ve_examples.specs.Sizes.{HaveSizes}
use Rattle.ve_examples.proofs.ListTests.{every, Every, every-true, all_below, all_below-at, All-from_test, all_pairs}
use Rattle.ve_examples.proofs.OrderTests.{differs_below, is_reduced, is_reduced-true}
use Rattle.ve_examples.proofs.PresentationTests.{is_valid, is_valid-true}
use Rattle.ve_examples.proofs.LevelTests.{is_derivation, stays_within, Level, is_finished, is_finished-true}

-- the form of an answer

abbrev is_row : (p n : ℕ) → Row → Bool
is_row p n row = is_reduced nat_lt p row && list_all (λ t. nat_lt t.0 n) row

is_row-true : (p n : ℕ) (row : Row) → is_row p n row ≡ true → IsRow p n row
is_row-true p n row e =
    let parts = and_parts (is_reduced nat_lt p row) (list_all (λ t. nat_lt t.0 n) row) e in
    (is_reduced-true nat_lt ◌<◌ ltb-true p row parts.0, All-from_test (λ t. t.0 < n) (λ t. nat_lt t.0 n) (λ t h. ltb-true t.0 n h) row parts.1)

abbrev has_word : Answer → Word → Bool
has_word A w = nat_lt (start w) A.generators && list_all (λ x. nat_lt x (length A.names)) (letters w)

has_word-true : (A : Answer) (w : Word) → has_word A w ≡ true → (start w < A.generators) × All (λ x. x < length A.names) (letters w)
has_word-true A w e =
    let parts = and_parts (nat_lt (start w) A.generators) (list_all (λ x. nat_lt x (length A.names)) (letters w)) e in
    (ltb-true (start w) A.generators parts.0, All-from_test (λ x. x < length A.names) (λ x. nat_lt x (length A.names)) (λ x h. ltb-true x (length A.names) h) (letters w) parts.1)

abbrev form_tests : Answer → List Bool
form_tests A =
    nat_eq (length A.action.images) A.generators
    ∷ nat_eq (length A.action.matrices) (length A.names)
    ∷ list_all (λ matrix. nat_eq (length matrix) (dimension A.action)) A.action.matrices
    ∷ list_all (is_row A.prime (dimension A.action)) A.action.images
    ∷ list_all (λ matrix. list_all (is_row A.prime (dimension A.action)) matrix) A.action.matrices
    ∷ list_all (has_word A) A.action.basis
    ∷ []

IsWellFormed-from_tests : (A : Answer) → Every (form_tests A) → IsGrown A.action.basis → IsWellFormed A
IsWellFormed-from_tests A (one_image, (one_matrix, (square, (images, (matrices, (words, _)))))) grown = record {
  one_image_each = eqb-true (length A.action.images) A.generators one_image;
  one_matrix_each = eqb-true (length A.action.matrices) (length A.names) one_matrix;
  square = All-from_test (λ (matrix : List Row). length matrix ≡ dimension A.action) (λ (matrix : List Row). nat_eq (length matrix) (dimension A.action))
      (λ matrix h. eqb-true (length matrix) (dimension A.action) h) A.action.matrices square;
  images = All-from_test (IsRow A.prime (dimension A.action)) (is_row A.prime (dimension A.action)) (is_row-true A.prime (dimension A.action)) A.action.images images;
  matrices = All-from_test (λ (matrix : List Row). All (IsRow A.prime (dimension A.action)) matrix) (λ (matrix : List Row). list_all (is_row A.prime (dimension A.action)) matrix)
      (λ matrix h. All-from_test (IsRow A.prime (dimension A.action)) (is_row A.prime (dimension A.action)) (is_row-true A.prime (dimension A.action)) matrix h)
      A.action.matrices matrices;
  words = All-from_test (λ w. (start w < A.generators) × All (λ x. x < length A.names) (letters w)) (has_word A) (has_word-true A) A.action.basis words;
  grown = grown;
}

-- levels that close, and levels that stay open

abbrev is_open : Presentation → ℕ → List Word → Bool
is_open P k ws = nat_lt k (submodule_bound P) || list_any (λ w. nat_lt k (reach P w + relator_bound P)) ws

is_open-true : (P : Presentation) (k : ℕ) (A : Action) → SettlesLevel P k A → is_open P k A.basis ≡ true → ¬ Closes P k
is_open-true P k A settled e closes = cases (or_cases (nat_lt k (submodule_bound P)) (list_any (λ w. nat_lt k (reach P w + relator_bound P)) A.basis) e)
  where
    cases : (nat_lt k (submodule_bound P) ≡ true) ⊎ (list_any (λ w. nat_lt k (reach P w + relator_bound P)) A.basis ≡ true) → ⊥
    cases (inl h) = omega (arith, ltb-true k (submodule_bound P) h, closes.submodule)
    cases (inr h) =
        let (i, w, l, here, far) = Any-from_list_any (λ w. nat_lt k (reach P w + relator_bound P)) A.basis h in
        let normal : IsNormal P k w = subst (IsNormal P k) here (settled.normal.only i w l) in
        omega (arith, ltb-true k (reach P w + relator_bound P) far, closes.relators w normal)

abbrev is_closed : Presentation → ℕ → List Word → Bool
is_closed P k ws = nat_le (submodule_bound P) k && list_all (λ w. nat_le (reach P w + relator_bound P) k) ws

is_closed-true : (P : Presentation) (k : ℕ) (A : Action) → SettlesLevel P k A → is_closed P k A.basis ≡ true → Closes P k
is_closed-true P k A settled e =
    let parts = and_parts (nat_le (submodule_bound P) k) (list_all (λ w. nat_le (reach P w + relator_bound P) k) A.basis) e in
    record {
      submodule = leb-true (submodule_bound P) k parts.0;
      relators = λ w normal. All-contains (λ v. reach P v + relator_bound P ≤ k) A.basis w
          (All-from_test (λ v. reach P v + relator_bound P ≤ k) (λ v. nat_le (reach P v + relator_bound P) k) (λ v h. leb-true (reach P v + relator_bound P) k h) A.basis parts.1)
          (settled.normal.every w normal);
    }

-- sizes

abbrev size_after : Presentation → ℕ → List Word → ℕ
size_after P k ws = length ws + sum_by (steps_to P (suc k)) ws

-- examples

abbrev pub level_at : List Level → ℕ → Level
level_at levels k = slice_index_or levels k (record { action = record { basis = []; images = []; matrices = [] }; images = []; matrices = [] })

abbrev basis_at : List Level → ℕ → List Word
basis_at levels k = (level_at levels k).action.basis

abbrev whole_tests : Presentation → Answer → List ℕ → List Level → List Bool
whole_tests P A sizes levels =
    is_valid P
    ∷ every (form_tests A)
    ∷ all_below (A.closed + 1) (λ k. is_finished P k (level_at levels k))
    ∷ all_below A.closed (λ k. is_open P k (basis_at levels k))
    ∷ is_closed P A.closed A.action.basis
    ∷ nat_eq (length sizes) (A.closed + 1)
    ∷ nat_eq (slice_index_or sizes 0 0) P.generators
    ∷ all_below A.closed (λ k. nat_eq (slice_index_or sizes (suc k) 0) (size_after P k (basis_at levels k)))
    ∷ []

-- It computes with all that the tests do.
unfoldable pub is_worked_out : Presentation → Answer → List ℕ → List Level → Bool
unfolding every all_below all_pairs differs_below is_reduced is_valid is_derivation stays_within is_finished primes scaled extended coefficient start letters times_all same_letters same_word letters_weight word_weight word_times times_letter greatest inverse_relators greatest_of is_name is_rooted value row_times_letters word_row
is_worked_out P A sizes levels = every (whole_tests P A sizes levels)

-- what is shown of an example
pub record IsWorkedOut (P : Presentation) (A : Answer) (listed : List ℕ) : Type 0 where
  pub valid : IsValid P
  pub answer : IsAnswer P A
  pub sizes : HaveSizes P listed
  pub ordered : IsOrdered P A.action
  pub meets : MeetsRelations P A.action

module _ (F : FinishedLevelsSettle) (C : ClosingLevelsSettle) (P : Presentation) (A : Answer) (sizes : List ℕ) (levels : List Level) where
  IsWorkedOut-from_tests : (level_at levels A.closed).action ≡ A.action → HasShape P A → Every (whole_tests P A sizes levels) → IsWorkedOut P A sizes
  unfolding HaveSizes HasSize
  IsWorkedOut-from_tests last shape (valid, (form, (finished, (open_before, (closed, (count, (first, (later, _)))))))) = record {
    valid = is_valid-true P valid;
    answer = record {
      module_answer = record { shape = shape; form = IsWellFormed-from_tests A (every-true (form_tests A) form) settled.grown; basis = settled.least; rows = settled.rows };
      closed = record { closes = closes; least = λ k l. stays_open k l };
    };
    sizes = λ k l. size_at k (omega (arith, eqb-true (length sizes) (A.closed + 1) count));
    ordered = settled.ordered;
    meets = settled.meets;
  }
    where
      finished_at : (k : ℕ) → k ≤ A.closed → IsFinishedLevel P k (level_at levels k).action
      finished_at k l = is_finished-true P k (level_at levels k) (all_below-at (A.closed + 1) (λ j. is_finished P j (level_at levels j)) finished k (omega arith))

      settled_at : (k : ℕ) → k ≤ A.closed → SettlesLevel P k (level_at levels k).action
      settled_at k l = F P k (level_at levels k).action (is_valid-true P valid).presentation (finished_at k l)

      stays_open : (k : ℕ) → k < A.closed → ¬ Closes P k
      stays_open k l =
          is_open-true P k (level_at levels k).action (settled_at k (omega arith))
          (all_below-at A.closed (λ j. is_open P j (basis_at levels j)) open_before k l)

      finished_last : IsFinishedLevel P A.closed A.action
      finished_last = subst (IsFinishedLevel P A.closed) last (finished_at A.closed (omega arith))

      closes : Closes P A.closed
      closes = is_closed-true P A.closed A.action (F P A.closed A.action (is_valid-true P valid).presentation finished_last) closed

      settled : SettlesModule P A.action
      settled = C P A.closed A.action (is_valid-true P valid).presentation finished_last closes

      size_at : (k : ℕ) → k ≤ A.closed → HasSize P k (slice_index_or sizes k 0)
      size_at zero l = eqb-true (slice_index_or sizes 0 0) P.generators first
      size_at (suc k) l = (
        basis_at levels k,
        (settled_at k (omega arith)).normal,
        eqb-true (slice_index_or sizes (suc k) 0) (size_after P k (basis_at levels k))
            (all_below-at A.closed (λ j. nat_eq (slice_index_or sizes (suc j) 0) (size_after P j (basis_at levels j))) later k (omega arith)),
      )

  pub is_worked_out-true : (level_at levels A.closed).action ≡ A.action → HasShape P A → is_worked_out P A sizes levels ≡ true → IsWorkedOut P A sizes
  unfolding is_worked_out
  is_worked_out-true last shape e = IsWorkedOut-from_tests last shape (every-true (whole_tests P A sizes levels) e)
