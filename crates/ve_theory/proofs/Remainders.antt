-- Each word differs from the combination of basis words that its row stands for by what is derived. This serves what is
-- derived at all and what is derived within a level alike.
use Rattle.std.proofs.Common.{ℕ, ◌%◌, ◌-◌, ◌<◌, [], ◌∷◌, ◌++◌, slice_index_or, All, sym, ap, ◌∙◌}
use mathlib.Core.Path.{fun_ext}
use Rattle.std.proofs.lemmas.List.Elements.{All-nil, All-cons, All-head, All-tail, All-append}
use Rattle.ve_theory.specs.Combinations.{Combination, unit, scaled, difference, extended}
use Rattle.ve_theory.specs.Words.{Word, generator, times}
use Rattle.ve_theory.specs.Elements.{Element, times_letter}
use Rattle.ve_theory.specs.Presentations.{Presentation}
use Rattle.ve_theory.specs.Answers.{Action, Row, basis_word, image_row, matrix_row, row_times, word_row, evaluation, combination_of}
use Rattle.ve_theory.proofs.Sums.{weigh, weigh-extended, weigh-unit, SameWeights, SameWeights-refl, SameWeights-sym, SameWeights-trans, SameWeights-append, SameWeights_of, SameWeights-difference, SameWeights-extended, extended-extended, extended-by_units, differences-extended, differences-append, difference-nil, scaled-one}
use Rattle.ve_theory.proofs.Products.{weigh-times_letter}
use Rattle.ve_theory.proofs.Members.{All-scaled}
use Rattle.ve_theory.proofs.DerivedElements.{times_letter-append, times_letter-scaled}

-- keys of sums

pub All-extended : {J K : Type 0} (Q : K → Type 0) (f : J → Combination K) (v : Combination J) → All (λ t. All (λ s. Q s.0) (f t.0)) v → All (λ t. Q t.0) (extended f v)
unfolding extended
All-extended {J} {K} Q f [] h = All-nil (λ (t : K × ℕ). Q t.0)
All-extended {J} {K} Q f (t ∷ v) h =
    All-append (λ (s : K × ℕ). Q s.0) (scaled t.1 (f t.0)) (extended f v)
    (All-scaled Q t.1 (f t.0) (All-head (λ (s : J × ℕ). All (λ (r : K × ℕ). Q r.0) (f s.0)) t v h))
    (All-extended Q f v (All-tail (λ (s : J × ℕ). All (λ (r : K × ℕ). Q r.0) (f s.0)) t v h))

pub All-unit : {K : Type 0} (Q : K → Type 0) (k : K) → Q k → All (λ t. Q t.0) (unit k)
All-unit {K} Q k h = All-cons (λ (t : K × ℕ). Q t.0) (k, 1) [] h (All-nil (λ (t : K × ℕ). Q t.0))

pub All-combination_of : (Q : Word → Type 0) (A : Action) (row : Row) → All (λ t. Q (basis_word A t.0)) row → All (λ t. Q t.0) (combination_of A row)
All-combination_of Q A row h = All-extended Q (λ j. unit (basis_word A j)) row (λ k t l. All-unit Q (basis_word A (slice_index_or row k t).0) (h k t l))

-- the places of rows

-- the rows of words have the places that rows of generators and of basis words times letters hand on
pub word_row_fits : (A : Action) (Good : Word → Type 0) (Fits : Word → ℕ → Type 0) → ((w : Word) (x : ℕ) → Good (times w x) → Good w)
    → ((i : ℕ) → Good (generator i) → All (λ t. Fits (generator i) t.0) (image_row A i))
    → ((w : Word) (x j : ℕ) → Good (times w x) → Fits w j → All (λ t. Fits (times w x) t.0) (matrix_row A x j))
    → (w : Word) → Good w → All (λ t. Fits w t.0) (word_row A w)
unfolding word_row
word_row_fits A Good Fits shorter images matrices (generator i) good = images i good
word_row_fits A Good Fits shorter images matrices (times w x) good =
    All-extended (Fits (times w x)) (matrix_row A x) (word_row A w)
    (λ k t l. matrices w x (slice_index_or (word_row A w) k t).0 good (word_row_fits A Good Fits shorter images matrices w (shorter w x good) k t l))

-- remainders

-- sums of these elements are of these elements
pub record IsSubspace (p : ℕ) (D : Element → Type 0) : Type 0 where
  pub alike : (u v : Element) → SameWeights p u v → D u → D v
  pub nothing : D []
  pub combined : (c d : ℕ) (u v : Element) → D u → D v → D (scaled c u ++ scaled d v)

-- a word without the combination of basis words that a row stands for
abbrev pub remainder : Presentation → Action → Word → Row → Element
remainder P A w row = difference P.prime (unit w) (combination_of A row)

-- The elements D have the remainders of the rows of an action. Good words are those of which this is asked; a place that fits
-- a word may stand in its row.
pub record HasRemainders (P : Presentation) (A : Action) (Good : Word → Type 0) (Fits : Word → ℕ → Type 0) (D : Element → Type 0) : Type 0 where
  pub positive : 0 < P.prime
  pub space : IsSubspace P.prime D
  pub shorter : (w : Word) (x : ℕ) → Good (times w x) → Good w
  pub fits : (w : Word) → Good w → All (λ t. Fits w t.0) (word_row A w)
  pub multiplied : (w : Word) (x : ℕ) (row : Row) → Good (times w x) → All (λ t. Fits w t.0) row → D (remainder P A w row) → D (times_letter (remainder P A w row) x)
  pub images : (i : ℕ) → Good (generator i) → D (remainder P A (generator i) (image_row A i))
  pub matrices : (w : Word) (x j : ℕ) → Good (times w x) → Fits w j → D (remainder P A (times (basis_word A j) x) (matrix_row A x j))

module _ {P : Presentation} {A : Action} {Good : Word → Type 0} {Fits : Word → ℕ → Type 0} {D : Element → Type 0} (H : HasRemainders P A Good Fits D) where
  sum_in : (u v : Element) → D u → D v → D (u ++ v)
  sum_in u v h k = H.space.alike (scaled 1 u ++ scaled 1 v) (u ++ v) (SameWeights-append (scaled-one P.prime u) (scaled-one P.prime v)) (H.space.combined 1 1 u v h k)

  extended_in : {K : Type 0} (f : K → Element) (v : Combination K) → All (λ t. D (f t.0)) v → D (extended f v)
  unfolding extended
  extended_in f [] h = H.space.nothing
  extended_in {K} f (t ∷ v) h =
      H.space.alike (scaled t.1 (f t.0) ++ scaled 1 (extended f v)) (scaled t.1 (f t.0) ++ extended f v)
      (SameWeights-append (SameWeights-refl P.prime (scaled t.1 (f t.0))) (scaled-one P.prime (extended f v)))
      (H.space.combined t.1 1 (f t.0) (extended f v) (All-head (λ (s : K × ℕ). D (f s.0)) t v h) (extended_in f v (All-tail (λ (s : K × ℕ). D (f s.0)) t v h)))

  -- the remainder of a word, times a letter, and the remainders of its basis words times that letter make the next one
  next_remainder : (w : Word) (x : ℕ) (row : Row)
      → SameWeights P.prime (times_letter (remainder P A w row) x ++ extended (λ j. remainder P A (times (basis_word A j) x) (matrix_row A x j)) row) (remainder P A (times w x) (row_times A row x))
  unfolding times_letter
  next_remainder w x row =
      SameWeights-trans
      (SameWeights-append first
      (SameWeights-trans (differences-extended P.prime (λ j. unit (times (basis_word A j) x)) (λ j. combination_of A (matrix_row A x j)) row)
      (SameWeights-difference (SameWeights-sym middle) (SameWeights-sym (extended-extended P.prime (λ j. unit (basis_word A j)) (matrix_row A x) row)))))
      (differences-append P.prime (unit (times w x)) (times_letter (combination_of A row) x) (combination_of A (row_times A row x)) H.positive)
    where
      first : SameWeights P.prime (times_letter (remainder P A w row) x) (difference P.prime (unit (times w x)) (times_letter (combination_of A row) x))
      first =
          SameWeights_of (times_letter-append (unit w) (scaled (P.prime - 1) (combination_of A row)) x ∙ ap (λ v. unit (times w x) ++ v) (times_letter-scaled (P.prime - 1) (combination_of A row) x))

      middle : SameWeights P.prime (times_letter (combination_of A row) x) (extended (λ j. unit (times (basis_word A j) x)) row)
      middle = record {
        at = λ h. ap (λ n. n % P.prime)
            (weigh-times_letter h (combination_of A row) x
            ∙ (weigh-extended (λ w. h (times w x)) (λ j. unit (basis_word A j)) row
            ∙ (ap (λ k. weigh k row) (fun_ext (λ j. weigh-unit (λ w. h (times w x)) (basis_word A j) ∙ sym (weigh-unit h (times (basis_word A j) x))))
            ∙ sym (weigh-extended h (λ j. unit (times (basis_word A j) x)) row))));
      }

  pub word_remainder : (w : Word) → Good w → D (remainder P A w (word_row A w))
  unfolding word_row
  word_remainder (generator i) good = H.images i good
  word_remainder (times w x) good =
      let fits : All (λ t. Fits w t.0) (word_row A w) = H.fits w (H.shorter w x good) in
      H.space.alike (times_letter (remainder P A w (word_row A w)) x ++ extended (λ j. remainder P A (times (basis_word A j) x) (matrix_row A x j)) (word_row A w))
      (remainder P A (times w x) (row_times A (word_row A w) x)) (next_remainder w x (word_row A w))
      (sum_in (times_letter (remainder P A w (word_row A w)) x) (extended (λ j. remainder P A (times (basis_word A j) x) (matrix_row A x j)) (word_row A w))
      (H.multiplied w x (word_row A w) good fits (word_remainder w (H.shorter w x good)))
      (extended_in (λ j. remainder P A (times (basis_word A j) x) (matrix_row A x j)) (word_row A w)
      (λ k t l. H.matrices w x (slice_index_or (word_row A w) k t).0 good (fits k t l))))

  -- an element that evaluates to zero is one of the elements D
  pub zero_in : (v : Element) → All (λ t. Good t.0) v → SameWeights P.prime (evaluation A v) [] → D v
  unfolding extended
  zero_in v good zero =
      H.space.alike (extended (λ w. remainder P A w (word_row A w)) v) v
      (SameWeights-trans (differences-extended P.prime unit (λ w. combination_of A (word_row A w)) v)
      (SameWeights-trans
      (SameWeights-difference (extended-by_units P.prime v)
      (SameWeights-trans (SameWeights-sym (extended-extended P.prime (λ j. unit (basis_word A j)) (word_row A) v)) (SameWeights-extended (λ j. unit (basis_word A j)) zero)))
      (difference-nil P.prime v)))
      (extended_in (λ w. remainder P A w (word_row A w)) v (λ k t l. word_remainder (slice_index_or v k t).0 (good k t l)))
