-- A line fills a place in one way.
use Rattle.std.proofs.Common.{◌≡◌, ℕ, zero, suc, ◌^◌, ◌<◌, ◌≤◌, ◌⊎◌, List, [], ◌∷◌, ◌++◌, length, All, Contains, get_or, arith, refl, sym, ap, subst, ◌∙◌}
use Rattle.std.specs.Prelude.{Some, codes, slice_get, replicate}
use Rattle.std.proofs.lemmas.List.{append_cancel_left}
use Rattle.std.proofs.lemmas.List.Elements.{All-get_or, All-append, All-replicate, All-nil, All-cons}
use Rattle.ve_theory.specs.Residues.{IsFieldPrime}
use Rattle.ve_theory.specs.Words.{Word, start, letters}
use Rattle.ve_theory.specs.Validity.{most_generators}
use Rattle.ve_theory.specs.Answers.{Row, IsRow}
use Rattle.ve_theory.specs.Laws.{ReducedListsAreUnique}
use Rattle.ve_formats.specs.Lines.{each_after_space}
use Rattle.ve_formats.specs.WordText.{word_text}
use Rattle.ve_formats.specs.AnswerText.{numbered, image_line, row_line}
use Rattle.ve_formats.specs.AnswerReading as places
use Rattle.ve_formats.specs.AnswerReading.{AreNames, Draft, Place, Grows, a_generator, a_child, with_row, Fills, a_version, a_prime, some_names, some_generators, a_level, a_dimension, a_word, an_image, a_letter, a_row, the_end, FailAt, misfit, too_few, too_many, later, opened}
use Rattle.ve_formats.proofs.SpacedPieces.{IsWritten, Lacks, words_once, numbers_once, pieces_once, name_lacks}
use Rattle.ve_formats.proofs.CanonicalLines.{prime_small}
use Rattle.ve_formats.proofs.AnswerRows.{rows_once}

-- ---- what a line is that fills a place, and what it leaves

pub version_filled : {draft next : Draft} {line : List ℕ} → Fills draft places.version line next → (line ≡ codes "venum-answer 1") × (next ≡ draft)
version_filled a_version = (refl, refl)

pub prime_filled : {draft next : Draft} {line : List ℕ} → Fills draft places.prime line next → (p : ℕ) × IsFieldPrime p × (line ≡ numbered (codes "prime") p) × (next ≡ record draft { prime = p })
prime_filled (a_prime p is) = (p, is, refl, refl)

pub names_filled : {draft next : Draft} {line : List ℕ} → Fills draft places.names line next → (xs : List (List ℕ)) × AreNames xs × (line ≡ codes "letters" ++ each_after_space xs) × (next ≡ record draft { names = xs })
names_filled (some_names xs are) = (xs, are, refl, refl)

pub generators_filled : {draft next : Draft} {line : List ℕ} → Fills draft places.generators line next
    → (s : ℕ) × (0 < s) × (s ≤ most_generators) × (line ≡ numbered (codes "module") s) × (next ≡ record draft { generators = s })
generators_filled (some_generators s some most) = (s, some, most, refl, refl)

pub level_filled : {draft next : Draft} {line : List ℕ} → Fills draft places.closed line next → (k : ℕ) × (k < 2 ^ 32) × (line ≡ numbered (codes "closed") k) × (next ≡ record draft { closed = k })
level_filled (a_level k small) = (k, small, refl, refl)

pub dimension_filled : {draft next : Draft} {line : List ℕ} → Fills draft places.dimension line next
    → (d : ℕ) × (d < 2 ^ 32) × (line ≡ numbered (codes "dimension") d) × (next ≡ record draft { dimension = d })
dimension_filled (a_dimension d small) = (d, small, refl, refl)

pub word_filled : {draft next : Draft} {line : List ℕ} → Fills draft places.word line next
    → (w : Word) × Grows draft w × (¬ Contains draft.basis w) × (line ≡ codes "basis " ++ word_text draft.names w) × (next ≡ record draft { basis = draft.basis ++ w ∷ [] })
word_filled (a_word w grows fresh) = (w, grows, fresh, refl, refl)

pub image_filled : {draft next : Draft} {line : List ℕ} → Fills draft places.image line next
    → (v : Row) × IsRow draft.prime draft.dimension v × (line ≡ image_line draft.dimension v) × (next ≡ record draft { images = draft.images ++ v ∷ [] })
image_filled (an_image v is) = (v, is, refl, refl)

pub letter_filled : {draft next : Draft} {line : List ℕ} → Fills draft places.letter line next
    → (x : List ℕ) × (slice_get draft.names (length draft.matrices) ≡ Some x) × (line ≡ codes "letter " ++ x) × (next ≡ record draft { matrices = draft.matrices ++ [] ∷ [] })
letter_filled (a_letter x found) = (x, found, refl, refl)

pub row_filled : {draft next : Draft} {line : List ℕ} → Fills draft places.row line next
    → (v : Row) × IsRow draft.prime draft.dimension v × (line ≡ row_line draft.dimension v) × (next ≡ record draft { matrices = with_row v draft.matrices })
row_filled (a_row v is) = (v, is, refl, refl)

pub end_filled : {draft next : Draft} {line : List ℕ} → Fills draft places.end line next → (line ≡ codes "end") × (next ≡ draft)
end_filled the_end = (refl, refl)

-- ---- drafts whose lines can be told apart

pub record IsKept (draft : Draft) : Type 0 where
  pub prime : draft.prime < 2 ^ 32
  pub names : AreNames draft.names
  pub generators : draft.generators ≤ most_generators
  pub words : All (IsWritten draft.names) draft.basis

pub grown_written : {draft : Draft} → IsKept draft → (w : Word) → Grows draft w → IsWritten draft.names w
unfolding start letters
grown_written kept _ (a_generator i less) = (omega (arith, less, kept.generators), All-nil (λ x. x < length _))
grown_written {draft} kept _ (a_child v x found less) =
    let old : IsWritten draft.names v = subst (IsWritten draft.names) found.2 (All-get_or (IsWritten draft.names) draft.basis found.0 v found.1 kept.words) in
    (old.0, All-append (λ y. y < length draft.names) (letters v) (x ∷ []) old.1 (All-cons (λ y. y < length draft.names) x [] less (All-nil (λ y. y < length draft.names))))

pub names_lack : (names : List (List ℕ)) → AreNames names → All (Lacks 32) names
names_lack names are k d inside = name_lacks 32 refl (get_or names k d) (are.formed k d inside).0

module _ (unique : ReducedListsAreUnique) where
  pub fills_once : (place : Place) {draft next other : Draft} {line : List ℕ} → IsKept draft → Fills draft place line next → Fills draft place line other → next ≡ other
  fills_once places.version kept f g = (version_filled f).1 ∙ sym (version_filled g).1
  fills_once places.prime {draft} kept f g =
      let a = prime_filled f in
      let b = prime_filled g in
      a.3 ∙ ap (λ p. record draft { prime = p }) (numbers_once (codes "prime") a.0 b.0 (omega (arith, prime_small a.0 a.1)) (omega (arith, prime_small b.0 b.1)) (sym a.2 ∙ b.2)) ∙ sym b.3
  fills_once places.names {draft} kept f g =
      let a = names_filled f in
      let b = names_filled g in
      a.3 ∙ ap (λ xs. record draft { names = xs }) (pieces_once a.0 b.0 (names_lack a.0 a.1) (names_lack b.0 b.1) (append_cancel_left (codes "letters") _ _ (sym a.2 ∙ b.2))) ∙ sym b.3
  fills_once places.generators {draft} kept f g =
      let a = generators_filled f in
      let b = generators_filled g in
      a.4 ∙ ap (λ s. record draft { generators = s }) (numbers_once (codes "module") a.0 b.0 (omega (arith, a.2)) (omega (arith, b.2)) (sym a.3 ∙ b.3)) ∙ sym b.4
  fills_once places.closed {draft} kept f g =
      let a = level_filled f in
      let b = level_filled g in
      a.3 ∙ ap (λ k. record draft { closed = k }) (numbers_once (codes "closed") a.0 b.0 (omega (arith, a.1)) (omega (arith, b.1)) (sym a.2 ∙ b.2)) ∙ sym b.3
  fills_once places.dimension {draft} kept f g =
      let a = dimension_filled f in
      let b = dimension_filled g in
      a.3 ∙ ap (λ d. record draft { dimension = d }) (numbers_once (codes "dimension") a.0 b.0 (omega (arith, a.1)) (omega (arith, b.1)) (sym a.2 ∙ b.2)) ∙ sym b.3
  fills_once places.word {draft} kept f g =
      let a = word_filled f in
      let b = word_filled g in
      let texts : word_text draft.names a.0 ≡ word_text draft.names b.0 = append_cancel_left (codes "basis ") _ _ (sym a.3 ∙ b.3) in
      a.4 ∙ ap (λ w. record draft { basis = draft.basis ++ w ∷ [] }) (words_once draft.names kept.names a.0 b.0 (grown_written kept a.0 a.1) (grown_written kept b.0 b.1) texts) ∙ sym b.4
  fills_once places.image {draft} kept f g =
      let a = image_filled f in
      let b = image_filled g in
      a.3 ∙ ap (λ v. record draft { images = draft.images ++ v ∷ [] }) (rows_once unique draft.prime draft.dimension kept.prime a.0 b.0 a.1 b.1 (append_cancel_left (codes "image") _ _ (sym a.2 ∙ b.2))) ∙ sym b.3
  fills_once places.letter kept f g = (letter_filled f).3 ∙ sym (letter_filled g).3
  fills_once places.row {draft} kept f g =
      let a = row_filled f in
      let b = row_filled g in
      a.3 ∙ ap (λ v. record draft { matrices = with_row v draft.matrices }) (rows_once unique draft.prime draft.dimension kept.prime a.0 b.0 a.1 b.1 (append_cancel_left (codes "row") _ _ (sym a.2 ∙ b.2))) ∙ sym b.3
  fills_once places.end kept f g = (end_filled f).1 ∙ sym (end_filled g).1

-- ---- what each line keeps

-- places of the body, and the places that are left while its first lines are read
abbrev pub IsOfBody : Place → Type 0
IsOfBody places.version = ⊥
IsOfBody places.prime = ⊥
IsOfBody places.names = ⊥
IsOfBody places.generators = ⊥
IsOfBody places.closed = ⊥
IsOfBody places.dimension = ⊥
IsOfBody places.word = Unit {0}
IsOfBody places.image = Unit {0}
IsOfBody places.letter = Unit {0}
IsOfBody places.row = Unit {0}
IsOfBody places.end = Unit {0}

pub data IsOfHead : List Place → Type 0 where
  six : IsOfHead places.head_places
  five : IsOfHead (places.prime ∷ places.names ∷ places.generators ∷ places.closed ∷ places.dimension ∷ [])
  four : IsOfHead (places.names ∷ places.generators ∷ places.closed ∷ places.dimension ∷ [])
  three : IsOfHead (places.generators ∷ places.closed ∷ places.dimension ∷ [])
  two : IsOfHead (places.closed ∷ places.dimension ∷ [])
  one_left : IsOfHead (places.dimension ∷ [])

-- a draft with the places that are left
pub record IsOnTheWay (draft : Draft) (left : List Place) : Type 0 where
  pub kept : IsKept draft
  pub where_ : ((draft.basis ≡ []) × IsOfHead left) ⊎ All IsOfBody left

matrix_places_of_body : (rows n : ℕ) → All IsOfBody (places.matrix_places rows n)
unfolding places.matrix_places
matrix_places_of_body rows zero = All-nil IsOfBody
matrix_places_of_body rows (suc n) =
    All-cons IsOfBody places.letter (replicate rows places.row ++ places.matrix_places rows n) tt
    (All-append IsOfBody (replicate rows places.row) (places.matrix_places rows n) (All-replicate IsOfBody rows places.row tt) (matrix_places_of_body rows n))

pub body_of_body : (draft : Draft) → All IsOfBody (places.body_places draft)
body_of_body draft =
    let n = length draft.names in
    let closing : All IsOfBody (places.matrix_places draft.dimension n ++ places.end ∷ []) =
    All-append IsOfBody (places.matrix_places draft.dimension n) (places.end ∷ []) (matrix_places_of_body draft.dimension n) (All-cons IsOfBody places.end [] tt (All-nil IsOfBody)) in
    All-append IsOfBody (replicate draft.dimension places.word) _ (All-replicate IsOfBody draft.dimension places.word tt)
    (All-append IsOfBody (replicate draft.generators places.image) _ (All-replicate IsOfBody draft.generators places.image tt) closing)

-- the draft behind a line, in the body
pub body_kept : (place : Place) {draft next : Draft} {line : List ℕ} → IsOfBody place → IsKept draft → Fills draft place line next → IsKept next
body_kept places.version of kept f = absurd of
body_kept places.prime of kept f = absurd of
body_kept places.names of kept f = absurd of
body_kept places.generators of kept f = absurd of
body_kept places.closed of kept f = absurd of
body_kept places.dimension of kept f = absurd of
body_kept places.word {draft} of kept f =
    let a = word_filled f in
    subst IsKept (sym a.4)
    (record {
      prime = kept.prime;
      names = kept.names;
      generators = kept.generators;
      words = All-append (IsWritten draft.names) draft.basis (a.0 ∷ []) kept.words (All-cons (IsWritten draft.names) a.0 [] (grown_written kept a.0 a.1) (All-nil (IsWritten draft.names)));
    })
body_kept places.image of kept f = subst IsKept (sym (image_filled f).3) (record { prime = kept.prime; names = kept.names; generators = kept.generators; words = kept.words })
body_kept places.letter of kept f = subst IsKept (sym (letter_filled f).3) (record { prime = kept.prime; names = kept.names; generators = kept.generators; words = kept.words })
body_kept places.row of kept f = subst IsKept (sym (row_filled f).3) (record { prime = kept.prime; names = kept.names; generators = kept.generators; words = kept.words })
body_kept places.end of kept f = subst IsKept (sym (end_filled f).1) kept
