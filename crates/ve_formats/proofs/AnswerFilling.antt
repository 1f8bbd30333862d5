-- The lines of an answer that can be written fill the places.
use Rattle.std.proofs.Common.{◌≡◌, ℕ, zero, suc, ◌+◌, ◌<◌, ◌⊎◌, inl, inr, List, [], ◌∷◌, ◌++◌, length, get_or, All, Contains, arith, refl, sym, ap, subst, ◌∙◌, append-nil, append_assoc}
use Rattle.std.specs.Prelude.{Some, codes, slice_get, replicate, map}
use Rattle.std.proofs.lemmas.Bool.{cases_lt}
use Rattle.std.proofs.lemmas.List.{get_or_append_left, get_or-append-add, get_or_default, length_push, length-append}
use Rattle.std.proofs.lemmas.List.Elements.{All-get_or, All-head, All-tail}
use Rattle.std.proofs.lemmas.Option.{slice_get-get_or}
use Rattle.ve_theory.specs.Words.{Word, generator, times, start, letters}
use Rattle.ve_theory.specs.Answers as answers
use Rattle.ve_theory.specs.Answers.{Answer, Row, IsRow, IsGrown, none, with_generator, with_child}
use Rattle.ve_lemmas.proofs.Lists.{All-last}
use Rattle.ve_formats.specs.WordText.{word_text}
use Rattle.ve_formats.specs.AnswerText.{image_line, row_line, answer_lines, head_lines, basis_lines, image_lines, letter_lines, matrix_lines}
use Rattle.ve_formats.specs.AnswerReading as places
use Rattle.ve_formats.specs.AnswerReading.{IsWritable, ShowsAnswer, Draft, Place, blank_draft, head_places, body_places, matrix_places, Grows, a_generator, a_child, with_row, Fills, a_version, a_prime, some_names, some_generators, a_level, a_dimension, a_word, an_image, a_letter, a_row, the_end, FillAll, one, opened, answer_in}

-- the draft of a whole answer
pub draft_of : Answer → Draft
draft_of A = record {
  prime = A.prime;
  names = A.names;
  generators = A.generators;
  closed = A.closed;
  dimension = answers.dimension A.action;
  basis = A.action.basis;
  images = A.action.images;
  matrices = A.action.matrices;
}

at_seam : {X : Type 0} (xs ys : List X) (x d : X) → get_or (xs ++ x ∷ ys) (length xs) d ≡ x
at_seam xs ys x d = ap (λ k. get_or (xs ++ x ∷ ys) k d) (omega arith) ∙ get_or-append-add xs (x ∷ ys) 0 d

-- ---- words

-- each basis word is a generator, or one before it times a letter
grown_at : {ws : List Word} → IsGrown ws → (at : ℕ) → at < length ws
    → ((i : ℕ) × (get_or ws at (generator 0) ≡ generator i)) ⊎ ((j : ℕ) × (x : ℕ) × (j < at) × (get_or ws at (generator 0) ≡ times (get_or ws j (generator 0)) x))
grown_at none at inside = absurd (omega (arith, inside))
grown_at (with_generator ws i grown) at inside = elim (cases_lt at (length ws)) [
  | inl below ↦ earlier ws (generator i) at below (grown_at grown at below)
  | inr above ↦ inl (i, ap (λ k. get_or (ws ++ generator i ∷ []) k (generator 0)) (omega (arith, inside, length_push ws (generator i))) ∙ at_seam ws [] (generator i) (generator 0))
]
  where
    earlier : (ws : List Word) (w : Word) (at : ℕ) → at < length ws
        → ((i : ℕ) × (get_or ws at (generator 0) ≡ generator i)) ⊎ ((j : ℕ) × (x : ℕ) × (j < at) × (get_or ws at (generator 0) ≡ times (get_or ws j (generator 0)) x))
        → ((i : ℕ) × (get_or (ws ++ w ∷ []) at (generator 0) ≡ generator i)) ⊎ ((j : ℕ) × (x : ℕ) × (j < at) × (get_or (ws ++ w ∷ []) at (generator 0) ≡ times (get_or (ws ++ w ∷ []) j (generator 0)) x))
    earlier ws w at below (inl g) = inl (g.0, get_or_append_left ws (w ∷ []) (generator 0) at below ∙ g.1)
    earlier ws w at below (inr c) =
        inr (c.0, c.1, c.2, get_or_append_left ws (w ∷ []) (generator 0) at below ∙ c.3 ∙ ap (λ v. times v c.1) (sym (get_or_append_left ws (w ∷ []) (generator 0) c.0 (omega (arith, c.2, below)))))
grown_at (with_child ws j x grown less) at inside = elim (cases_lt at (length ws)) [
  | inl below ↦ earlier ws (times (get_or ws j (generator 0)) x) at below (grown_at grown at below)
  | inr above ↦
      let here : at ≡ length ws = omega (arith, inside, length_push ws (times (get_or ws j (generator 0)) x)) in
      inr (
        j,
        x,
        omega (arith, less, here),
        ap (λ k. get_or (ws ++ times (get_or ws j (generator 0)) x ∷ []) k (generator 0)) here ∙ at_seam ws [] (times (get_or ws j (generator 0)) x) (generator 0)
            ∙ ap (λ v. times v x) (sym (get_or_append_left ws (times (get_or ws j (generator 0)) x ∷ []) (generator 0) j less)),
      )
]
  where
    earlier : (ws : List Word) (w : Word) (at : ℕ) → at < length ws
        → ((i : ℕ) × (get_or ws at (generator 0) ≡ generator i)) ⊎ ((j : ℕ) × (x : ℕ) × (j < at) × (get_or ws at (generator 0) ≡ times (get_or ws j (generator 0)) x))
        → ((i : ℕ) × (get_or (ws ++ w ∷ []) at (generator 0) ≡ generator i)) ⊎ ((j : ℕ) × (x : ℕ) × (j < at) × (get_or (ws ++ w ∷ []) at (generator 0) ≡ times (get_or (ws ++ w ∷ []) j (generator 0)) x))
    earlier ws w at below (inl g) = inl (g.0, get_or_append_left ws (w ∷ []) (generator 0) at below ∙ g.1)
    earlier ws w at below (inr c) =
        inr (c.0, c.1, c.2, get_or_append_left ws (w ∷ []) (generator 0) at below ∙ c.3 ∙ ap (λ v. times v c.1) (sym (get_or_append_left ws (w ∷ []) (generator 0) c.0 (omega (arith, c.2, below)))))

start-generator : (i : ℕ) → start (generator i) ≡ i
unfolding start
start-generator i = refl

letters-times : (w : Word) (x : ℕ) → letters (times w x) ≡ letters w ++ x ∷ []
unfolding letters
letters-times w x = refl

-- the words may be added one after another
unfoldable pub AreAddable : Draft → List Word → Type 0
AreAddable draft [] = Unit {0}
AreAddable draft (w ∷ ws) = Grows draft w × (¬ Contains draft.basis w) × AreAddable (record draft { basis = draft.basis ++ w ∷ [] }) ws

pub addable : (A : Answer) → IsWritable A → (draft : Draft) (front back : List Word) → draft.generators ≡ A.generators → draft.names ≡ A.names → draft.basis ≡ front → A.action.basis ≡ front ++ back → AreAddable draft back
unfolding AreAddable
addable A writable draft front [] generators names basis is = tt
addable A writable draft front (w ∷ back) generators names basis is =
    (grows, fresh, addable A writable (record draft { basis = draft.basis ++ w ∷ [] }) (front ++ w ∷ []) back generators names (ap (λ ws. ws ++ w ∷ []) basis) (is ∙ sym (append_assoc front (w ∷ []) back)))
  where
    words : List Word
    words = A.action.basis

    here : get_or words (length front) (generator 0) ≡ w
    here = ap (λ ws. get_or ws (length front) (generator 0)) is ∙ at_seam front back w (generator 0)

    inside : length front < length words
    inside = omega (arith, ap length is, length-append front (w ∷ back))

    word : (start w < A.generators) × All (λ x. x < length A.names) (letters w)
    word = subst (λ v. (start v < A.generators) × All (λ x. x < length A.names) (letters v)) here (All-get_or (λ v. (start v < A.generators) × All (λ x. x < length A.names) (letters v)) words (length front) (generator 0) inside writable.form.words)

    front_at : (k : ℕ) → k < length front → get_or words k (generator 0) ≡ get_or draft.basis k (generator 0)
    front_at k less = ap (λ ws. get_or ws k (generator 0)) is ∙ get_or_append_left front (w ∷ back) (generator 0) k less ∙ ap (λ ws. get_or ws k (generator 0)) (sym basis)

    fresh : Contains draft.basis w → ⊥
    fresh found =
        let less : found.0 < length front = omega (arith, found.1, ap length basis) in
        let same : get_or words found.0 (generator 0) ≡ w = front_at found.0 less ∙ get_or_default draft.basis found.0 (generator 0) w found.1 ∙ found.2 in
        writable.distinct found.0 (length front) (generator 0) less inside (same ∙ sym here)

    as_generator : (i : ℕ) → w ≡ generator i → Grows draft w
    as_generator i this =
        let below : i < A.generators = subst (λ k. k < A.generators) (start-generator i) (subst (λ v. start v < A.generators) this word.0) in
        subst (Grows draft) (sym this) (a_generator i (omega (arith, below, generators)))

    as_child : (j x : ℕ) → j < length front → w ≡ times (get_or words j (generator 0)) x → Grows draft w
    as_child j x less this =
        let v : Word = get_or words j (generator 0) in
        let within : j < length draft.basis = omega (arith, less, ap length basis) in
        let stands : Contains draft.basis v = (j, within, get_or_default draft.basis j v (generator 0) within ∙ sym (front_at j less)) in
        let last : x < length A.names = All-last (λ y. y < length A.names) (letters v) x (subst (All (λ y. y < length A.names)) (letters-times v x) (subst (λ u. All (λ y. y < length A.names) (letters u)) this word.1)) in
        subst (Grows draft) (sym this) (a_child v x stands (omega (arith, last, ap length names)))

    grows : Grows draft w
    grows = elim (grown_at writable.form.grown (length front) inside) [ inl g ↦ as_generator g.0 (sym here ∙ g.1) | inr c ↦ as_child c.0 c.1 c.2 (sym here ∙ c.3) ]

pub fill_words : (draft : Draft) (ws : List Word) {left : List Place} {lines : List (List ℕ)} {last : Draft} → AreAddable draft ws → FillAll (record draft { basis = draft.basis ++ ws }) left lines last
    → FillAll draft (replicate (length ws) places.word ++ left) (map (λ w. codes "basis " ++ word_text draft.names w) ws ++ lines) last
unfolding AreAddable opened
fill_words draft [] {left} {lines} {last} may rest = subst (λ ws. FillAll (record draft { basis = ws }) left lines last) (append-nil draft.basis) rest
fill_words draft (w ∷ ws) {left} {lines} {last} may rest =
    one (a_word w may.0 may.1)
    (fill_words (record draft { basis = draft.basis ++ w ∷ [] }) ws may.2
    (subst (λ vs. FillAll (record draft { basis = vs }) left lines last) (sym (append_assoc draft.basis (w ∷ []) ws)) rest))

-- ---- rows

pub fill_images : (draft : Draft) (vs : List Row) {left : List Place} {lines : List (List ℕ)} {last : Draft} → All (IsRow draft.prime draft.dimension) vs → FillAll (record draft { images = draft.images ++ vs }) left lines last
    → FillAll draft (replicate (length vs) places.image ++ left) (map (image_line draft.dimension) vs ++ lines) last
unfolding opened
fill_images draft [] {left} {lines} {last} all rest = subst (λ vs. FillAll (record draft { images = vs }) left lines last) (append-nil draft.images) rest
fill_images draft (v ∷ vs) {left} {lines} {last} all rest =
    one (an_image v (All-head (IsRow draft.prime draft.dimension) v vs all))
    (fill_images (record draft { images = draft.images ++ v ∷ [] }) vs (All-tail (IsRow draft.prime draft.dimension) v vs all)
    (subst (λ us. FillAll (record draft { images = us }) left lines last) (sym (append_assoc draft.images (v ∷ []) vs)) rest))

pub with_row-last : (v : Row) (done : List (List Row)) (matrix : List Row) → with_row v (done ++ matrix ∷ []) ≡ done ++ (matrix ++ v ∷ []) ∷ []
unfolding with_row
with_row-last v [] matrix = refl
with_row-last v (m ∷ []) matrix = refl
with_row-last v (m ∷ k ∷ done) matrix = ap (λ ms. m ∷ ms) (with_row-last v (k ∷ done) matrix)

pub fill_rows : (draft : Draft) (done : List (List Row)) (matrix vs : List Row) {left : List Place} {lines : List (List ℕ)} {last : Draft} → All (IsRow draft.prime draft.dimension) vs
    → FillAll (record draft { matrices = done ++ (matrix ++ vs) ∷ [] }) left lines last
    → FillAll (record draft { matrices = done ++ matrix ∷ [] }) (replicate (length vs) places.row ++ left) (map (row_line draft.dimension) vs ++ lines) last
unfolding opened
fill_rows draft done matrix [] {left} {lines} {last} all rest = subst (λ m. FillAll (record draft { matrices = done ++ m ∷ [] }) left lines last) (append-nil matrix) rest
fill_rows draft done matrix (v ∷ vs) {left} {lines} {last} all rest =
    one (a_row v (All-head (IsRow draft.prime draft.dimension) v vs all))
    (subst (λ ms. FillAll (record draft { matrices = ms }) (replicate (length vs) places.row ++ left) (map (row_line draft.dimension) vs ++ lines) last) (sym (with_row-last v done matrix))
    (fill_rows draft done (matrix ++ v ∷ []) vs (All-tail (IsRow draft.prime draft.dimension) v vs all)
    (subst (λ m. FillAll (record draft { matrices = done ++ m ∷ [] }) left lines last) (sym (append_assoc matrix (v ∷ []) vs)) rest)))

-- ---- matrices

-- the lines of n letters from the letter x on
unfoldable pub letters_from : Answer → ℕ → ℕ → List (List ℕ)
letters_from A x zero = []
letters_from A x (suc n) = letter_lines A x ++ letters_from A (suc x) n

matrix_lines-from : (A : Answer) (x n : ℕ) → matrix_lines A x ++ letters_from A x n ≡ matrix_lines A (x + n)
unfolding matrix_lines letters_from
matrix_lines-from A x zero = let same : x ≡ x + 0 = omega arith in append-nil (matrix_lines A x) ∙ ap (matrix_lines A) same
matrix_lines-from A x (suc n) =
    let same : suc x + n ≡ x + suc n = omega arith in
    sym (append_assoc (matrix_lines A x) (letter_lines A x) (letters_from A (suc x) n)) ∙ matrix_lines-from A (suc x) n ∙ ap (matrix_lines A) same

pub matrix_lines-all : (A : Answer) (n : ℕ) → letters_from A 0 n ≡ matrix_lines A n
unfolding matrix_lines
matrix_lines-all A n = let same : 0 + n ≡ n = omega arith in matrix_lines-from A 0 n ∙ ap (matrix_lines A) same

pub fill_matrices : (A : Answer) (draft : Draft) (done more : List (List Row)) {left : List Place} {lines : List (List ℕ)} {last : Draft} → IsWritable A → draft.prime ≡ A.prime → draft.names ≡ A.names → draft.dimension ≡ answers.dimension A.action
    → A.action.matrices ≡ done ++ more → FillAll (record draft { matrices = done ++ more }) left lines last
    → FillAll (record draft { matrices = done }) (matrix_places draft.dimension (length more) ++ left) (letters_from A (length done) (length more) ++ lines) last
unfolding matrix_places letters_from letter_lines opened
fill_matrices A draft done [] {left} {lines} {last} writable prime names dimension is rest = subst (λ ms. FillAll (record draft { matrices = ms }) left lines last) (append-nil done) rest
fill_matrices A draft done (matrix ∷ more) {left} {lines} {last} writable prime names dimension is rest =
    one (a_letter (get_or A.names x []) named)
    (subst (λ ps. FillAll (record draft { matrices = done ++ [] ∷ [] }) ps ((map (row_line (answers.dimension A.action)) (get_or A.action.matrices x []) ++ behind) ++ lines) last) places_are
    (subst (λ ls. FillAll (record draft { matrices = done ++ [] ∷ [] }) (replicate (length matrix) places.row ++ (matrix_places draft.dimension (length more) ++ left)) ls last) lines_are
    (fill_rows draft done [] matrix rows
    (subst (λ n. FillAll (record draft { matrices = done ++ matrix ∷ [] }) (matrix_places draft.dimension (length more) ++ left) (letters_from A n (length more) ++ lines) last) (length_push done matrix ∙ omega arith)
    (fill_matrices A draft (done ++ matrix ∷ []) more writable prime names dimension (is ∙ sym (append_assoc done (matrix ∷ []) more))
    (subst (λ ms. FillAll (record draft { matrices = ms }) left lines last) (sym (append_assoc done (matrix ∷ []) more)) rest))))))
  where
    x : ℕ
    x = length done

    behind : List (List ℕ)
    behind = letters_from A (suc x) (length more)

    inside : x < length A.action.matrices
    inside = omega (arith, ap length is, length-append done (matrix ∷ more))

    here : get_or A.action.matrices x [] ≡ matrix
    here = ap (λ ms. get_or ms x []) is ∙ at_seam done more matrix []

    named : slice_get draft.names x ≡ Some (get_or A.names x [])
    named = ap (λ ns. slice_get ns x) names ∙ slice_get-get_or A.names x [] (omega (arith, inside, writable.form.one_matrix_each))

    size : length matrix ≡ draft.dimension
    size = ap length (sym here) ∙ All-get_or (λ m. length m ≡ answers.dimension A.action) A.action.matrices x [] inside writable.form.square ∙ sym dimension

    rows : All (IsRow draft.prime draft.dimension) matrix
    rows =
        subst (λ p. All (IsRow p draft.dimension) matrix) (sym prime)
        (subst (λ n. All (IsRow A.prime n) matrix) (sym dimension)
        (subst (All (IsRow A.prime (answers.dimension A.action))) here (All-get_or (All (IsRow A.prime (answers.dimension A.action))) A.action.matrices x [] inside writable.form.matrices)))

    places_are : replicate (length matrix) places.row ++ (matrix_places draft.dimension (length more) ++ left) ≡ (replicate draft.dimension places.row ++ matrix_places draft.dimension (length more)) ++ left
    places_are =
        ap (λ n. replicate n places.row ++ (matrix_places draft.dimension (length more) ++ left)) size
        ∙ sym (append_assoc (replicate draft.dimension places.row) (matrix_places draft.dimension (length more)) left)

    lines_are : map (row_line draft.dimension) matrix ++ (behind ++ lines) ≡ (map (row_line (answers.dimension A.action)) (get_or A.action.matrices x []) ++ behind) ++ lines
    lines_are =
        (λ i. map (row_line (dimension i)) (sym here i) ++ (behind ++ lines))
        ∙ sym (append_assoc (map (row_line (answers.dimension A.action)) (get_or A.action.matrices x [])) behind lines)

-- ---- the whole answer

-- the draft behind its first lines
head_draft : Answer → Draft
head_draft A = record blank_draft { prime = A.prime; names = A.names; generators = A.generators; closed = A.closed; dimension = answers.dimension A.action }

fill_body : (A : Answer) → IsWritable A → FillAll (head_draft A) (body_places (head_draft A)) (basis_lines A ++ (image_lines A ++ (matrix_lines A (length A.names) ++ codes "end" ∷ []))) (draft_of A)
unfolding head_draft draft_of basis_lines image_lines opened
fill_body A writable =
    let n = answers.dimension A.action in
    let start = head_draft A in
    let with_words : Draft = record start { basis = A.action.basis } in
    let with_images : Draft = record with_words { images = A.action.images } in
    let whole : Draft = record with_images { matrices = A.action.matrices } in
    let last : FillAll whole (places.end ∷ []) (codes "end" ∷ []) whole = one the_end places.none in
    let matrices : FillAll with_images (matrix_places n (length A.names) ++ places.end ∷ []) (matrix_lines A (length A.names) ++ codes "end" ∷ []) whole =
    subst (λ k. FillAll with_images (matrix_places n k ++ places.end ∷ []) (matrix_lines A k ++ codes "end" ∷ []) whole) writable.form.one_matrix_each
    (subst (λ ls. FillAll with_images (matrix_places n (length A.action.matrices) ++ places.end ∷ []) (ls ++ codes "end" ∷ []) whole) (matrix_lines-all A (length A.action.matrices))
    (fill_matrices A with_images [] A.action.matrices writable refl refl refl refl last)) in
    let images : FillAll with_words (replicate A.generators places.image ++ (matrix_places n (length A.names) ++ places.end ∷ [])) (map (image_line n) A.action.images ++ (matrix_lines A (length A.names) ++ codes "end" ∷ [])) whole =
    subst (λ k. FillAll with_words (replicate k places.image ++ (matrix_places n (length A.names) ++ places.end ∷ [])) (map (image_line n) A.action.images ++ (matrix_lines A (length A.names) ++ codes "end" ∷ [])) whole)
    writable.form.one_image_each (fill_images with_words A.action.images writable.form.images matrices) in
    fill_words start A.action.basis (addable A writable start [] A.action.basis refl refl refl refl) images

fill_body_alone : (A : Answer) → IsWritable A → FillAll (head_draft A) (body_places (head_draft A) ++ []) (basis_lines A ++ (image_lines A ++ (matrix_lines A (length A.names) ++ codes "end" ∷ []))) (draft_of A)
fill_body_alone A writable =
    subst (λ ps. FillAll (head_draft A) ps (basis_lines A ++ (image_lines A ++ (matrix_lines A (length A.names) ++ codes "end" ∷ []))) (draft_of A)) (sym (append-nil (body_places (head_draft A)))) (fill_body A writable)

pub fill_answer : (A : Answer) → IsWritable A → FillAll blank_draft head_places (answer_lines A) (draft_of A)
unfolding answer_lines head_lines opened head_draft
fill_answer A writable =
    one a_version
    (one (a_prime A.prime writable.prime)
    (one (some_names A.names writable.names)
    (one (some_generators A.generators writable.generators.0 writable.generators.1)
    (one (a_level A.closed writable.closed)
    (one (a_dimension (answers.dimension A.action) writable.dimension) (fill_body_alone A writable))))))

pub answer_of_draft : (A : Answer) → answer_in (draft_of A) ≡ A
unfolding answer_in draft_of
answer_of_draft A = refl
