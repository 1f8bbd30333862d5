-- Lines that fill all places are the lines of the answer that they fill, and it can be written.
use Rattle.std.proofs.Common.{◌≡◌, ◌≢◌, ℕ, zero, suc, ◌+◌, ◌^◌, ◌<◌, ◌≤◌, inl, inr, List, [], ◌∷◌, ◌++◌, length, get_or, All, AllPairs, Contains, arith, refl, sym, ap, subst, ◌∙◌, append-nil, append_assoc}
use Rattle.std.specs.Prelude.{codes, replicate, map}
use Rattle.std.proofs.lemmas.Bool.{cases_lt}
use Rattle.std.proofs.lemmas.List.{get_or_append_left, get_or-append-add, get_or_default, length_push}
use Rattle.std.proofs.lemmas.List.Elements.{All-get_or, All-nil, All-cons, All-append}
use Rattle.std.proofs.lemmas.Option.{get_or_from_slice_get}
use Rattle.ve_theory.specs.Residues.{IsFieldPrime}
use Rattle.ve_theory.specs.Words.{Word, generator, times, start, letters}
use Rattle.ve_theory.specs.Answers as answers
use Rattle.ve_theory.specs.Answers.{Answer, Row, IsRow, IsGrown, with_generator, with_child}
use Rattle.ve_theory.specs.Validity.{most_generators}
use Rattle.ve_formats.specs.Lines.{each_after_space}
use Rattle.ve_formats.specs.WordText.{word_text}
use Rattle.ve_formats.specs.AnswerText.{numbered, image_line, row_line, answer_lines, head_lines, basis_lines, image_lines, letter_lines, matrix_lines}
use Rattle.ve_formats.specs.AnswerReading as places
use Rattle.ve_formats.specs.AnswerReading.{AreNames, IsWritable, Draft, Place, blank_draft, head_places, body_places, matrix_places, Grows, a_generator, a_child, with_row, Fills, FillAll, one, opened, answer_in}
use Rattle.ve_formats.proofs.AnswerSteps.{version_filled, prime_filled, names_filled, generators_filled, level_filled, dimension_filled, word_filled, image_filled, letter_filled, row_filled, end_filled}
use Rattle.ve_formats.proofs.AnswerFilling.{AreAddable, letters_from, with_row-last, matrix_lines-all}

-- ---- the first line

record Taken (draft : Draft) (place : Place) (left : List Place) (lines : List (List ℕ)) (last : Draft) : Type 0 where
  line : List ℕ
  behind : List (List ℕ)
  next : Draft
  are : lines ≡ line ∷ behind
  fills : Fills draft place line next
  rest : FillAll next (opened place next ++ left) behind last

taken : {draft last : Draft} {place : Place} {left : List Place} {lines : List (List ℕ)} → FillAll draft (place ∷ left) lines last → Taken draft place left lines last
taken (one {next} {line} {lines} fills rest) = record { line = line; behind = lines; next = next; are = refl; fills = fills; rest = rest }

-- no line where no place is left
nothing_taken : {draft last : Draft} {lines : List (List ℕ)} → FillAll draft [] lines last → (lines ≡ []) × (last ≡ draft)
nothing_taken places.none = (refl, refl)

-- ---- words

record WordsTaken (draft : Draft) (n : ℕ) (left : List Place) (lines : List (List ℕ)) (last : Draft) : Type 0 where
  words : List Word
  count : length words ≡ n
  behind : List (List ℕ)
  are : lines ≡ map (λ w. codes "basis " ++ word_text draft.names w) words ++ behind
  may : AreAddable draft words
  rest : FillAll (record draft { basis = draft.basis ++ words }) left behind last

words_taken : (n : ℕ) (draft : Draft) {left : List Place} {lines : List (List ℕ)} {last : Draft} → FillAll draft (replicate n places.word ++ left) lines last → WordsTaken draft n left lines last
unfolding AreAddable opened
words_taken zero draft {left} {lines} {last} fill =
    record { words = []; count = refl; behind = lines; are = refl; may = tt; rest = subst (λ ws. FillAll (record draft { basis = ws }) left lines last) (sym (append-nil draft.basis)) fill }
words_taken (suc n) draft {left} {lines} {last} fill =
    let first = taken fill in
    let word = word_filled first.fills in
    let w : Word = word.0 in
    let longer : Draft = record draft { basis = draft.basis ++ w ∷ [] } in
    let more = words_taken n longer (subst (λ d. FillAll d (replicate n places.word ++ left) first.behind last) word.4 first.rest) in
    record {
      words = w ∷ more.words;
      count = ap suc more.count;
      behind = more.behind;
      are = first.are ∙ (λ i. word.3 i ∷ more.are i);
      may = (word.1, word.2, more.may);
      rest = subst (λ ws. FillAll (record draft { basis = ws }) left more.behind last) (append_assoc draft.basis (w ∷ []) more.words) more.rest;
    }

-- ---- rows

record ImagesTaken (draft : Draft) (n : ℕ) (left : List Place) (lines : List (List ℕ)) (last : Draft) : Type 0 where
  rows : List Row
  count : length rows ≡ n
  behind : List (List ℕ)
  are : lines ≡ map (image_line draft.dimension) rows ++ behind
  each : All (IsRow draft.prime draft.dimension) rows
  rest : FillAll (record draft { images = draft.images ++ rows }) left behind last

images_taken : (n : ℕ) (draft : Draft) {left : List Place} {lines : List (List ℕ)} {last : Draft} → FillAll draft (replicate n places.image ++ left) lines last → ImagesTaken draft n left lines last
unfolding opened
images_taken zero draft {left} {lines} {last} fill =
    record { rows = []; count = refl; behind = lines; are = refl; each = All-nil (IsRow draft.prime draft.dimension); rest = subst (λ vs. FillAll (record draft { images = vs }) left lines last) (sym (append-nil draft.images)) fill }
images_taken (suc n) draft {left} {lines} {last} fill =
    let first = taken fill in
    let row = image_filled first.fills in
    let v : Row = row.0 in
    let longer : Draft = record draft { images = draft.images ++ v ∷ [] } in
    let more = images_taken n longer (subst (λ d. FillAll d (replicate n places.image ++ left) first.behind last) row.3 first.rest) in
    record {
      rows = v ∷ more.rows;
      count = ap suc more.count;
      behind = more.behind;
      are = first.are ∙ (λ i. row.2 i ∷ more.are i);
      each = All-cons (IsRow draft.prime draft.dimension) v more.rows row.1 more.each;
      rest = subst (λ vs. FillAll (record draft { images = vs }) left more.behind last) (append_assoc draft.images (v ∷ []) more.rows) more.rest;
    }

record RowsTaken (draft : Draft) (done : List (List Row)) (matrix : List Row) (n : ℕ) (left : List Place) (lines : List (List ℕ)) (last : Draft) : Type 0 where
  rows : List Row
  count : length rows ≡ n
  behind : List (List ℕ)
  are : lines ≡ map (row_line draft.dimension) rows ++ behind
  each : All (IsRow draft.prime draft.dimension) rows
  rest : FillAll (record draft { matrices = done ++ (matrix ++ rows) ∷ [] }) left behind last

rows_taken : (n : ℕ) (draft : Draft) (done : List (List Row)) (matrix : List Row) {left : List Place} {lines : List (List ℕ)} {last : Draft}
    → FillAll (record draft { matrices = done ++ matrix ∷ [] }) (replicate n places.row ++ left) lines last → RowsTaken draft done matrix n left lines last
unfolding opened
rows_taken zero draft done matrix {left} {lines} {last} fill =
    record { rows = []; count = refl; behind = lines; are = refl; each = All-nil (IsRow draft.prime draft.dimension); rest = subst (λ m. FillAll (record draft { matrices = done ++ m ∷ [] }) left lines last) (sym (append-nil matrix)) fill }
rows_taken (suc n) draft done matrix {left} {lines} {last} fill =
    let first = taken fill in
    let row = row_filled first.fills in
    let v : Row = row.0 in
    let next : first.next ≡ record draft { matrices = done ++ (matrix ++ v ∷ []) ∷ [] } = row.3 ∙ ap (λ ms. record draft { matrices = ms }) (with_row-last v done matrix) in
    let more = rows_taken n draft done (matrix ++ v ∷ []) (subst (λ d. FillAll d (replicate n places.row ++ left) first.behind last) next first.rest) in
    record {
      rows = v ∷ more.rows;
      count = ap suc more.count;
      behind = more.behind;
      are = first.are ∙ (λ i. row.2 i ∷ more.are i);
      each = All-cons (IsRow draft.prime draft.dimension) v more.rows row.1 more.each;
      rest = subst (λ m. FillAll (record draft { matrices = done ++ m ∷ [] }) left more.behind last) (append_assoc matrix (v ∷ []) more.rows) more.rest;
    }

-- ---- matrices

-- the lines of matrices of the letters from x on
pub matrices_from : List (List ℕ) → ℕ → ℕ → List (List Row) → List (List ℕ)
matrices_from names n x [] = []
matrices_from names n x (matrix ∷ more) = ((codes "letter " ++ get_or names x []) ∷ map (row_line n) matrix) ++ matrices_from names n (suc x) more

record MatricesTaken (draft : Draft) (done : List (List Row)) (n : ℕ) (left : List Place) (lines : List (List ℕ)) (last : Draft) : Type 0 where
  matrices : List (List Row)
  count : length matrices ≡ n
  behind : List (List ℕ)
  are : lines ≡ matrices_from draft.names draft.dimension (length done) matrices ++ behind
  square : All (λ m. length m ≡ draft.dimension) matrices
  each : All (All (IsRow draft.prime draft.dimension)) matrices
  rest : FillAll (record draft { matrices = done ++ matrices }) left behind last

matrices_taken : (n : ℕ) (draft : Draft) (done : List (List Row)) {left : List Place} {lines : List (List ℕ)} {last : Draft}
    → FillAll (record draft { matrices = done }) (matrix_places draft.dimension n ++ left) lines last → MatricesTaken draft done n left lines last
unfolding matrices_from matrix_places opened
matrices_taken zero draft done {left} {lines} {last} fill =
    record {
      matrices = [];
      count = refl;
      behind = lines;
      are = refl;
      square = All-nil (λ m. length m ≡ draft.dimension);
      each = All-nil (All (IsRow draft.prime draft.dimension));
      rest = subst (λ ms. FillAll (record draft { matrices = ms }) left lines last) (sym (append-nil done)) fill;
    }
matrices_taken (suc n) draft done {left} {lines} {last} fill =
    let first = taken fill in
    let named = letter_filled first.fills in
    let name : named.0 ≡ get_or draft.names (length done) [] = sym (get_or_from_slice_get draft.names (length done) named.0 [] named.1) in
    let split : (replicate draft.dimension places.row ++ matrix_places draft.dimension n) ++ left ≡ replicate draft.dimension places.row ++ (matrix_places draft.dimension n ++ left) =
    append_assoc (replicate draft.dimension places.row) (matrix_places draft.dimension n) left in
    let rows = rows_taken draft.dimension draft done []
    (subst (λ ps. FillAll (record draft { matrices = done ++ [] ∷ [] }) ps first.behind last) split
    (subst (λ d. FillAll d ((replicate draft.dimension places.row ++ matrix_places draft.dimension n) ++ left) first.behind last) named.3 first.rest)) in
    let more = matrices_taken n draft (done ++ rows.rows ∷ []) rows.rest in
    let further : length (done ++ rows.rows ∷ []) ≡ suc (length done) = length_push done rows.rows ∙ omega arith in
    record {
      matrices = rows.rows ∷ more.matrices;
      count = ap suc more.count;
      behind = more.behind;
      are = first.are
          ∙ (λ i. (named.2 ∙ ap (λ x. codes "letter " ++ x) name) i ∷ (rows.are ∙ ap (λ ls. map (row_line draft.dimension) rows.rows ++ ls) (more.are ∙ ap (λ x. matrices_from draft.names draft.dimension x more.matrices ++ more.behind) further)) i)
          ∙ sym (append_assoc ((codes "letter " ++ get_or draft.names (length done) []) ∷ map (row_line draft.dimension) rows.rows) (matrices_from draft.names draft.dimension (suc (length done)) more.matrices) more.behind);
      square = All-cons (λ m. length m ≡ draft.dimension) rows.rows more.matrices rows.count more.square;
      each = All-cons (All (IsRow draft.prime draft.dimension)) rows.rows more.matrices rows.each more.each;
      rest = subst (λ ms. FillAll (record draft { matrices = ms }) left more.behind last) (append_assoc done (rows.rows ∷ []) more.matrices) more.rest;
    }

matrices_from-letters : (A : Answer) (d : ℕ) (done more : List (List Row)) → d ≡ answers.dimension A.action → A.action.matrices ≡ done ++ more → matrices_from A.names d (length done) more ≡ letters_from A (length done) (length more)
unfolding matrices_from letters_from letter_lines
matrices_from-letters A d done [] size is = refl
matrices_from-letters A d done (matrix ∷ more) size is =
    let here : get_or A.action.matrices (length done) [] ≡ matrix =
    ap (λ ms. get_or ms (length done) []) is ∙ ap (λ k. get_or (done ++ matrix ∷ more) k []) (add-zero-sym (length done)) ∙ get_or-append-add done (matrix ∷ more) 0 [] in
    let further : length (done ++ matrix ∷ []) ≡ suc (length done) = length_push done matrix ∙ omega arith in
    let rest : matrices_from A.names d (suc (length done)) more ≡ letters_from A (suc (length done)) (length more) =
    subst (λ x. matrices_from A.names d x more ≡ letters_from A x (length more)) further (matrices_from-letters A d (done ++ matrix ∷ []) more size (is ∙ sym (append_assoc done (matrix ∷ []) more))) in
    λ i. ((codes "letter " ++ get_or A.names (length done) []) ∷ map (row_line (size i)) (sym here i)) ++ rest i
  where
    add-zero-sym : (n : ℕ) → n ≡ n + 0
    add-zero-sym n = omega arith

-- ---- the basis

record IsBasis (draft : Draft) : Type 0 where
  grown : IsGrown draft.basis
  words : All (λ w. (start w < draft.generators) × All (λ x. x < length draft.names) (letters w)) draft.basis
  distinct : AllPairs ◌≢◌ draft.basis

good_word : {draft : Draft} → IsBasis draft → (w : Word) → Grows draft w → (start w < draft.generators) × All (λ x. x < length draft.names) (letters w)
unfolding start letters
good_word basis _ (a_generator i less) = (less, All-nil (λ x. x < length _))
good_word {draft} basis _ (a_child v x found less) =
    let old : (start v < draft.generators) × All (λ y. y < length draft.names) (letters v) =
    subst (λ (u : Word). (start u < draft.generators) × All (λ y. y < length draft.names) (letters u)) found.2 (All-get_or (λ (u : Word). (start u < draft.generators) × All (λ y. y < length draft.names) (letters u)) draft.basis found.0 v found.1 basis.words) in
    (old.0, All-append (λ y. y < length draft.names) (letters v) (x ∷ []) old.1 (All-cons (λ y. y < length draft.names) x [] less (All-nil (λ y. y < length draft.names))))

grown_by : {draft : Draft} → IsBasis draft → (w : Word) → Grows draft w → IsGrown (draft.basis ++ w ∷ [])
grown_by {draft} basis _ (a_generator i less) = with_generator draft.basis i basis.grown
grown_by {draft} basis _ (a_child v x found less) =
    subst (λ u. IsGrown (draft.basis ++ times u x ∷ [])) (get_or_default draft.basis found.0 (generator 0) v found.1 ∙ found.2) (with_child draft.basis found.0 x basis.grown found.1)

distinct_more : (ws : List Word) (w : Word) → AllPairs ◌≢◌ ws → ¬ Contains ws w → AllPairs ◌≢◌ (ws ++ w ∷ [])
distinct_more ws w distinct fresh i j d less inside same =
    elim (cases_lt j (length ws)) [
      | inl below ↦ distinct i j d less below (sym (get_or_append_left ws (w ∷ []) d i (omega (arith, less, below))) ∙ same ∙ get_or_append_left ws (w ∷ []) d j below)
      | inr above ↦
          let place : j ≡ length ws + 0 = omega (arith, inside, length_push ws w) in
          let within : i < length ws = omega (arith, less, place) in
          let last : get_or (ws ++ w ∷ []) j d ≡ w = ap (λ k. get_or (ws ++ w ∷ []) k d) place ∙ get_or-append-add ws (w ∷ []) 0 d in
          fresh (i, within, get_or_default ws i w d within ∙ sym (get_or_append_left ws (w ∷ []) d i within) ∙ same ∙ last)
    ]

basis_by : (draft : Draft) (ws : List Word) → IsBasis draft → AreAddable draft ws → IsBasis (record draft { basis = draft.basis ++ ws })
unfolding AreAddable
basis_by draft [] basis may = subst (λ ws. IsBasis (record draft { basis = ws })) (sym (append-nil draft.basis)) basis
basis_by draft (w ∷ ws) basis may =
    subst (λ vs. IsBasis (record draft { basis = vs })) (append_assoc draft.basis (w ∷ []) ws)
    (basis_by (record draft { basis = draft.basis ++ w ∷ [] }) ws
    (record {
      grown = grown_by basis w may.0;
      words = All-append (λ (u : Word). (start u < draft.generators) × All (λ y. y < length draft.names) (letters u)) draft.basis (w ∷ []) basis.words
          (All-cons (λ (u : Word). (start u < draft.generators) × All (λ y. y < length draft.names) (letters u)) w [] (good_word basis w may.0) (All-nil (λ (u : Word). (start u < draft.generators) × All (λ y. y < length draft.names) (letters u))));
      distinct = distinct_more draft.basis w basis.distinct may.1;
    })
    may.2)

-- ---- the whole answer

pub record Shown (lines : List (List ℕ)) (A : Answer) : Type 0 where
  pub lines_are : lines ≡ answer_lines A
  pub writable : IsWritable A

-- what the first lines say
abbrev told : (p : ℕ) → List (List ℕ) → (s k d : ℕ) → Draft
told p names s k d = record blank_draft { prime = p; names = names; generators = s; closed = k; dimension = d }

abbrev first_lines : (p : ℕ) → List (List ℕ) → (s k d : ℕ) → List (List ℕ) → List (List ℕ)
first_lines p names s k d behind =
    codes "venum-answer 1"
    ∷ numbered (codes "prime") p
    ∷ (codes "letters" ++ each_after_space names)
    ∷ numbered (codes "module") s
    ∷ numbered (codes "closed") k
    ∷ numbered (codes "dimension") d
    ∷ behind

module _ (p : ℕ) (names : List (List ℕ)) (s k d : ℕ) (field : IsFieldPrime p) (are_names : AreNames names) (some : 0 < s) (most : s ≤ most_generators) (level : k < 2 ^ 32) (small : d < 2 ^ 32) where
  nothing_yet : IsBasis (told p names s k d)
  nothing_yet = record { grown = answers.none; words = All-nil _; distinct = λ i j e less inside. absurd (omega (arith, inside)) }

  body_shown : {lines : List (List ℕ)} {last : Draft} → FillAll (told p names s k d) (body_places (told p names s k d)) lines last → Shown (first_lines p names s k d lines) (answer_in last)
  unfolding answer_in answer_lines head_lines basis_lines image_lines opened
  body_shown {lines} {last} fill =
      let start : Draft = told p names s k d in
      let W = words_taken d start fill in
      let with_words : Draft = record start { basis = W.words } in
      let I = images_taken s with_words W.rest in
      let with_images : Draft = record with_words { images = I.rows } in
      let M = matrices_taken (length names) with_images [] I.rest in
      let E = taken M.rest in
      let ended = end_filled E.fills in
      let whole : Draft = record with_images { matrices = M.matrices } in
      let over = nothing_taken (subst (λ e. FillAll e [] E.behind last) ended.1 E.rest) in
      let A : Answer = answer_in whole in
      let closing : M.behind ≡ codes "end" ∷ [] = E.are ∙ (λ i. ended.0 i ∷ over.0 i) in
      let size : d ≡ length W.words = sym W.count in
      let matrices : matrices_from names d 0 M.matrices ≡ matrix_lines A (length names) =
      matrices_from-letters A d [] M.matrices size refl ∙ ap (letters_from A 0) M.count ∙ matrix_lines-all A (length names) in
      let body : lines ≡ map (λ w. codes "basis " ++ word_text names w) W.words ++ (map (image_line (length W.words)) I.rows ++ (matrix_lines A (length names) ++ codes "end" ∷ [])) =
      W.are ∙ ap (λ ls. map (λ w. codes "basis " ++ word_text names w) W.words ++ ls)
      (I.are ∙ (λ i. map (image_line (size i)) I.rows ++ (M.are ∙ (λ j. matrices j ++ closing j)) i)) in
      let good : IsBasis with_words = basis_by start W.words nothing_yet W.may in
      let writable : IsWritable A = record {
        prime = field;
        names = are_names;
        generators = (some, most);
        closed = level;
        dimension = omega (arith, W.count, small);
        form = record {
          one_image_each = I.count;
          one_matrix_each = M.count;
          square = subst (λ n. All (λ m. length m ≡ n) M.matrices) size M.square;
          images = subst (λ n. All (IsRow p n) I.rows) size I.each;
          matrices = subst (λ n. All (All (IsRow p n)) M.matrices) size M.each;
          words = good.words;
          grown = good.grown;
        };
        distinct = good.distinct;
      } in
      subst (λ e. Shown (first_lines p names s k d lines) (answer_in e)) (sym over.1)
      (record {
        lines_are = λ i. first_lines p names s k (size i) (body i);
        writable = writable;
      })

-- the first lines, from the last to the first
abbrev first_two : (p : ℕ) → List (List ℕ) → List (List ℕ)
first_two p behind = codes "venum-answer 1" ∷ numbered (codes "prime") p ∷ behind

abbrev first_three : (p : ℕ) → List (List ℕ) → List (List ℕ) → List (List ℕ)
first_three p names behind = first_two p ((codes "letters" ++ each_after_space names) ∷ behind)

abbrev first_five : (p : ℕ) → List (List ℕ) → (s k : ℕ) → List (List ℕ) → List (List ℕ)
first_five p names s k behind = first_three p names (numbered (codes "module") s ∷ numbered (codes "closed") k ∷ behind)

behind_level : (p : ℕ) (names : List (List ℕ)) (s k : ℕ) → IsFieldPrime p → AreNames names → 0 < s → s ≤ most_generators → k < 2 ^ 32 → {lines : List (List ℕ)} {last : Draft}
    → FillAll (told p names s k 0) (places.dimension ∷ []) lines last → Shown (first_five p names s k lines) (answer_in last)
unfolding opened
behind_level p names s k field are_names some most level {lines} {last} fill =
    let n = taken fill in
    let told_size = dimension_filled n.fills in
    let start : Draft = told p names s k told_size.0 in
    let wide : FillAll start (body_places start ++ []) n.behind last = subst (λ e. FillAll e (body_places e ++ []) n.behind last) told_size.3 n.rest in
    let body : FillAll start (body_places start) n.behind last = subst (λ ps. FillAll start ps n.behind last) (append-nil (body_places start)) wide in
    let is : lines ≡ numbered (codes "dimension") told_size.0 ∷ n.behind = n.are ∙ ap (λ l. l ∷ n.behind) told_size.2 in
    subst (λ ls. Shown (first_five p names s k ls) (answer_in last)) (sym is) (body_shown p names s k told_size.0 field are_names some most level told_size.1 body)

behind_generators : (p : ℕ) (names : List (List ℕ)) (s : ℕ) → IsFieldPrime p → AreNames names → 0 < s → s ≤ most_generators → {lines : List (List ℕ)} {last : Draft}
    → FillAll (told p names s 0 0) (places.closed ∷ places.dimension ∷ []) lines last → Shown (first_three p names (numbered (codes "module") s ∷ lines)) (answer_in last)
unfolding opened
behind_generators p names s field are_names some most {lines} {last} fill =
    let l = taken fill in
    let level = level_filled l.fills in
    let is : lines ≡ numbered (codes "closed") level.0 ∷ l.behind = l.are ∙ ap (λ b. b ∷ l.behind) level.2 in
    subst (λ ls. Shown (first_three p names (numbered (codes "module") s ∷ ls)) (answer_in last)) (sym is)
    (behind_level p names s level.0 field are_names some most level.1 (subst (λ e. FillAll e (places.dimension ∷ []) l.behind last) level.3 l.rest))

behind_names : (p : ℕ) (names : List (List ℕ)) → IsFieldPrime p → AreNames names → {lines : List (List ℕ)} {last : Draft}
    → FillAll (told p names 0 0 0) (places.generators ∷ places.closed ∷ places.dimension ∷ []) lines last → Shown (first_three p names lines) (answer_in last)
unfolding opened
behind_names p names field are_names {lines} {last} fill =
    let g = taken fill in
    let count = generators_filled g.fills in
    let is : lines ≡ numbered (codes "module") count.0 ∷ g.behind = g.are ∙ ap (λ l. l ∷ g.behind) count.3 in
    subst (λ ls. Shown (first_three p names ls) (answer_in last)) (sym is)
    (behind_generators p names count.0 field are_names count.1 count.2 (subst (λ e. FillAll e (places.closed ∷ places.dimension ∷ []) g.behind last) count.4 g.rest))

behind_prime : (p : ℕ) → IsFieldPrime p → {lines : List (List ℕ)} {last : Draft}
    → FillAll (told p [] 0 0 0) (places.names ∷ places.generators ∷ places.closed ∷ places.dimension ∷ []) lines last → Shown (first_two p lines) (answer_in last)
unfolding opened
behind_prime p field {lines} {last} fill =
    let c = taken fill in
    let named = names_filled c.fills in
    let is : lines ≡ (codes "letters" ++ each_after_space named.0) ∷ c.behind = c.are ∙ ap (λ l. l ∷ c.behind) named.2 in
    subst (λ ls. Shown (first_two p ls) (answer_in last)) (sym is)
    (behind_names p named.0 field named.1 (subst (λ e. FillAll e (places.generators ∷ places.closed ∷ places.dimension ∷ []) c.behind last) named.3 c.rest))

behind_version : {lines : List (List ℕ)} {last : Draft}
    → FillAll blank_draft (places.prime ∷ places.names ∷ places.generators ∷ places.closed ∷ places.dimension ∷ []) lines last → Shown (codes "venum-answer 1" ∷ lines) (answer_in last)
unfolding opened
behind_version {lines} {last} fill =
    let b = taken fill in
    let prime = prime_filled b.fills in
    let is : lines ≡ numbered (codes "prime") prime.0 ∷ b.behind = b.are ∙ ap (λ l. l ∷ b.behind) prime.2 in
    subst (λ ls. Shown (codes "venum-answer 1" ∷ ls) (answer_in last)) (sym is)
    (behind_prime prime.0 prime.1 (subst (λ e. FillAll e (places.names ∷ places.generators ∷ places.closed ∷ places.dimension ∷ []) b.behind last) prime.3 b.rest))

pub answer_shown : {lines : List (List ℕ)} {last : Draft} → FillAll blank_draft head_places lines last → Shown lines (answer_in last)
unfolding opened
answer_shown {lines} {last} fill =
    let a = taken fill in
    let version = version_filled a.fills in
    let is : lines ≡ codes "venum-answer 1" ∷ a.behind = a.are ∙ ap (λ l. l ∷ a.behind) version.0 in
    subst (λ ls. Shown ls (answer_in last)) (sym is)
    (behind_version (subst (λ e. FillAll e (places.prime ∷ places.names ∷ places.generators ∷ places.closed ∷ places.dimension ∷ []) a.behind last) version.1 a.rest))
