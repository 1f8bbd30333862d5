-- The parts of an answer that lines are made of.
use Rattle.std.specs.Prelude.{◌≡◌, ℕ, ◌+◌, ◌<◌, ◌≤◌, List, [], ◌∷◌, ◌++◌, length, map, codes, refl, Some, slice_get, Result}
use Rattle.std.proofs.Common.{zero, suc, ◌-◌, inl, inr, sym, ap, subst, ◌∙◌, append_assoc, append-nil, take, get_or, add-one, arith, All}
use Rattle.std.proofs.lemmas.List.{take_more, get_or_default, get_or_append_left, get_or-append-add}
use Rattle.std.proofs.lemmas.Bool.{cases_lt}
use Rattle.std.proofs.lemmas.List.Elements.{All-get_or}
use Rattle.std.proofs.lemmas.Option.{get_or_from_slice_get}
use Rattle.ve_theory.specs.Answers.{Answer as ModuleAnswer, Row, IsRow, dimension}
use Rattle.ve_formats.specs.Lines.{text_of_lines, text_of_lines-append, line_text, numbers_below, each_after_space, each_after_space-append, each_after_space-one}
use Rattle.ve_formats.specs.AnswerText.{matrix_lines, letter_lines, row_line}
use Rattle.ve_formats.proofs.NumbersBelow.{length-numbers_below}
use Rattle.ve_port.specs.declared.fault.OutFault.{OutFault}
use Rattle.ve_port.specs.Sink.{Output, Gains, Gains-nil, Gains-append}
use Rattle.ve_port.specs.Writing.{Writes, Stops, Stops-after, Stops-longer}
use Rattle.ve_matrix.specs.declared.answer.Answer.{Answer}
use Rattle.ve_matrix.specs.Answers.{answer_of}
use Rattle.ve_matrix.proofs.BasisWords.{length-words_of}

pub basis_size : (A : Answer) → dimension (answer_of A).action ≡ length A.basis.items
basis_size A = length-words_of A.basis.items

-- a row among some, of as many places
pub row_among : (p n m : ℕ) (rows : List Row) (at : ℕ) (v : Row) → All (IsRow p n) rows → at < length rows → v ≡ get_or rows at v → n ≡ m → (q : ℕ) × IsRow q m v
row_among p n m rows at v all inside is same =
    (p, subst (λ k. IsRow p k v) same (subst (IsRow p n) (sym is) (All-get_or (IsRow p n) rows at v inside all)))

pub row_at : (p n : ℕ) (rows : List Row) (at : ℕ) (v : Row) → All (IsRow p n) rows → at < length rows → slice_get rows at ≡ Some v → IsRow p n v
row_at p n rows at v all inside found = subst (IsRow p n) (get_or_from_slice_get rows at v v found) (All-get_or (IsRow p n) rows at v inside all)

-- a name more
pub names_line : (old : List ℕ) (names : List (List ℕ)) (at : ℕ) (name line : List ℕ) → at < length names → slice_get names at ≡ Some name
    → line ≡ old ++ codes "letters" ++ each_after_space (take at names) → (line ++ codes " ") ++ name ≡ old ++ codes "letters" ++ each_after_space (take (at + 1) names)
names_line old names at name line inside found is =
    let here : get_or names at name ≡ name = get_or_from_slice_get names at name name found in
    let longer : each_after_space (take (at + 1) names) ≡ each_after_space (take at names) ++ 32 ∷ name =
    ap each_after_space (take_more names at name inside ∙ ap (λ x. take at names ++ x ∷ []) here)
    ∙ each_after_space-append (take at names) (name ∷ []) ∙ ap (λ t. each_after_space (take at names) ++ t) (each_after_space-one name) in
    grouped old (codes "letters") (each_after_space (take at names)) name line is ∙ ap (λ t. old ++ codes "letters" ++ t) (sym longer)
  where
    grouped : (old word front name line : List ℕ) → line ≡ old ++ word ++ front → (line ++ codes " ") ++ name ≡ old ++ word ++ (front ++ 32 ∷ name)
    grouped old word front name line is = rw is (simp append_assoc refl)

pub no_names : (old line : List ℕ) (names : List (List ℕ)) → line ≡ old ++ codes "letters" → line ≡ old ++ codes "letters" ++ each_after_space (take 0 names)
unfolding each_after_space
no_names old line names is = is ∙ ap (λ t. t) (sym (append-nil (old ++ codes "letters")))

-- ---- the matrices, letter by letter

pub Gains-no_matrix : (A : ModuleAnswer) (out : Output) → Gains out out (text_of_lines (matrix_lines A 0))
unfolding matrix_lines text_of_lines
Gains-no_matrix A out = Gains-nil out

matrices_next : (A : ModuleAnswer) (x : ℕ) → text_of_lines (matrix_lines A (x + 1)) ≡ text_of_lines (matrix_lines A x) ++ text_of_lines (letter_lines A x)
unfolding matrix_lines
matrices_next A x = ap (λ n. text_of_lines (matrix_lines A n)) (add-one x) ∙ text_of_lines-append (matrix_lines A x) (letter_lines A x)

pub Gains-matrix : (A : ModuleAnswer) (x : ℕ) {old mid new : Output} → Gains old mid (text_of_lines (matrix_lines A x)) → Gains mid new (text_of_lines (letter_lines A x)) → Gains old new (text_of_lines (matrix_lines A (x + 1)))
Gains-matrix A x {old} {mid} {new} before here = subst (Gains old new) (sym (matrices_next A x)) (Gains-append before here)

-- the lines of the matrices before a letter begin those of all
pub Stops-matrix : (A : ModuleAnswer) (x n : ℕ) {old mid new : Output} {fault : OutFault} → x < n → Gains old mid (text_of_lines (matrix_lines A x)) → Stops mid new (text_of_lines (letter_lines A x)) fault
    → Stops old new (text_of_lines (matrix_lines A n)) fault
Stops-matrix A x n {old} {mid} {new} {fault} less before stop =
    subst (λ k. Stops old new (text_of_lines (matrix_lines A k)) fault) (omega arith) (longer (n - (x + 1)))
  where
    here : Stops old new (text_of_lines (matrix_lines A (x + 1))) fault
    here = subst (λ text. Stops old new text fault) (sym (matrices_next A x)) (Stops-after before stop)

    longer : (k : ℕ) → Stops old new (text_of_lines (matrix_lines A (k + (x + 1)))) fault
    longer zero = subst (λ j. Stops old new (text_of_lines (matrix_lines A j)) fault) (omega arith) here
    longer (suc k) =
        subst (λ j. Stops old new (text_of_lines (matrix_lines A j)) fault) (omega arith)
        (subst (λ text. Stops old new text fault) (sym (matrices_next A (k + (x + 1)))) (Stops-longer (longer k) (text_of_lines (letter_lines A (k + (x + 1))))))

-- ---- a letter: its name, and its matrix among the others

pub Gains-name : (names : List (List ℕ)) (x : ℕ) (name : List ℕ) {old new : Output} → slice_get names x ≡ Some name → Gains old new (line_text (codes "letter " ++ name))
    → Gains old new (line_text (codes "letter " ++ get_or names x []))
Gains-name names x name {old} {new} found gains = subst (λ n. Gains old new (line_text (codes "letter " ++ n))) (sym (get_or_from_slice_get names x name [] found)) gains

pub Stops-name : (names : List (List ℕ)) (x : ℕ) (name : List ℕ) {old new : Output} {fault : OutFault} → slice_get names x ≡ Some name → Stops old new (line_text (codes "letter " ++ name)) fault
    → Stops old new (line_text (codes "letter " ++ get_or names x [])) fault
Stops-name names x name {old} {new} {fault} found stop = subst (λ n. Stops old new (line_text (codes "letter " ++ n)) fault) (sym (get_or_from_slice_get names x name [] found)) stop

pub matrix_among : (p n m : ℕ) (matrices : List (List Row)) (at : ℕ) (matrix : List Row) → All (All (IsRow p n)) matrices → at < length matrices → matrix ≡ get_or matrices at matrix → n ≡ m
    → (q : ℕ) × All (IsRow q m) matrix
matrix_among p n m matrices at matrix all inside is same =
    (p, subst (λ k. All (IsRow p k) matrix) same (subst (All (IsRow p n)) (sym is) (All-get_or (All (IsRow p n)) matrices at matrix inside all)))

pub Writes-matrix : (n m : ℕ) (matrices : List (List Row)) (at x : ℕ) (matrix : List Row) {A : Type 0} {old new : Output} {r : Result A OutFault} → m ≡ n → at ≡ x → x < length matrices
    → matrix ≡ get_or matrices at matrix → Writes old new (text_of_lines (map (row_line m) matrix)) r → Writes old new (text_of_lines (map (row_line n) (get_or matrices x []))) r
Writes-matrix n m matrices at x matrix {A} {old} {new} {r} size place inside is writes =
    let here : matrix ≡ get_or matrices x [] = is ∙ ap (λ k. get_or matrices k matrix) place ∙ get_or_default matrices x matrix [] inside in
    subst (λ k. Writes old new (text_of_lines (map (row_line k) (get_or matrices x []))) r) size
    (subst (λ rows. Writes old new (text_of_lines (map (row_line m) rows)) r) here writes)

-- ---- numbers, counted up

pub number_at : (n at : ℕ) → at < n → at ≡ get_or (numbers_below n) at 0
unfolding numbers_below
number_at zero at less = absurd (omega arith)
number_at (suc n) at less = elim (cases_lt at n) [ inl below ↦ number_at n at below ∙ sym (get_or_append_left (numbers_below n) (n ∷ []) 0 at (omega (arith, length-numbers_below n, below))) | inr above ↦ last above ]
  where
    last : n ≤ at → at ≡ get_or (numbers_below n ++ n ∷ []) at 0
    last above =
        let place : at ≡ length (numbers_below n) + 0 = omega (arith, length-numbers_below n) in
        let same : at ≡ n = omega arith in
        same ∙ sym (get_or-append-add (numbers_below n) (n ∷ []) 0 0) ∙ ap (λ k. get_or (numbers_below n ++ n ∷ []) k 0) (sym place)
