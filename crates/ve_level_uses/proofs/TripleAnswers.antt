-- Answers that tests make, on the words e1, e1*x and e1*X modulo 7.
use Rattle.std.proofs.Common.{◌≡◌, ℕ, zero, suc, ◌<◌, List, [], ◌∷◌, length, map, All, refl, sym, ap, ◌∙◌, subst, lit<}
use Rattle.std.proofs.lemmas.List.Elements.{All-nil, All-cons, All-map, All-push, All-weaker}
use Rattle.std.proofs.lemmas.List.{length-map}
use Rattle.ve_theory.specs.Residues.{IsFieldPrime, primes}
use Rattle.ve_theory.specs.Combinations.{unit, AllBefore, IsReduced}
use Rattle.ve_theory.specs.Words.{Word, generator, times, start, letters}
use Rattle.ve_theory.specs.Elements.{AlgebraElement, Element}
use Rattle.ve_pres.specs.Terms.{HasLettersBelow, HasWordsBelow}
use Rattle.ve_theory.specs.Answers.{Row, IsRow, IsGrown, none, with_generator, with_child, dimension}
use Rattle.ve_theory.proofs.Remainders.{All-unit}
use Rattle.ve_table.specs.declared.origin.Origin.{Origin}
use Rattle.ve_table.specs.declared.origin.Origin.TheVariants.{Root, Child}
use Rattle.ve_table.specs.Books.{spelled, words_after, words_of}
use Rattle.ve_table.specs.Numbers.{HasParentBelow}
use Rattle.ve_matrix.specs.declared.answer.Answer.{Answer}
use Rattle.ve_matrix.specs.Matrices.{HasColumnsBelow}
use Rattle.ve_matrix.specs.Answers.{answer_of, NameEarlierPlaces, IsAnswerValue}

abbrev pub triple_origins : List Origin
triple_origins = Root 0 ∷ Child 0 0 ∷ Child 0 1 ∷ []

abbrev triple : List Word
triple = generator 0 ∷ times (generator 0) 0 ∷ times (generator 0) 1 ∷ []

seven_is_prime : IsFieldPrime 7
unfolding primes
seven_is_prime = (3, lit< tt, refl)

unit_is_row : (j : ℕ) → j < 3 → IsRow 7 3 (unit j)
unfolding IsReduced AllBefore
unit_is_row j below = ((lit< tt, lit< tt, tt, tt), All-unit (λ i. i < 3) j below)

pub units_are_rows : (places : List ℕ) → All (λ place. place < 3) places → All (IsRow 7 3) (map unit places)
units_are_rows places below = All-map (IsRow 7 3) unit places (λ k d l. unit_is_row _ (below k d l))

pub units_columns : (places : List ℕ) (rows : List Row) → rows ≡ map unit places → length places ≡ 3 → All (λ place. place < 3) places → HasColumnsBelow (length rows) rows
units_columns places rows are count below =
    let size : 3 ≡ length rows = sym (ap length are ∙ (length-map places unit ∙ count)) in
    subst (λ n. HasColumnsBelow n rows) size
    (subst (HasColumnsBelow 3) (sym are) (All-weaker (IsRow 7 3) (λ row. All (λ t. t.0 < 3) row) (λ row is. is.1) (map unit places) (units_are_rows places below)))

triple_words : words_of triple_origins ≡ triple
unfolding words_after spelled
triple_words = refl

triple_letters : All (λ w. (start w < 1) × All (λ x. x < 2) (letters w)) triple
unfolding start letters
triple_letters =
    All-cons (λ (w : Word). (start w < 1) × All (λ x. x < 2) (letters w)) (generator 0) (times (generator 0) 0 ∷ times (generator 0) 1 ∷ []) (lit< tt, All-nil (λ x. x < 2))
    (All-cons (λ (w : Word). (start w < 1) × All (λ x. x < 2) (letters w)) (times (generator 0) 0) (times (generator 0) 1 ∷ []) (lit< tt, All-cons (λ x. x < 2) 0 [] (lit< tt) (All-nil (λ x. x < 2)))
    (All-cons (λ (w : Word). (start w < 1) × All (λ x. x < 2) (letters w)) (times (generator 0) 1) [] (lit< tt, All-cons (λ x. x < 2) 1 [] (lit< tt) (All-nil (λ x. x < 2)))
    (All-nil (λ (w : Word). (start w < 1) × All (λ x. x < 2) (letters w)))))

triple_grown : IsGrown triple
triple_grown =
    with_child (generator 0 ∷ times (generator 0) 0 ∷ []) 0 1 (with_child (generator 0 ∷ []) 0 0 (with_generator [] 0 none) (lit< tt)) (lit< tt)

triple_earlier : NameEarlierPlaces triple_origins
triple_earlier zero o found = subst (HasParentBelow 0) (let same : Root 0 ≡ o = cc in same) tt
triple_earlier (suc zero) o found = subst (HasParentBelow 1) (let same : Child 0 0 ≡ o = cc in same) (lit< tt)
triple_earlier (suc (suc zero)) o found = subst (HasParentBelow 2) (let same : Child 0 1 ≡ o = cc in same) (lit< tt)
triple_earlier (suc (suc (suc b))) o found = absurd cc

pub triple_value : (A : Answer) (image : ℕ) (first second : List ℕ) → A.field ≡ 7 → length A.names ≡ 2 → A.roots ≡ 1 → A.basis.items ≡ triple_origins
    → A.images.items ≡ unit image ∷ [] → A.matrices.items ≡ map unit first ∷ map unit second ∷ [] → image < 3
    → length (map unit first) ≡ 3 → All (λ place. place < 3) first → length (map unit second) ≡ 3 → All (λ place. place < 3) second → IsAnswerValue A
triple_value A image first second prime names generators basis images matrices within first_count first_places second_count second_places =
    let words : words_of A.basis.items ≡ triple = ap words_of basis ∙ triple_words in
    let size : 3 ≡ dimension (answer_of A).action = sym (ap length words) in
    let IsRows : (p n : ℕ) → List Row → Type 0 = λ p n rows. All (IsRow p n) rows in
    record {
      prime = subst IsFieldPrime (sym prime) seven_is_prime;
      form = record {
        one_image_each = ap length images ∙ sym generators;
        one_matrix_each = ap length matrices ∙ sym names;
        square =
            subst (λ ms. All (λ matrix. length matrix ≡ dimension (answer_of A).action) ms) (sym matrices)
            (All-cons (λ (matrix : List Row). length matrix ≡ dimension (answer_of A).action) (map unit first) (map unit second ∷ []) (first_count ∙ size)
            (All-cons (λ (matrix : List Row). length matrix ≡ dimension (answer_of A).action) (map unit second) [] (second_count ∙ size)
            (All-nil (λ (matrix : List Row). length matrix ≡ dimension (answer_of A).action))));
        images =
            subst (IsRows A.field (dimension (answer_of A).action)) (sym images)
            (subst (λ p. IsRows p (dimension (answer_of A).action) (unit image ∷ [])) (sym prime)
            (subst (λ n. IsRows 7 n (unit image ∷ [])) size (All-cons (IsRow 7 3) (unit image) [] (unit_is_row image within) (All-nil (IsRow 7 3)))));
        matrices =
            subst (All (IsRows A.field (dimension (answer_of A).action))) (sym matrices)
            (subst (λ p. All (IsRows p (dimension (answer_of A).action)) (map unit first ∷ map unit second ∷ [])) (sym prime)
            (subst (λ n. All (IsRows 7 n) (map unit first ∷ map unit second ∷ [])) size
            (All-cons (IsRows 7 3) (map unit first) (map unit second ∷ []) (units_are_rows first first_places)
            (All-cons (IsRows 7 3) (map unit second) [] (units_are_rows second second_places) (All-nil (IsRows 7 3))))));
        words =
            subst (λ ws. All (λ w. (start w < A.roots) × All (λ x. x < length A.names) (letters w)) ws) (sym words)
            (subst (λ m. All (λ w. (start w < m) × All (λ x. x < length A.names) (letters w)) triple) (sym generators)
            (subst (λ m. All (λ w. (start w < 1) × All (λ x. x < m) (letters w)) triple) (sym names) triple_letters));
        grown = subst IsGrown (sym words) triple_grown;
      };
      dimension = subst (λ os. length os < 4294967296) (sym basis) (lit< tt);
      origins = subst NameEarlierPlaces (sym basis) triple_earlier;
    }

-- words and elements over one generator and two letters

pub letter_pushed : (w : Word) → (start w ≡ 0) × All (λ x. x < 2) (letters w) → (start (times w 0) ≡ 0) × All (λ x. x < 2) (letters (times w 0))
unfolding start letters
letter_pushed w is = (is.0, All-push (λ x. x < 2) (letters w) 0 is.1 (lit< tt))

pub root_pair : (w : Word) → w ≡ generator 0 → (start w ≡ 0) × All (λ x. x < 2) (letters w)
unfolding start letters
root_pair w is = subst (λ v. (start v ≡ 0) × All (λ x. x < 2) (letters v)) (sym is) (refl, All-nil (λ x. x < 2))

pub letter_below : (r : AlgebraElement) → r ≡ unit (0 ∷ []) → HasLettersBelow 2 r
letter_below r is = subst (HasLettersBelow 2) (sym is) (All-unit (λ u. All (λ x. x < 2) u) (0 ∷ []) (All-cons (λ x. x < 2) 0 [] (lit< tt) (All-nil (λ x. x < 2))))

pub root_below : (v : Element) → v ≡ unit (generator 0) → HasWordsBelow 1 2 v
unfolding start letters
root_below v is = subst (HasWordsBelow 1 2) (sym is) (All-unit (λ w. (start w < 1) × All (λ x. x < 2) (letters w)) (generator 0) (lit< tt, All-nil (λ x. x < 2)))
