-- Answers that tests make, on the words e1 and e1*x.
use Rattle.std.proofs.Common.{◌≡◌, ℕ, zero, suc, ◌<◌, List, [], ◌∷◌, length, map, All, refl, sym, ap, ◌∙◌, subst, lit<}
use Rattle.std.proofs.lemmas.List.Elements.{All-nil, All-cons, All-map}
use Rattle.std.proofs.lemmas.List.{length-map}
use Rattle.ve_theory.specs.Residues.{IsFieldPrime}
use Rattle.ve_theory.specs.Combinations.{unit, AllBefore, IsReduced}
use Rattle.ve_theory.specs.Words.{Word, generator, times, start, letters}
use Rattle.ve_theory.specs.Answers.{Row, IsRow, IsGrown, none, with_generator, with_child, dimension}
use Rattle.ve_theory.proofs.Remainders.{All-unit}
use Rattle.ve_table.specs.declared.origin.Origin.{Origin}
use Rattle.ve_table.specs.declared.origin.Origin.TheVariants.{Root, Child}
use Rattle.ve_table.specs.Books.{spelled, words_after, words_of}
use Rattle.ve_table.specs.Numbers.{HasParentBelow}
use Rattle.ve_matrix.specs.declared.answer.Answer.{Answer}
use Rattle.ve_matrix.specs.Matrices.{HasColumnsBelow}
use Rattle.ve_matrix.specs.Answers.{answer_of, NameEarlierPlaces, IsAnswerValue}

abbrev pair_origins : List Origin
pair_origins = Root 0 ∷ Child 0 0 ∷ []

abbrev pair : List Word
pair = generator 0 ∷ times (generator 0) 0 ∷ []

pair_words : words_of pair_origins ≡ pair
unfolding words_after spelled
pair_words = refl

pair_letters : All (λ w. (start w < 1) × All (λ x. x < 1) (letters w)) pair
unfolding start letters
pair_letters =
    All-cons (λ (w : Word). (start w < 1) × All (λ x. x < 1) (letters w)) (generator 0) (times (generator 0) 0 ∷ []) (lit< tt, All-nil (λ x. x < 1))
    (All-cons (λ (w : Word). (start w < 1) × All (λ x. x < 1) (letters w)) (times (generator 0) 0) [] (lit< tt, All-cons (λ x. x < 1) 0 [] (lit< tt) (All-nil (λ x. x < 1)))
    (All-nil (λ (w : Word). (start w < 1) × All (λ x. x < 1) (letters w))))

pair_grown : IsGrown pair
pair_grown = with_child (generator 0 ∷ []) 0 0 (with_generator [] 0 none) (lit< tt)

pair_earlier : NameEarlierPlaces pair_origins
pair_earlier zero o found = subst (HasParentBelow 0) (let same : Root 0 ≡ o = cc in same) tt
pair_earlier (suc zero) o found = subst (HasParentBelow 1) (let same : Child 0 0 ≡ o = cc in same) (lit< tt)
pair_earlier (suc (suc b)) o found = absurd cc

unit_is_row : (p j : ℕ) → 1 < p → j < 2 → IsRow p 2 (unit j)
unfolding IsReduced AllBefore
unit_is_row p j large below = ((lit< tt, large, tt, tt), All-unit (λ i. i < 2) j below)

units_are_rows : (p : ℕ) (places : List ℕ) → 1 < p → All (λ place. place < 2) places → All (IsRow p 2) (map unit places)
units_are_rows p places large below = All-map (IsRow p 2) unit places (λ k d l. unit_is_row p _ large (below k d l))

-- as many rows as places, with columns below their number
pub units_columns : (places : List ℕ) (rows : List Row) → rows ≡ map unit places → length places ≡ 2 → All (λ place. place < 2) places → HasColumnsBelow (length rows) rows
units_columns places rows are count below =
    let size : 2 ≡ length rows = sym (ap length are ∙ (length-map places unit ∙ count)) in
    subst (λ n. HasColumnsBelow n rows) size
    (subst (HasColumnsBelow 2) (sym are) (All-map (λ row. All (λ t. t.0 < 2) row) unit places (λ k d l. All-unit (λ i. i < 2) _ (below k d l))))

pub pair_value : (A : Answer) (image : ℕ) (places : List ℕ) → IsFieldPrime A.field → 1 < A.field → length A.names ≡ 1 → A.roots ≡ 1 → A.basis.items ≡ pair_origins
    → A.images.items ≡ unit image ∷ [] → A.matrices.items ≡ map unit places ∷ [] → image < 2 → length places ≡ 2 → All (λ place. place < 2) places → IsAnswerValue A
pair_value A image places prime large names generators basis images matrices within count below =
    let words : words_of A.basis.items ≡ pair = ap words_of basis ∙ pair_words in
    let size : 2 ≡ dimension (answer_of A).action = sym (ap length words) in
    let AreRows : ℕ → List Row → Type 0 = λ n rows. All (IsRow A.field n) rows in
    record {
      prime = prime;
      form = record {
        one_image_each = ap length images ∙ sym generators;
        one_matrix_each = ap length matrices ∙ sym names;
        square =
            subst (λ ms. All (λ matrix. length matrix ≡ dimension (answer_of A).action) ms) (sym matrices)
            (All-cons (λ (matrix : List Row). length matrix ≡ dimension (answer_of A).action) (map unit places) [] (length-map places unit ∙ (count ∙ size))
            (All-nil (λ (matrix : List Row). length matrix ≡ dimension (answer_of A).action)));
        images =
            subst (AreRows (dimension (answer_of A).action)) (sym images)
            (subst (λ n. AreRows n (unit image ∷ [])) size (All-cons (IsRow A.field 2) (unit image) [] (unit_is_row A.field image large within) (All-nil (IsRow A.field 2))));
        matrices =
            subst (All (AreRows (dimension (answer_of A).action))) (sym matrices)
            (subst (λ n. All (AreRows n) (map unit places ∷ [])) size
            (All-cons (AreRows 2) (map unit places) [] (units_are_rows A.field places large below) (All-nil (AreRows 2))));
        words =
            subst (λ ws. All (λ w. (start w < A.roots) × All (λ x. x < length A.names) (letters w)) ws) (sym words)
            (subst (λ m. All (λ w. (start w < m) × All (λ x. x < length A.names) (letters w)) pair) (sym generators)
            (subst (λ m. All (λ w. (start w < 1) × All (λ x. x < m) (letters w)) pair) (sym names) pair_letters));
        grown = subst IsGrown (sym words) pair_grown;
      };
      dimension = subst (λ os. length os < 4294967296) (sym basis) (lit< tt);
      origins = subst NameEarlierPlaces (sym basis) pair_earlier;
    }
