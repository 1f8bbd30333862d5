-- Basis words that have their own rows.
use Rattle.std.proofs.Common.{◌≡◌, ℕ, ◌<◌, ◌%◌, nat_eq, [], length, All, Some, slice_get, sym, ap, ◌∙◌, subst, arith}
use Rattle.std.specs.Prelude.{◌↔◌, Bool, IsTrue}
use Rattle.std.proofs.lemmas.Option.{slice_get_within}
use Rattle.ve_theory.specs.Combinations.{coefficient, unit, AllBefore, IsReduced}
use Rattle.ve_theory.specs.Words.{generator, start, letters}
use Rattle.ve_theory.specs.Presentations.{Presentation}
use Rattle.ve_theory.specs.Answers.{Action, Row, AreSameRows, HasOwnRow, HaveOwnRowsBelow, basis_word, matrix_row, word_row}
use Rattle.ve_theory.specs.Laws.{ReducedListsAreUnique, SumsExtend}
use Rattle.ve_theory.proofs.Members.{All-last}
use Rattle.ve_table.specs.declared.origin.Origin.{Origin}
use Rattle.ve_table.specs.declared.origin.Origin.TheVariants.{Root, Child}
use Rattle.ve_table.specs.Books.{spelled}
use Rattle.ve_matrix.specs.declared.answer.Answer.{Answer}
use Rattle.ve_matrix.specs.Answers.{AnswerFits, IsAnswerValue, answer_of}
use Rattle.ve_matrix.proofs.BasisWords.{length-words_of, word_of_origin}
use Rattle.ve_check.specs.OriginRows.{HasRow, row_by_origin}

-- an origin of the basis has a row
pub origin_has_row : (A : Answer) (b : ℕ) (o : Origin) → IsAnswerValue A → slice_get A.basis.items b ≡ Some o → HasRow A o
unfolding spelled start letters
origin_has_row A b (Root i) value found =
    let word = word_of_origin A.basis.items b (Root i) found (value.origins b (Root i) found) in
    let within = slice_get_within A.basis.items b (Root i) found in
    subst (λ w. start w < A.roots) word (value.form.words b (generator 0) (omega (arith, within, length-words_of A.basis.items))).0
origin_has_row A b (Child parent x) value found =
    let below = value.origins b (Child parent x) found in
    let word = word_of_origin A.basis.items b (Child parent x) found below in
    let within = slice_get_within A.basis.items b (Child parent x) found in (
      omega (arith, below, within),
      All-last (λ y. y < length A.names) (letters (basis_word (answer_of A).action parent)) x
          (subst (λ w. All (λ y. y < length A.names) (letters w)) word (value.form.words b (generator 0) (omega (arith, within, length-words_of A.basis.items))).1),
    )

row_reduced : (A : Answer) (o : Origin) → IsAnswerValue A → HasRow A o → IsReduced ◌<◌ A.field (row_by_origin (answer_of A).action o)
row_reduced A (Root i) value has = (value.form.images i [] (omega (arith, has, value.form.one_image_each))).0
row_reduced A (Child parent x) value has =
    let letter : x < length A.matrices.items = omega (arith, has.1, value.form.one_matrix_each) in
    (value.form.matrices x [] letter parent [] (omega (arith, has.0, value.form.square x [] letter, length-words_of A.basis.items))).0

-- where earlier words have their own rows, the row by its origin is that of the word
word_row_by_origin : (p : ℕ) (A : Answer) (b : ℕ) (o : Origin) → SumsExtend → IsAnswerValue A → slice_get A.basis.items b ≡ Some o
    → ((j : ℕ) → j < b → AreSameRows p (word_row (answer_of A).action (basis_word (answer_of A).action j)) (unit j))
    → AreSameRows p (word_row (answer_of A).action (basis_word (answer_of A).action b)) (row_by_origin (answer_of A).action o)
unfolding spelled word_row
word_row_by_origin p A b (Root i) extend value found own =
    let action : Action = (answer_of A).action in
    let word = word_of_origin A.basis.items b (Root i) found (value.origins b (Root i) found) in
    λ k. ap (λ w. coefficient nat_eq (word_row action w) k % p) word
word_row_by_origin p A b (Child parent x) extend value found own =
    let action : Action = (answer_of A).action in
    let below = value.origins b (Child parent x) found in
    let word = word_of_origin A.basis.items b (Child parent x) found below in
    λ k. ap (λ w. coefficient nat_eq (word_row action w) k % p) word
    ∙ (extend.rows.alike p (matrix_row action x) (word_row action (basis_word action parent)) (unit parent) (own parent below) k
    ∙ extend.rows.units p (matrix_row action x) parent k)

-- a test of the row by the origin says whether the word has its own row
pub own_row_told : (P : Presentation) (A : Answer) (b : ℕ) (o : Origin) (row : Row) (is : Bool) → SumsExtend → ReducedListsAreUnique → AnswerFits P A → 1 < P.prime
    → slice_get A.basis.items b ≡ Some o → HaveOwnRowsBelow P (answer_of A).action b → row ≡ row_by_origin (answer_of A).action o
    → (IsTrue is ↔ (row ≡ unit b)) → IsTrue is ↔ HasOwnRow P (answer_of A).action b
unfolding IsReduced AllBefore
own_row_told P A b o row is extend unique check large found own by_origin says =
    let known = word_row_by_origin P.prime A b o extend check.answer found own in
    let reduced : IsReduced ◌<◌ P.prime row =
    subst (IsReduced ◌<◌ P.prime) (sym by_origin)
    (subst (λ p. IsReduced ◌<◌ p (row_by_origin (answer_of A).action o)) check.shape.prime (row_reduced A o check.answer (origin_has_row A b o check.answer found))) in (
      λ passes k. known k ∙ ap (λ r. coefficient nat_eq r k % P.prime) (sym by_origin ∙ says.0 passes),
      λ has. says.1 (unique.rows P.prime row (unit b) reduced (omega arith, large, tt, tt) (λ k. ap (λ r. coefficient nat_eq r k % P.prime) by_origin ∙ (sym (known k) ∙ has k))),
    )
