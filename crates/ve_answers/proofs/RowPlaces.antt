-- The places that rows fill.
use Rattle.std.proofs.Common.{◌≡◌, ℕ, List, [], ◌∷◌, ◌++◌, refl, sym, ap, subst, ◌∙◌}
use Rattle.std.specs.Prelude.{codes}
use Rattle.ve_theory.specs.Answers.{Row, IsRow}
use Rattle.ve_formats.specs.AnswerText.{row_entries}
use Rattle.ve_formats.specs.AnswerReading as places
use Rattle.ve_formats.specs.AnswerReading.{Draft, Fills, an_image, a_row, opened, with_row}
use Rattle.ve_answers.specs.declared.head.Head.{Head}
use Rattle.ve_answers.specs.Heads.{IsOfHead}
use Rattle.ve_answers.specs.Rows.{IsRowLine, IsRowPlace}
use Rattle.ve_answers.proofs.Places.{is_image, is_row}

module _ (head : Head) (draft : Draft) (of : IsOfHead head draft) where
  row_in : {word line : List ℕ} (v : Row) → IsRowLine head word line v → IsRow draft.prime draft.dimension v
  row_in v h = subst (λ p. IsRow p draft.dimension v) (sym of.prime) (subst (λ n. IsRow head.field n v) (sym of.dimension) h.row)

  row_back : (v : Row) → IsRow draft.prime draft.dimension v → IsRow head.field head.dimension v
  row_back v h = subst (λ p. IsRow p head.dimension v) of.prime (subst (λ n. IsRow draft.prime n v) of.dimension h)

  text_in : (word line : List ℕ) (v : Row) → IsRowLine head word line v → word ++ row_entries draft.dimension v ≡ line
  text_in word line v h = ap (λ n. word ++ row_entries n v) of.dimension ∙ sym h.text

  text_back : (word line : List ℕ) (v : Row) → line ≡ word ++ row_entries draft.dimension v → line ≡ word ++ row_entries head.dimension v
  text_back word line v is = is ∙ ap (λ n. word ++ row_entries n v) of.dimension

  pub image_place : IsRowPlace head (codes "image") places.image (λ rows. record draft { images = rows })
  unfolding opened
  image_place = record {
    fills = λ rows line v h. subst (λ l. Fills (record draft { images = rows }) places.image l (record draft { images = rows ++ v ∷ [] })) (text_in (codes "image") line v h) (an_image v (row_in v h));
    only = λ rows line next f. let a = is_image f in (a.0, record { row = row_back a.0 a.1; text = text_back (codes "image") line a.0 a.2 });
    opens = λ d. refl;
  }

  with_row-last : (v : Row) (done : List (List Row)) (matrix : List Row) → with_row v (done ++ matrix ∷ []) ≡ done ++ (matrix ++ v ∷ []) ∷ []
  unfolding with_row
  with_row-last v [] matrix = refl
  with_row-last v (m ∷ []) matrix = refl
  with_row-last v (m ∷ k ∷ done) matrix = ap (λ ms. m ∷ ms) (with_row-last v (k ∷ done) matrix)

  pub row_place : (done : List (List Row)) → IsRowPlace head (codes "row") places.row (λ rows. record draft { matrices = done ++ rows ∷ [] })
  unfolding opened
  row_place done = record {
    fills = λ rows line v h.
        subst (λ ms. Fills (record draft { matrices = done ++ rows ∷ [] }) places.row line (record draft { matrices = ms })) (with_row-last v done rows)
        (subst (λ l. Fills (record draft { matrices = done ++ rows ∷ [] }) places.row l (record draft { matrices = with_row v (done ++ rows ∷ []) })) (text_in (codes "row") line v h) (a_row v (row_in v h)));
    only = λ rows line next f. let a = is_row f in (a.0, record { row = row_back a.0 a.1; text = text_back (codes "row") line a.0 a.2 });
    opens = λ d. refl;
  }
