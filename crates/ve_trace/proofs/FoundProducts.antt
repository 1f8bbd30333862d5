-- A sound table has each row that a product within its level needs.
use Rattle.std.proofs.Common.{◌≡◌, ◌≢◌, ℕ, ◌<◌, ◌≤◌, List, [], ◌∷◌, All, Some, nat_eq, slice_index_or, sym, ap, ◌∙◌, subst}
use Rattle.std.proofs.lemmas.List.Elements.{All-head, All-tail, All-weaker}
use Rattle.std.proofs.lemmas.Option.{slice_get-get_or}
use Rattle.ve_theory.specs.Combinations.{unit, IsReduced}
use Rattle.ve_theory.specs.Words.{Word, letters, start}
use Rattle.ve_theory.specs.Elements.{Element}
use Rattle.ve_theory.specs.Presentations.{Presentation, HasLetters, IsWord, letter_count, element_reach, reach}
use Rattle.ve_theory.specs.Answers.{Row}
use Rattle.ve_theory.specs.Laws.{ReachAddsUp, WordsAreOrdered, IsTotalOrder}
use Rattle.ve_theory.proofs.Sums.{weights_from_Alike, Alike_from_weights, Decides-nat_eq}
use Rattle.ve_theory.proofs.DerivationTrees.{All-greatest}
use Rattle.ve_vec.specs.Tracing.{PartialTable, vector_times, AreReduced, HasProducts, CanTrace, CanTraceRelation}
use Rattle.ve_table.specs.Tables.{ActionTable, presented}
use Rattle.ve_trace.specs.Within.{AreRowsOf}
use Rattle.ve_trace.specs.Found.{FindsProducts, SoundTablesFindProducts, AlikeVectorsTraceAlike}
use Rattle.ve_trace.proofs.Vectors.{vanishes_where_absent}
use Rattle.ve_trace.proofs.Tracings.{letters_alike, CanTrace-alike}
use Rattle.ve_trace.proofs.SoundRows.{IsIdFor, HasIdsFor, IsProductRow, product_row}
use Rattle.ve_trace.proofs.DerivedProducts.{ids_after_letter}
use Rattle.ve_trace.proofs.TracedProducts.{ids_by_reach, id_by_due, unit_fits, image_for}

pub alike_vectors : AlikeVectorsTraceAlike
alike_vectors p rows v w u alike =
    let same = weights_from_Alike nat_eq Decides-nat_eq p v w alike in
    (Alike_from_weights nat_eq (letters_alike p rows v w u same), CanTrace-alike p rows v w u same)

module _ (adds : ReachAddsUp) (T : ActionTable) (rows : PartialTable) (are : AreRowsOf T (presented T).prime rows) (ordered : IsTotalOrder (presented T)) where
  abbrev P : Presentation
  P = presented T

  abbrev p : ℕ
  p = P.prime

  products_found : (v : Row) (x : ℕ) (u : List ℕ) → x < letter_count P → HasIdsFor T (x ∷ u) v → HasProducts p rows v x
  products_found v x u is_letter fits b none =
      vanishes_where_absent p v b
      (All-weaker (λ (t : ℕ × ℕ). IsIdFor T (x ∷ u) t.0) (λ (t : ℕ × ℕ). t.0 ≢ b)
      (λ t fit same.
      let row : IsProductRow T rows t.0 x u = product_row adds T rows p are ordered t.0 x u is_letter fit in
      let there : rows b x ≡ Some row.vector = ap (λ c. rows c x) (sym same) ∙ row.known in
      cc) v fits)

  letters_found : (v : Row) (u : List ℕ) → HasLetters P u → HasIdsFor T u v → CanTrace p rows v u
  unfolding CanTrace
  letters_found v [] has fits = tt
  letters_found v (x ∷ u) has fits =
      let is_letter : x < letter_count P = All-head (λ y. y < letter_count P) x u has in
      (products_found v x u is_letter fits, letters_found (vector_times rows v x) u (All-tail (λ y. y < letter_count P) x u has) (ids_after_letter adds T rows are ordered v x u is_letter fits))

  rows_reduced : AreReduced p rows
  rows_reduced b x v known = (are.sound.rows b x v (sym (are.same b x) ∙ known)).stands.row.0

  images_reduced : All (IsReduced ◌<◌ p) T.images
  images_reduced = λ i d within. (are.sound.images i (slice_index_or T.images i d) (slice_get-get_or T.images i d within)).stands.row.0

  relation_found : (q : Element) → All (λ t. IsWord P t.0) q → element_reach P q ≤ T.level → CanTraceRelation p rows T.images q
  relation_found q words within = λ k d l.
      let w : Word = (slice_index_or q k d).0 in
      letters_found (slice_index_or T.images (start w) []) (letters w) (words k d l).1
      (image_for adds T rows are ordered w (words k d l) (All-greatest (reach P) q T.level within k d l)).ids

  at_prime : FindsProducts T p rows
  at_prime = record {
    reduced_rows = rows_reduced;
    reduced_images = images_reduced;
    words = λ first u row has within. letters_found first u has (ids_by_reach adds T first u row.1 within);
    elements = λ b r known has within. λ k d l.
        letters_found (unit b) (slice_index_or r k d).0 (has k d l) (unit_fits T b (slice_index_or r k d).0 (id_by_due T b r known within k d l));
    relations = relation_found;
  }

pub found_products : ReachAddsUp → WordsAreOrdered → SoundTablesFindProducts
found_products adds orders T p rows are =
    let M : ℕ → Type 0 = λ q. AreRowsOf T q rows → FindsProducts T q rows in
    let main : M (presented T).prime = λ at_rows. at_prime adds T rows at_rows (orders (presented T) at_rows.sound.valid.presentation) in
    subst M are.field main are
