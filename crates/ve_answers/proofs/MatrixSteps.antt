-- Matrices, one after another.
use Rattle.std.proofs.Common.{◌≡◌, ◌↔◌, Bool, false, ℕ, suc, ◌-◌, ◌+◌, ◌<◌, ◌≤◌, List, [], ◌∷◌, ◌++◌, length, arith, refl, sym, ap, subst, ◌∙◌, append_assoc}
use Rattle.std.specs.Prelude.{IsTrue, Some, codes, replicate, slice_get}
use Rattle.std.specs.Str.{bytes_eq}
use Rattle.std.proofs.lemmas.List.{append_cancel_left, length_push}
use Rattle.std.proofs.lemmas.Slice.Eq.{bytes_eq-Decides}
use Rattle.std.proofs.lemmas.Option.{same_Some}
use Rattle.ve_theory.specs.Answers.{Row}
use Rattle.ve_formats.specs.AnswerReading as places
use Rattle.ve_formats.specs.AnswerReading.{Draft, Place, Fills, a_letter, matrix_places, opened}
use Rattle.ve_answers.specs.declared.head.Head.{Head}
use Rattle.ve_answers.specs.declared.lines.Lines.{Lines}
use Rattle.ve_answers.specs.declared.refusal.AnswerRefusal.{AnswerRefusal}
use Rattle.ve_answers.specs.Heads.{IsOfHead}
use Rattle.ve_answers.specs.Rows.{IsRowPlace}
use Rattle.ve_answers.specs.Steps.{IsCounted, TakesLine, RefusesNext, Leads, Refuses}
use Rattle.ve_answers.proofs.Places.{is_letter}
use Rattle.ve_answers.proofs.RowPlaces.{row_place}
use Rattle.ve_answers.proofs.Steps.{line_leads, leads_then, nothing_leads, next_refused}

-- ---- the line of a letter

pub is_named : (line word rest name : List ℕ) (told : Bool) → line ≡ word ++ rest → told ≡ bytes_eq rest name → IsTrue told ↔ (line ≡ word ++ name)
is_named line word rest name told line_is test = (
  λ same. line_is ∙ ap (λ t. word ++ t) ((bytes_eq-Decides rest name).0 (sym test ∙ same)),
  λ is. test ∙ (bytes_eq-Decides rest name).1 (append_cancel_left word rest name (sym line_is ∙ is)),
)

pub not_named : (line word name : List ℕ) → ((rest : List ℕ) → line ≡ word ++ rest → ⊥) → IsTrue false ↔ (line ≡ word ++ name)
not_named line word name unfit = (λ same. absurd cc, λ is. absurd (unfit name is))

-- ---- places

-- the places of a letter, and of those behind it
places_after : (rows count at : ℕ) → at < count → matrix_places rows (count - at) ≡ places.letter ∷ (replicate rows places.row ++ matrix_places rows (count - (at + 1)))
unfolding matrix_places
places_after rows count at less = let more : count - at ≡ suc (count - (at + 1)) = omega (arith, less) in ap (matrix_places rows) more

no_places : (rows count at : ℕ) → count ≤ at → matrix_places rows (count - at) ≡ []
unfolding matrix_places
no_places rows count at over = let none : count - at ≡ 0 = omega (arith, over) in ap (matrix_places rows) none

-- what the matrices so far lead to
abbrev pub LeadsOverMatrices : Head → Draft → List Place → Lines → ℕ → List (List Row) → Lines → Type 0
LeadsOverMatrices head draft left old at done now =
    Leads (record draft { matrices = [] }) (matrix_places head.dimension (length head.names) ++ left) old
    (record draft { matrices = done }) (matrix_places head.dimension (length head.names - at) ++ left) now

module _ (head : Head) (old : Lines) where
  pub record MatricesSoFar (at : ℕ) (done : List (List Row)) (now : Lines) : Type 0 where
    pub leads : (draft : Draft) (left : List Place) → IsOfHead head draft → LeadsOverMatrices head draft left old at done now
    pub counted : IsCounted now
    pub size : length done ≡ at

  pub no_matrices : (done : List (List Row)) → done ≡ [] → IsCounted old → MatricesSoFar 0 done old
  no_matrices done none counted =
      subst (λ ms. MatricesSoFar 0 ms old) (sym none)
      (record {
        leads = λ draft left of.
            let all : length head.names ≡ length head.names - 0 = omega arith in
            subst (λ n. Leads (record draft { matrices = [] }) (matrix_places head.dimension (length head.names) ++ left) old (record draft { matrices = [] }) (matrix_places head.dimension n ++ left) old) all
            (nothing_leads (record draft { matrices = [] }) (matrix_places head.dimension (length head.names) ++ left) old);
        counted = counted;
        size = refl;
      })

  pub all_matrices : (at : ℕ) (done : List (List Row)) (new : Lines) → length head.names ≤ at → MatricesSoFar at done new → (draft : Draft) (left : List Place) → IsOfHead head draft
      → Leads (record draft { matrices = [] }) (matrix_places head.dimension (length head.names) ++ left) old (record draft { matrices = done }) left new
  all_matrices at done new over so_far draft left of =
      subst (λ ps. Leads (record draft { matrices = [] }) (matrix_places head.dimension (length head.names) ++ left) old (record draft { matrices = done }) (ps ++ left) new)
      (no_places head.dimension (length head.names) at over) (so_far.leads draft left of)

  module _ (at : ℕ) (done : List (List Row)) (mid : Lines) (less : at < length head.names) (before : MatricesSoFar at done mid) (name : List ℕ) (named : slice_get head.names at ≡ Some name) where
    behind : List Place → List Place
    behind left = matrix_places head.dimension (length head.names - (at + 1)) ++ left

    places_here : (left : List Place) → matrix_places head.dimension (length head.names - at) ++ left ≡ places.letter ∷ (replicate head.dimension places.row ++ behind left)
    unfolding behind
    places_here left =
        ap (λ ps. ps ++ left) (places_after head.dimension (length head.names) at less)
        ∙ ap (λ ps. places.letter ∷ ps) (append_assoc (replicate head.dimension places.row) (matrix_places head.dimension (length head.names - (at + 1))) left)

    names_here : (draft : Draft) → IsOfHead head draft → slice_get draft.names (length done) ≡ Some name
    names_here draft of = (λ i. slice_get (of.names i) (before.size i)) ∙ named

    to_rows : (draft : Draft) (left : List Place) → IsOfHead head draft → (next : Lines) (line : List ℕ) → TakesLine mid line next → line ≡ codes "letter " ++ name
        → Leads (record draft { matrices = [] }) (matrix_places head.dimension (length head.names) ++ left) old
        (record draft { matrices = done ++ [] ∷ [] }) (replicate head.dimension places.row ++ behind left) next
    unfolding opened
    to_rows draft left of next line takes is =
        leads_then (before.leads draft left of)
        (subst (λ ps. Leads (record draft { matrices = done }) ps mid (record draft { matrices = done ++ [] ∷ [] }) (replicate head.dimension places.row ++ behind left) next) (sym (places_here left))
        (line_leads takes (subst (λ l. Fills (record draft { matrices = done }) places.letter l (record draft { matrices = done ++ [] ∷ [] })) (sym is) (a_letter name (names_here draft of)))))

    pub one_matrix : (next new : Lines) (line : List ℕ) (rows : List Row) → TakesLine mid line next → line ≡ codes "letter " ++ name
        → ((place : Place) (with_rows : List Row → Draft) (left : List Place) → IsRowPlace head (codes "row") place with_rows
        → Leads (with_rows []) (replicate head.dimension place ++ left) next (with_rows rows) left new)
        → IsCounted new → (pushed : List (List Row)) → pushed ≡ done ++ rows ∷ [] → MatricesSoFar (at + 1) pushed new
    unfolding behind
    one_matrix next new line rows takes is reads counted pushed pushed_is =
        subst (λ ms. MatricesSoFar (at + 1) ms new) (sym pushed_is)
        (record {
          leads = λ draft left of.
              leads_then (to_rows draft left of next line takes is) (reads places.row (λ rs. record draft { matrices = done ++ rs ∷ [] }) (behind left) (row_place head draft of done));
          counted = counted;
          size = length_push done rows ∙ omega (arith, before.size);
        })

    pub rows_refused : (next : Lines) (line : List ℕ) (refusal : AnswerRefusal) → TakesLine mid line next → line ≡ codes "letter " ++ name
        → ((place : Place) (with_rows : List Row → Draft) (left : List Place) → IsRowPlace head (codes "row") place with_rows
        → Refuses (with_rows []) (replicate head.dimension place ++ left) next refusal)
        → (draft : Draft) (left : List Place) → IsOfHead head draft → Refuses (record draft { matrices = [] }) (matrix_places head.dimension (length head.names) ++ left) old refusal
    rows_refused next line refusal takes is refuses draft left of =
        (to_rows draft left of next line takes is).failed refusal (refuses places.row (λ rs. record draft { matrices = done ++ rs ∷ [] }) (behind left) (row_place head draft of done))

    pub letter_refused : (refusal : AnswerRefusal) → RefusesNext mid (λ line. line ≡ codes "letter " ++ name) refusal
        → (draft : Draft) (left : List Place) → IsOfHead head draft → Refuses (record draft { matrices = [] }) (matrix_places head.dimension (length head.names) ++ left) old refusal
    letter_refused refusal refuses draft left of =
        (before.leads draft left of).failed refusal
        (subst (λ ps. Refuses (record draft { matrices = done }) ps mid refusal) (sym (places_here left))
        (next_refused (replicate head.dimension places.row ++ behind left) refuses
        (λ next line f. let a = is_letter f in a.2 ∙ ap (λ x. codes "letter " ++ x) (same_Some a.0 name (sym a.1 ∙ names_here draft of)))))
