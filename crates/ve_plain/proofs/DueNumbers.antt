-- The numbers of the relators that are due.
use Rattle.std.proofs.Common.{◌≡◌, ◌≢◌, ℕ, ◌+◌, ◌<◌, cond, IfSome, Some, None, List, [], ◌∷◌, ◌++◌, All, length, get_or, sym, ap, subst, ◌∙◌, arith, eq-eqb, ne_eqb}
use Rattle.std.specs.Prelude.{Contains, Option, filter, slice_index, slice_index_or}
use Rattle.std.specs.List.{range_with_len}
use Rattle.std.proofs.lemmas.Bool.{cond-false, cond-true, eqb-true}
use Rattle.std.proofs.lemmas.List.{append-nil, map-id}
use Rattle.std.proofs.lemmas.List.Elements.{All-filter, filter_passes}
use Rattle.std.proofs.lemmas.List.FromFn.{filter_of_map_range_with_len_more, get_or-range_with_len, length-range_with_len}
use Rattle.ve_theory.specs.Presentations.{Presentation, due, reach, relator, relator_reach, relators}
use Rattle.ve_theory.specs.Words.{generator}
use Rattle.ve_pres.specs.Drafts.{Draft}
use Rattle.ve_table.specs.Tables.{ActionTable, presented, reach_at, word_at}
use Rattle.ve_lemmas.proofs.Lists.{Contains-filter, range_below}
use Rattle.ve_plain.specs.Due.{due_numbers, is_due}
use Rattle.ve_plain.specs.SameLevel.{IsSameLevel}

-- one relator more, that is due or isn't
module _ (P : Presentation) (level r n : ℕ) where
  abbrev before : List ℕ
  before = filter (is_due P level r) (range_with_len 0 n)

  one_more : filter (is_due P level r) (range_with_len 0 (n + 1)) ≡ before ++ cond (is_due P level r n) (n ∷ []) []
  one_more =
      ap (filter (is_due P level r)) (sym (map-id (range_with_len 0 (n + 1)))) ∙ filter_of_map_range_with_len_more (is_due P level r) (λ x. x) 0 n n (omega arith)
      ∙ ap (λ l. filter (is_due P level r) l ++ cond (is_due P level r n) (n ∷ []) []) (map-id (range_with_len 0 n))

  pub due_more : r + relator_reach P (relator P n) ≡ level → filter (is_due P level r) (range_with_len 0 (n + 1)) ≡ before ++ n ∷ []
  due_more due = one_more ∙ ap (λ l. before ++ l) (cond-true {A = List ℕ} (is_due P level r n) (n ∷ []) [] (eq-eqb (r + relator_reach P (relator P n)) level due))

  pub not_due_more : r + relator_reach P (relator P n) ≢ level → filter (is_due P level r) (range_with_len 0 (n + 1)) ≡ before
  not_due_more other =
      one_more ∙ ap (λ l. before ++ l) (cond-false {A = List ℕ} (is_due P level r n) (n ∷ []) [] (ne_eqb (r + relator_reach P (relator P n)) level other))
      ∙ append-nil before

-- only relators that are due are among them, and all of those
module _ (P : Presentation) (level r : ℕ) where
  pub only_due : All (λ number. (number < length (relators P)) × (r + relator_reach P (relator P number) ≡ level)) (due_numbers P level r)
  only_due k d lt = (
    All-filter (is_due P level r) (λ number. number < length (relators P)) (range_with_len 0 (length (relators P))) (range_below (length (relators P))) k d lt,
    eqb-true (r + relator_reach P (relator P (get_or (due_numbers P level r) k d))) level (filter_passes (is_due P level r) (range_with_len 0 (length (relators P))) k d lt),
  )

  pub every_due : (number : ℕ) → number < length (relators P) → r + relator_reach P (relator P number) ≡ level → Contains (due_numbers P level r) number
  every_due number within due =
      Contains-filter (is_due P level r) (range_with_len 0 (length (relators P))) number
      (number, omega (arith, within, length-range_with_len 0 (length (relators P))), get_or-range_with_len 0 (length (relators P)) number number within ∙ omega arith)
      (eq-eqb (r + relator_reach P (relator P number)) level due)

-- the list stays the same through the level
still_due : (A B : ActionTable) → IsSameLevel A B → (r : ℕ) → due_numbers (presented B) B.level r ≡ due_numbers (presented A) A.level r
still_due A B same r = ap (λ (d : Draft). due_numbers d.presentation B.level r) same.draft ∙ ap (λ k. due_numbers (presented A) k r) same.level

-- the list is that of a reach, where there is one
abbrev pub AreDue : ActionTable → Option ℕ → List ℕ → Type 0
AreDue T reach numbers = IfSome reach (λ r. numbers ≡ due_numbers (presented T) T.level r)

pub AreDue-kept : (A B : ActionTable) → IsSameLevel A B → (reach : Option ℕ) (numbers : List ℕ) → AreDue A reach numbers → AreDue B reach numbers
AreDue-kept A B same None numbers due = tt
AreDue-kept A B same (Some r) numbers due = due ∙ sym (still_due A B same r)

still_reaches : (A B : ActionTable) → IsSameLevel A B → (id : ℕ) → reach_at B id ≡ reach_at A id
still_reaches A B same id =
    ap (λ (d : Draft). reach d.presentation (word_at B id)) same.draft ∙ ap (λ ws. reach (presented A) (slice_index_or ws id (generator 0))) same.words

-- each relator of an id's list is due at it
pub due_there : (A B : ActionTable) → IsSameLevel A B → (id place : ℕ) (numbers : List ℕ) → numbers ≡ due_numbers (presented A) A.level (reach_at A id) → place < length numbers
    → (slice_index numbers place < length (relators (presented B))) × (due (presented B) (word_at B id) (relator (presented B) (slice_index numbers place)) ≡ B.level)
due_there A B same id place numbers are within =
    let there : numbers ≡ due_numbers (presented B) B.level (reach_at B id) =
    are ∙ sym (still_due A B same (reach_at A id)) ∙ ap (due_numbers (presented B) B.level) (sym (still_reaches A B same id)) in
    subst (All (λ number. (number < length (relators (presented B))) × (due (presented B) (word_at B id) (relator (presented B) number) ≡ B.level))) (sym there)
    (only_due (presented B) B.level (reach_at B id)) place 0 within
