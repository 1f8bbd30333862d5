-- The last lines, and the whole text.
use Rattle.std.proofs.Common.{◌≡◌, ℕ, ◌+◌, ◌^◌, ◌<◌, List, [], ◌∷◌, ◌++◌, length, arith, refl, sym, subst, ◌∙◌}
use Rattle.std.proofs.lemmas.List.{length_push}
use Rattle.std.specs.Prelude.{codes, replicate}
use Rattle.ve_theory.specs.Answers.{Row}
use Rattle.ve_theory.specs.Words.{Word}
use Rattle.ve_formats.specs.Lines.{lines_of}
use Rattle.ve_formats.specs.AnswerReading as places
use Rattle.ve_formats.specs.AnswerReading.{Draft, Place, FillAll, FailAt, body_places, matrix_places, one, the_end, opened, blank_draft, head_places, IsNoAnswerAt, ShowsAnswer, answer_in}
use Rattle.ve_table.specs.declared.origin.Origin.{Origin}
use Rattle.ve_table.specs.Books.{spelled, words_after, words_of}
use Rattle.ve_matrix.specs.declared.answer.Answer.{Answer}
use Rattle.ve_matrix.specs.Answers.{IsAnswerValue, NameEarlierPlaces, answer_of}
use Rattle.ve_matrix.proofs.BasisWords.{length-words_of}
use Rattle.ve_answers.specs.declared.head.Head.{Head}
use Rattle.ve_answers.specs.declared.lines.Lines.{Lines}
use Rattle.ve_answers.specs.declared.refusal.AnswerRefusal.{AnswerRefusal}
use Rattle.ve_answers.specs.declared.refusal.AnswerRefusal.TheVariants.{Line, Memory}
use Rattle.ve_answers.specs.Heads.{IsOfHead, draft_of}
use Rattle.ve_answers.specs.Rows.{IsRowPlace}
use Rattle.ve_answers.specs.Refusals.{IsRefusal}
use Rattle.ve_answers.specs.Steps.{TakesLine, RefusesNext, Refuses, Leads, lines_left}
use Rattle.ve_answers.proofs.Places.{is_end}
use Rattle.ve_answers.proofs.RowPlaces.{image_place}
use Rattle.ve_answers.proofs.Steps.{line_leads, leads_then, next_refused}

module _ (last : Draft) where
  pub ended : {before behind : Lines} → TakesLine before (codes "end") behind → lines_left behind ≡ [] → FillAll last (places.end ∷ []) (lines_left before) last
  unfolding opened
  ended {before} {behind} takes none =
      subst (λ lines. FillAll last (places.end ∷ []) lines last) (sym takes.lines)
      (one the_end (subst (λ lines. FillAll last [] lines last) (sym none) places.none))

  pub no_end : {before : Lines} (refusal : AnswerRefusal) → RefusesNext before (λ line. line ≡ codes "end") refusal → Refuses last (places.end ∷ []) before refusal
  no_end refusal refuses = next_refused [] refuses (λ next line f. is_end f)

  pub not_ended : {before behind : Lines} (refusal : AnswerRefusal) → TakesLine before (codes "end") behind → ((draft : Draft) → Refuses draft [] behind refusal) → Refuses last (places.end ∷ []) before refusal
  unfolding opened
  not_ended refusal takes refuses = (line_leads takes the_end).failed refusal (refuses last)

-- a refusal of the whole text
pub whole_refused : (text : List ℕ) (lines : Lines) (refusal : AnswerRefusal) → lines.rest.now ≡ text → lines.taken ≡ 0 → Refuses blank_draft head_places lines refusal → IsRefusal text refusal
whole_refused text lines Memory rest none h = tt
whole_refused text lines (Line number) rest none h =
    let same : h.behind ≡ number = omega (arith, h.count, none) in
    subst (λ n. IsNoAnswerAt text n) same (subst (λ t. FailAt blank_draft head_places (lines_of t) h.behind) rest h.fails)

pub few_origins : (origins : List Origin) → length (words_of origins) < 2 ^ 32 → length origins < 2 ^ 32
few_origins origins small = omega (arith, length-words_of origins, small)

-- ---- part by part

module _ (head : Head) where
  abbrev pub with_basis : List Origin → Draft
  with_basis origins = record (draft_of head) { basis = words_of origins }

  abbrev pub with_images : List Origin → List Row → Draft
  with_images origins images = record (with_basis origins) { images = images }

  abbrev pub whole : List Origin → List Row → List (List Row) → Draft
  whole origins images matrices = record (with_images origins images) { matrices = matrices }

  abbrev pub matrices_left : List Place
  matrices_left = matrix_places head.dimension (length head.names) ++ places.end ∷ []

  abbrev pub images_left : List Place
  images_left = replicate head.roots places.image ++ matrices_left

  pub of_head : (draft : Draft) → draft.prime ≡ head.field → draft.names ≡ head.names → draft.generators ≡ head.roots → draft.dimension ≡ head.dimension → IsOfHead head draft
  of_head draft p n g d = record { prime = p; names = n; generators = g; dimension = d }

  module _ (first second : Lines) (leads : Leads blank_draft head_places first (draft_of head) (body_places (draft_of head)) second) where
    module _ (third : Lines) (origins : List Origin)
        (basis : (left : List Place) → Leads (draft_of head) (replicate head.dimension places.word ++ left) second (with_basis origins) left third) where
      pub to_images : Leads blank_draft head_places first (with_basis origins) images_left third
      to_images = leads_then leads (basis images_left)

      pub images_refused : (refusal : AnswerRefusal)
          → ((place : Place) (with_rows : List Row → Draft) (left : List Place) → IsRowPlace head (codes "image") place with_rows → Refuses (with_rows []) (replicate head.roots place ++ left) third refusal)
          → Refuses blank_draft head_places first refusal
      images_refused refusal refuses =
          to_images.failed refusal (refuses places.image (λ rows. with_images origins rows) matrices_left (image_place head (with_basis origins) (of_head (with_basis origins) refl refl refl refl)))

      module _ (fourth : Lines) (images : List Row)
          (rows : (place : Place) (with_rows : List Row → Draft) (left : List Place) → IsRowPlace head (codes "image") place with_rows
          → Leads (with_rows []) (replicate head.roots place ++ left) third (with_rows images) left fourth) where
        pub to_matrices : Leads blank_draft head_places first (with_images origins images) matrices_left fourth
        to_matrices =
            leads_then to_images (rows places.image (λ rows. with_images origins rows) matrices_left (image_place head (with_basis origins) (of_head (with_basis origins) refl refl refl refl)))

        module _ (fifth : Lines) (matrices : List (List Row))
            (squares : (draft : Draft) (left : List Place) → IsOfHead head draft
            → Leads (record draft { matrices = [] }) (matrix_places head.dimension (length head.names) ++ left) fourth (record draft { matrices = matrices }) left fifth) where
          pub to_end : Leads blank_draft head_places first (whole origins images matrices) (places.end ∷ []) fifth
          to_end = leads_then to_matrices (squares (with_images origins images) (places.end ∷ []) (of_head (with_images origins images) refl refl refl refl))

          pub end_refused : {refusal : AnswerRefusal} → RefusesNext fifth (λ line. line ≡ codes "end") refusal → Refuses blank_draft head_places first refusal
          end_refused {refusal} refuses = to_end.failed refusal (no_end (whole origins images matrices) refusal refuses)

          module _ (sixth : Lines) (end : TakesLine fifth (codes "end") sixth) where
            pub behind_end_refused : (refusal : AnswerRefusal) → ((draft : Draft) → Refuses draft [] sixth refusal) → Refuses blank_draft head_places first refusal
            behind_end_refused refusal refuses = to_end.failed refusal (not_ended (whole origins images matrices) refusal end refuses)

            pub all_filled : lines_left sixth ≡ [] → FillAll blank_draft head_places (lines_left first) (whole origins images matrices)
            all_filled none = to_end.filled (whole origins images matrices) (ended (whole origins images matrices) end none)

        pub matrices_refused : (refusal : AnswerRefusal)
            → ((draft : Draft) (left : List Place) → IsOfHead head draft → Refuses (record draft { matrices = [] }) (matrix_places head.dimension (length head.names) ++ left) fourth refusal)
            → Refuses blank_draft head_places first refusal
        matrices_refused refusal refuses =
            to_matrices.failed refusal (refuses (with_images origins images) (places.end ∷ []) (of_head (with_images origins images) refl refl refl refl))

    pub basis_refused : (refusal : AnswerRefusal) → ((left : List Place) → Refuses (draft_of head) (replicate head.dimension places.word ++ left) second refusal) → Refuses blank_draft head_places first refusal
    basis_refused refusal refuses = leads.failed refusal (refuses images_left)

-- ---- what was read

-- an answer that a text shows is one that its type can hold
pub is_value : (A : Answer) (text : List ℕ) → ShowsAnswer text (answer_of A) → NameEarlierPlaces A.basis.items → IsAnswerValue A
is_value A text shows earlier = record {
  prime = shows.writable.prime;
  form = shows.writable.form;
  dimension = few_origins A.basis.items shows.writable.dimension;
  origins = earlier;
}
