-- Lines that declare letters.
use Rattle.std.proofs.Common.{◌≡◌, ℕ, inr, [], ◌∷◌, length, Some, None, Result, Ok, Err, sym, ap, ◌∙◌, subst, ◌+◌}
use Rattle.std.specs.Prelude.{MatchResult}
use Rattle.ve_theory.specs.Presentations.{Presentation}
use Rattle.ve_theory.specs.Validity.{IsValid}
use Rattle.ve_formats.specs.PresentationLines as lines
use Rattle.ve_formats.specs.PresentationLines.{Draft, Line, MayStand, MayWeigh, Declares, Works, among_letters, letter, pair, involution, takes_letter, refuses_letter, takes_involution, refuses_involution, takes_pair, refuses_first, refuses_second, with_letter, with_first, moved, weight_of}
use Rattle.ve_pres.specs.Drafts as presentations
use Rattle.ve_pres.specs.Drafts.{IsOpen, with_letters, with_weight}
use Rattle.ve_read.specs.declared.building.Building.{Building}
use Rattle.ve_read.specs.declared.building.Stage.TheVariants.{Letters}
use Rattle.ve_read.specs.declared.draft.Draft.TheVariants.{Built}
use Rattle.ve_read.specs.declared.why.Why.{Why}
use Rattle.ve_read.specs.Refusals.{Tells}
use Rattle.ve_read.specs.Drafts.{IsBuilding, IsOpenAt, IsTaken, IsNotTaken, Judges, built_of, stage_of}
use Rattle.ve_read.proofs.Told.{tells_more}
use Rattle.ve_read.proofs.Letters.{with_letter_is, with_pair_is}

-- refusals

module _ (draft : Draft) (x : lines.Declared) (at : draft.stage ≡ among_letters) (may : MayWeigh draft x) (why : Why) (told : Tells (λ cause. Declares draft.presentation x (Some cause)) why) where
  pub letter_refused : IsNotTaken draft (letter x) why
  letter_refused = inr ((at, may), tells_more _ (λ cause. Works draft (letter x) (Err cause)) why (refuses_letter x) told)

  pub involution_refused : IsNotTaken draft (involution x) why
  involution_refused = inr ((at, may), tells_more _ (λ cause. Works draft (involution x) (Err cause)) why (refuses_involution x) told)

  pub first_refused : (y : lines.Declared) → MayWeigh draft y → IsNotTaken draft (pair x y) why
  first_refused y other = inr ((at, may, other), tells_more _ (λ cause. Works draft (pair x y) (Err cause)) why (refuses_first x y) told)

-- the first letter of a pair
pub judged_first : (draft : Draft) (x y : lines.Declared) → draft.stage ≡ among_letters → MayWeigh draft x → MayWeigh draft y → (result : Result ℕ Why) → Judges draft.presentation x result
    → MatchResult result (λ weight. (weight ≡ weight_of x) × Declares draft.presentation x None × MayWeigh draft x × MayWeigh draft y) (IsNotTaken draft (pair x y))
judged_first draft x y at may other (Ok weight) h = (h.0, h.1, may, other)
judged_first draft x y at may other (Err why) h = first_refused draft x at may why h y other

pub second_refused : (draft : Draft) (x y : lines.Declared) → draft.stage ≡ among_letters → MayWeigh draft x → MayWeigh draft y → Declares draft.presentation x None
    → (why : Why) → Tells (λ cause. Declares (with_first draft.presentation x) y (Some cause)) why → IsNotTaken draft (pair x y) why
second_refused draft x y at may other first why told =
    inr ((at, may, other), tells_more _ (λ cause. Works draft (pair x y) (Err cause)) why (λ cause. refuses_second x y cause first) told)

-- letters that are taken

module _ (built : Building) (stage : built.stage ≡ Letters) (kept : IsBuilding built) (valid : IsValid built.presentation.presentation)
    (next : presentations.Draft) (open_ : IsOpen next) where
  after : Building
  after = record { stage = built.stage; presentation = next; counted = built.counted }

  building : (next.counted ≡ built.presentation.counted) → IsBuilding (record { stage = built.stage; presentation = next; counted = built.counted })
  building counted = record { counted = counted ∙ kept.counted; open_ = subst (λ s. IsOpenAt s next) (sym stage) open_ }

  draft_is : (P : Presentation) → next.presentation ≡ P
      → built_of (record { stage = built.stage; presentation = next; counted = built.counted }) ≡ moved (built_of built) among_letters P
  draft_is P same = λ i. record { stage = ap stage_of stage i; presentation = same i; counted = built.counted }

  works_with : (line : Line) (P : Presentation) → next.presentation ≡ P → Works (built_of built) line (Ok (moved (built_of built) among_letters P))
      → Works (built_of built) line (Ok (built_of (record { stage = built.stage; presentation = next; counted = built.counted })))
  works_with line P same works = subst (λ d. Works (built_of built) line (Ok d)) (sym (draft_is P same)) works

  module _ (x : lines.Declared) (may : MayWeigh (built_of built) x) (declares : Declares built.presentation.presentation x None) where
    pub letter_taken : next ≡ with_weight (with_letters built.presentation (x.called ∷ []) (None ∷ [])) (length built.presentation.presentation.names) (weight_of x)
        → IsTaken (built_of built) (letter x) (Built (record { stage = built.stage; presentation = next; counted = built.counted }))
    letter_taken is =
        let same = ap (λ (d : presentations.Draft). d.presentation) is ∙ with_letter_is built.presentation valid.presentation.one_weight_each x None in
        record {
          stands = (ap stage_of stage, may);
          works = works_with (letter x) (with_letter built.presentation.presentation x None) same (takes_letter x declares);
          kept = building (ap (λ (d : presentations.Draft). d.counted) is);
        }

    pub involution_taken : next ≡ with_weight (with_letters built.presentation (x.called ∷ []) (Some (length built.presentation.presentation.names) ∷ [])) (length built.presentation.presentation.names) (weight_of x)
        → IsTaken (built_of built) (involution x) (Built (record { stage = built.stage; presentation = next; counted = built.counted }))
    involution_taken is =
        let inverse = Some (length built.presentation.presentation.names) in
        let same = ap (λ (d : presentations.Draft). d.presentation) is ∙ with_letter_is built.presentation valid.presentation.one_weight_each x inverse in
        record {
          stands = (ap stage_of stage, may);
          works = works_with (involution x) (with_letter built.presentation.presentation x inverse) same (takes_involution x declares);
          kept = building (ap (λ (d : presentations.Draft). d.counted) is);
        }

    pub pair_taken : (y : lines.Declared) → MayWeigh (built_of built) y → Declares (with_first built.presentation.presentation x) y None
        → (let n = length built.presentation.presentation.names in
        next ≡ with_weight (with_weight (with_letters built.presentation (x.called ∷ y.called ∷ []) (Some (n + 1) ∷ Some n ∷ [])) n (weight_of x)) (n + 1) (weight_of y))
        → IsTaken (built_of built) (pair x y) (Built (record { stage = built.stage; presentation = next; counted = built.counted }))
    pair_taken y other second is =
        let P = built.presentation.presentation in
        let same = ap (λ (d : presentations.Draft). d.presentation) is ∙ with_pair_is built.presentation valid.presentation.one_weight_each x y in
        record {
          stands = (ap stage_of stage, may, other);
          works = works_with (pair x y) (with_letter (with_first P x) y (Some (length P.names))) same (takes_pair x y declares second);
          kept = building (ap (λ (d : presentations.Draft). d.counted) is);
        }
