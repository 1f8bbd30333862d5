-- Endings exclude each other, and levels are reached one after another.
use Rattle.std.proofs.Common.{◌≡◌, ℕ, zero, suc, ◌+◌, ◌*◌, ◌<◌, ◌≤◌, ◌⊎◌, inl, inr, Contains, sym, ap, ◌∙◌, subst, refl, arith, mul-le-mul_left, mul-suc}
use Rattle.std.proofs.lemmas.Bool.{cases_lt}
use Rattle.ve_theory.specs.Words.{word_length}
use Rattle.ve_theory.specs.Presentations.{Presentation, IsPresentation, before, greatest_step, relator_bound, submodule_bound}
use Rattle.ve_theory.specs.Levels.{HasSize, Closes, FitsLimit, IsOutgrown, IsFinishedAt}
use Rattle.ve_theory.specs.Laws.{HasBounds, ListsAreUnique}
use Rattle.ve_theory.proofs.LevelBounds.{place_of_normal, reach_of_length}
use Rattle.ve_pres.specs.Drafts.{Draft}
use Rattle.ve_table.specs.Tables.{ActionTable, presented}
use Rattle.ve_table.specs.Changes.{opened}
use Rattle.ve_machine.specs.Finished.{IsOpening}
use Rattle.ve_levels.specs.Advancing.{IsNext, IsClosed, IsOver}

-- ---- one ending alone

-- a level that is outgrown, and a closing level within the limit
pub never_both : ListsAreUnique → (P : Presentation) (limit k j n : ℕ) → IsPresentation P → IsFinishedAt P limit k → IsOutgrown P limit j n → ⊥
never_both law P limit k j n V done over = cases (cases_lt k j)
  where
    cases : (k < j) ⊎ (j ≤ k) → ⊥
    cases (inl before) = over.open_before k before done.closing.closes
    cases (inr after) =
        let fits = done.fits j after in
        let same = law.sizes P j fits.0 n V fits.1 over.size in
        let small = fits.2 in
        let large = over.exceeds in
        omega arith

-- ---- how far levels reach

-- a level that fits the limit, where none before it closes
pub reached_level : (P : Presentation) → IsPresentation P → HasBounds P → (limit k : ℕ) → FitsLimit P limit k → ((j : ℕ) → j < k → Closes P j → ⊥)
    → k < submodule_bound P + greatest_step P * limit + relator_bound P
unfolding HasSize
reached_level P V bounds limit zero fits open_before = let greatest = bounds.greatest in omega arith
reached_level P V bounds limit (suc k) fits open_before = cases (cases_lt (suc k) (submodule_bound P + greatest_step P * limit + relator_bound P))
  where
    greatest : greatest_step P ≤ relator_bound P
    greatest = bounds.greatest

    cases : (suc k < submodule_bound P + greatest_step P * limit + relator_bound P) ⊎ (submodule_bound P + greatest_step P * limit + relator_bound P ≤ suc k)
        → suc k < submodule_bound P + greatest_step P * limit + relator_bound P
    cases (inl below) = below
    cases (inr above) = absurd (open_before k (omega arith) (record {
      submodule = omega (arith, above, greatest);
      relators = λ w N.
          let there : Contains fits.1.0 w = fits.1.1.every w N in
          let place : word_length w ≤ there.0 = place_of_normal P V k fits.1.0 fits.1.1 w N there in
          let few : suc (word_length w) ≤ limit = omega (arith, place, there.1, fits.1.2, fits.2) in
          omega (arith, above, greatest, reach_of_length P w, mul-suc (greatest_step P) (word_length w), mul-le-mul_left (greatest_step P) few);
    }))

-- ---- the way up

-- the table is at the beginning of its level, no level below closes, and all up to this one fit the limit
pub record IsReached (draft : Draft) (limit : ℕ) (T : ActionTable) : Type 0 where
  pub same : T.draft ≡ draft
  pub opening : IsOpening T
  pub open_before : (j : ℕ) → j < T.level → Closes draft.presentation j → ⊥
  pub fits : (j : ℕ) → j ≤ T.level → FitsLimit draft.presentation limit j

pub first_level : (draft : Draft) (limit : ℕ) (T : ActionTable) → T ≡ opened draft → draft.presentation.generators ≤ limit → IsReached draft limit T
unfolding HasSize
first_level draft limit T is few = record {
  same = ap (λ U. U.draft) is;
  opening = inl (is ∙ ap opened (sym (ap (λ U. U.draft) is)));
  open_before = λ j below. let level : T.level ≡ 0 = ap (λ U. U.level) is in absurd (omega arith);
  fits = λ j below.
      let level : T.level ≡ 0 = ap (λ U. U.level) is in
      let none : j ≡ 0 = omega arith in
      subst (FitsLimit draft.presentation limit) (sym none) (draft.presentation.generators, refl, few);
}

pub next_level : (draft : Draft) (limit : ℕ) (T done new : ActionTable) → IsReached draft limit T → done.draft ≡ T.draft → done.level ≡ T.level → IsNext done limit new → IsReached draft limit new
next_level draft limit T done new reached same_draft same_level next =
    let drafts : done.draft ≡ draft = same_draft ∙ reached.same in
    let above : new.level ≡ T.level + 1 = next.level ∙ ap (λ k. k + 1) same_level in
    record {
      same = next.draft ∙ drafts;
      opening = next.opening;
      open_before = λ j below closes. elim (cases_lt j T.level) [
        | inl earlier ↦ reached.open_before j earlier closes
        | inr here ↦
            let is : j ≡ done.level = omega arith in
            next.is_open (subst (Closes (presented done)) is (subst (λ d. Closes d.presentation j) (sym drafts) closes))
      ];
      fits = λ j below. elim (cases_lt T.level j) [
        | inl here ↦
            let is : done.level + 1 ≡ j = omega arith in
            subst (λ d. FitsLimit d.presentation limit j) drafts (subst (FitsLimit (presented done) limit) is next.fits)
        | inr earlier ↦ reached.fits j earlier
      ];
    }

pub closed_level : (draft : Draft) (limit : ℕ) (T done new : ActionTable) → IsReached draft limit T → done.draft ≡ T.draft → done.level ≡ T.level → IsClosed done new
    → (new.draft ≡ draft) × IsFinishedAt draft.presentation limit new.level
closed_level draft limit T done new reached same_draft same_level closed =
    let drafts : done.draft ≡ draft = same_draft ∙ reached.same in
    let level : new.level ≡ T.level = closed.level ∙ same_level in
    let here : Closes draft.presentation T.level = subst (λ d. Closes d.presentation T.level) drafts (subst (Closes (presented done)) same_level closed.closes) in (
      closed.draft ∙ drafts,
      subst (IsFinishedAt draft.presentation limit) (sym level)
          (record { closing = record { closes = here; least = reached.open_before }; fits = reached.fits }),
    )

pub over_level : (draft : Draft) (limit : ℕ) (T done last : ActionTable) (level size : ℕ) → IsReached draft limit T → done.draft ≡ T.draft → done.level ≡ T.level
    → IsOver done limit last level size → IsOutgrown draft.presentation limit level size
over_level draft limit T done last level size reached same_draft same_level over =
    let drafts : done.draft ≡ draft = same_draft ∙ reached.same in
    let above : level ≡ T.level + 1 = over.next_level ∙ ap (λ k. k + 1) same_level in
    record {
      size = subst (λ d. HasSize d.presentation level size) drafts over.has_size;
      exceeds = over.exceeds;
      open_before = λ j below closes. elim (cases_lt j T.level) [
        | inl earlier ↦ reached.open_before j earlier closes
        | inr here ↦
            let is : j ≡ done.level = omega arith in
            over.is_open (subst (Closes (presented done)) is (subst (λ d. Closes d.presentation j) (sym drafts) closes))
      ];
      fits_before = λ j below. reached.fits j (omega arith);
    }

pub outgrown_start : (draft : Draft) (limit size : ℕ) → size ≡ draft.presentation.generators → limit < size → IsOutgrown draft.presentation limit 0 size
unfolding HasSize
outgrown_start draft limit size is exceeds = record {
  size = is;
  exceeds = exceeds;
  open_before = λ j below. absurd (omega arith);
  fits_before = λ j below. absurd (omega arith);
}
