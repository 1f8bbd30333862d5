-- The lines before the relations that declare no letter.
use Rattle.std.proofs.Common.{◌≡◌, ℕ, ◌<◌, ◌≤◌, inr, Bool, Ok, Err, refl, sym, ap, ◌∙◌, subst}
use Rattle.ve_theory.specs.Residues.{IsFieldPrime}
use Rattle.ve_theory.specs.Validity.{most_generators}
use Rattle.ve_formats.specs.PresentationLines as lines
use Rattle.ve_formats.specs.PresentationLines.{Works, generators, balance, prime, version, after_generators, among_relations, takes_generators, refuses_generators, takes_balance, takes_prime, refuses_prime, takes_version, takes_end, after_end, IsAmongRelations, blank_draft, moved}
use Rattle.ve_pres.specs.Drafts as presentations
use Rattle.ve_pres.specs.Drafts.{IsOpen, with_generators, with_balance}
use Rattle.ve_read.specs.declared.building.Building.{Building}
use Rattle.ve_read.specs.declared.building.Stage.{Stage}
use Rattle.ve_read.specs.declared.building.Stage.TheVariants as stages
use Rattle.ve_read.specs.declared.draft.Draft.TheVariants.{Built}
use Rattle.ve_read.specs.declared.why.Why.{Why}
use Rattle.ve_read.specs.declared.why.Why.TheVariants.{BadPrime}
use Rattle.ve_read.specs.Refusals.{Tells}
use Rattle.ve_read.specs.Drafts.{IsBuilding, IsOpenAt, IsTaken, IsNotTaken, IsStarted, built_of, stage_of, versioned}

module _ (built : Building) (kept : IsBuilding built) where
  pub generators_taken : built.stage ≡ stages.Letters → (n : ℕ) → 0 < n → n ≤ most_generators → (next : presentations.Draft) → next ≡ with_generators built.presentation n
      → IsTaken (built_of built) (generators n) (Built (record { stage = stages.Generators; presentation = next; counted = built.counted }))
  generators_taken stage n positive small next is =
      let before : IsOpen built.presentation = subst (λ s. IsOpenAt s built.presentation) stage kept.open_ in
      let same = ap (λ (d : presentations.Draft). d.presentation) is in
      record {
        stands = (ap stage_of stage, positive);
        works = subst (λ d. Works (built_of built) (generators n) (Ok d)) (sym (λ i. record { stage = after_generators; presentation = same i; counted = built.counted })) (takes_generators n small);
        kept = record {
          counted = ap (λ (d : presentations.Draft). d.counted) is ∙ kept.counted;
          open_ = subst IsOpen (sym is) (record { relations = before.relations; submodule = before.submodule });
        };
      }

  pub balance_taken : built.stage ≡ stages.Generators → built.presentation.presentation.version ≡ 2 → (next : presentations.Draft) → next ≡ with_balance built.presentation
      → IsTaken (built_of built) balance (Built (record { stage = stages.Relations; presentation = next; counted = built.counted }))
  balance_taken stage two next is =
      let same = ap (λ (d : presentations.Draft). d.presentation) is in
      record {
        stands = (ap stage_of stage, two);
        works = subst (λ d. Works (built_of built) balance (Ok d)) (sym (λ i. record { stage = among_relations; presentation = same i; counted = built.counted })) takes_balance;
        kept = record { counted = ap (λ (d : presentations.Draft). d.counted) is ∙ kept.counted; open_ = tt };
      }

  pub end_taken : IsAmongRelations (stage_of built.stage) → IsTaken (built_of built) lines.end (Built (record { stage = stages.End; presentation = built.presentation; counted = built.counted }))
  end_taken stage = record { stands = stage; works = takes_end; kept = record { counted = kept.counted; open_ = tt } }

-- the line of the prime

pub prime_taken : (has_weights : Bool) (n : ℕ) (built : Building) → IsStarted has_weights n built → IsTaken (versioned has_weights) (prime n) (Built built)
prime_taken has_weights n built started = record {
  stands = refl;
  works = subst (λ d. Works (versioned has_weights) (prime n) (Ok d)) (sym started.is) (takes_prime n started.field);
  kept = started.kept;
}

pub prime_refused : (has_weights : Bool) (n : ℕ) (why : Why) → (why ≡ BadPrime) → (IsFieldPrime n → ⊥) → IsNotTaken (versioned has_weights) (prime n) why
prime_refused has_weights n why is other = inr (refl, subst (Tells (λ cause. Works (versioned has_weights) (prime n) (Err cause))) (sym is) (refuses_prime n other))

-- no other line may stand there

pub version_first : (built : Building) (n : ℕ) → lines.MayStand (built_of built) (version n) → ⊥
version_first built n h = not_start built.stage h.0
  where
    not_start : (s : Stage) → stage_of s ≡ lines.at_start → ⊥
    not_start stages.Letters is = cc
    not_start stages.Generators is = cc
    not_start stages.Relations is = cc
    not_start stages.End is = cc

pub prime_second : (built : Building) (n : ℕ) → lines.MayStand (built_of built) (prime n) → ⊥
prime_second built n h = not_versioned built.stage h
  where
    not_versioned : (s : Stage) → stage_of s ≡ lines.after_version → ⊥
    not_versioned stages.Letters is = cc
    not_versioned stages.Generators is = cc
    not_versioned stages.Relations is = cc
    not_versioned stages.End is = cc
