-- Whether a line may stand where it stands can be decided.
use Rattle.std.proofs.Common.{◌≡◌, ℕ, zero, suc, ◌<◌, ◌⊎◌, inl, inr, Option, Some, None, refl, sym, ap, ◌∙◌, arith}
use Rattle.std.proofs.lemmas.Bool.{cases_order}
use Rattle.ve_formats.specs.PresentationLines as drafts
use Rattle.ve_formats.specs.PresentationLines.{Draft, Stage, Line, MayStand, MayWeigh, IsAmongRelations, Declared}

-- decisions

abbrev pub Decided : Type 0 → Type 0
Decided A = A ⊎ (A → ⊥)

both : {A B : Type 0} → Decided A → Decided B → Decided (A × B)
both (inl a) (inl b) = inl (a, b)
both (inl a) (inr b) = inr (λ h. b h.1)
both (inr a) b = inr (λ h. a h.0)

all : {A B C : Type 0} → Decided A → Decided B → Decided C → Decided (A × B × C)
all (inl a) (inl b) (inl c) = inl (a, b, c)
all (inl a) (inl b) (inr c) = inr (λ h. c h.2)
all (inl a) (inr b) c = inr (λ h. b h.1)
all (inr a) b c = inr (λ h. a h.0)

either : {A B : Type 0} → Decided A → Decided B → Decided (A ⊎ B)
either (inl a) b = inl (inl a)
either (inr a) (inl b) = inl (inr b)
either {A} {B} (inr a) (inr b) = inr neither
  where
    neither : A ⊎ B → ⊥
    neither (inl h) = a h
    neither (inr h) = b h

same_number : (m n : ℕ) → Decided (m ≡ n)
same_number m n = by_order (cases_order m n)
  where
    by_order : (m ≡ n) ⊎ ((m < n) ⊎ (n < m)) → Decided (m ≡ n)
    by_order (inl e) = inl e
    by_order (inr (inl h)) = inr (λ e. omega arith)
    by_order (inr (inr h)) = inr (λ e. omega arith)

abbrev stage_number : Stage → ℕ
stage_number drafts.at_start = 0
stage_number drafts.after_version = 1
stage_number drafts.among_letters = 2
stage_number drafts.after_generators = 3
stage_number drafts.among_relations = 4
stage_number drafts.after_end = 5

abbrev numbered_stage : ℕ → Stage
numbered_stage zero = drafts.at_start
numbered_stage (suc zero) = drafts.after_version
numbered_stage (suc (suc zero)) = drafts.among_letters
numbered_stage (suc (suc (suc zero))) = drafts.after_generators
numbered_stage (suc (suc (suc (suc zero)))) = drafts.among_relations
numbered_stage (suc (suc (suc (suc (suc n))))) = drafts.after_end

numbered_stage-number : (s : Stage) → numbered_stage (stage_number s) ≡ s
numbered_stage-number drafts.at_start = refl
numbered_stage-number drafts.after_version = refl
numbered_stage-number drafts.among_letters = refl
numbered_stage-number drafts.after_generators = refl
numbered_stage-number drafts.among_relations = refl
numbered_stage-number drafts.after_end = refl

pub same_stage : (s t : Stage) → Decided (s ≡ t)
same_stage s t = by_number (same_number (stage_number s) (stage_number t))
  where
    by_number : Decided (stage_number s ≡ stage_number t) → Decided (s ≡ t)
    by_number (inl e) = inl (sym (numbered_stage-number s) ∙ (ap numbered_stage e ∙ numbered_stage-number t))
    by_number (inr other) = inr (λ e. other (ap stage_number e))

unweighed : (o : Option ℕ) → Decided (o ≡ None)
unweighed None = inl refl
unweighed (Some n) = inr (λ e. absurd (cc))

positive : (n : ℕ) → Decided (0 < n)
positive zero = inr (λ h. omega arith)
positive (suc n) = inl (omega arith)

-- whether a line may stand

module _ (draft : Draft) where
  may_weigh : (x : Declared) → Decided (MayWeigh draft x)
  may_weigh x = either (same_number draft.presentation.version 2) (unweighed x.weight)

  among_relations : Decided (IsAmongRelations draft.stage)
  among_relations = either (same_stage draft.stage drafts.after_generators) (same_stage draft.stage drafts.among_relations)

  pub may_stand : (line : Line) → Decided (MayStand draft line)
  may_stand (drafts.version n) = both (same_stage draft.stage drafts.at_start) (either (same_number n 1) (same_number n 2))
  may_stand (drafts.prime n) = same_stage draft.stage drafts.after_version
  may_stand (drafts.letter x) = both (same_stage draft.stage drafts.among_letters) (may_weigh x)
  may_stand (drafts.pair x y) = all (same_stage draft.stage drafts.among_letters) (may_weigh x) (may_weigh y)
  may_stand (drafts.involution x) = both (same_stage draft.stage drafts.among_letters) (may_weigh x)
  may_stand (drafts.generators n) = both (same_stage draft.stage drafts.among_letters) (positive n)
  may_stand drafts.balance = both (same_stage draft.stage drafts.after_generators) (same_number draft.presentation.version 2)
  may_stand (drafts.relation d e) = among_relations
  may_stand (drafts.submodule d e) = among_relations
  may_stand drafts.end = among_relations
