-- Lines fill places in one way, or fail at one line.
use Rattle.std.proofs.Common.{◌≡◌, ℕ, suc, inl, inr, List, [], ◌∷◌, ◌++◌, All, arith, refl, sym, ap, subst, append-nil}
use Rattle.std.proofs.lemmas.List.Elements.{All-head, All-tail, All-nil}
use Rattle.ve_theory.specs.Laws.{ReducedListsAreUnique}
use Rattle.ve_formats.specs.AnswerReading as places
use Rattle.ve_formats.specs.AnswerReading.{AreNames, Draft, Place, blank_draft, head_places, body_places, Fills, FillAll, none, one, FailAt, misfit, too_few, too_many, later, opened}
use Rattle.ve_formats.proofs.CanonicalLines.{prime_small}
use Rattle.ve_formats.proofs.SpacedPieces.{IsWritten}
use Rattle.ve_formats.proofs.AnswerSteps.{version_filled, prime_filled, names_filled, generators_filled, level_filled, dimension_filled, IsKept, IsOfBody, IsOfHead, six, five, four, three, two, one_left, IsOnTheWay, body_of_body, body_kept, fills_once}

no_words : (draft : Draft) (names : List (List ℕ)) → draft.basis ≡ [] → All (IsWritten names) draft.basis
no_words draft names empty = subst (All (IsWritten names)) (sym empty) (All-nil (IsWritten names))

head_step : {draft next : Draft} {place : Place} {left : List Place} {line : List ℕ} → IsKept draft → draft.basis ≡ [] → IsOfHead (place ∷ left) → Fills draft place line next → IsOnTheWay next (opened place next ++ left)
unfolding opened
head_step kept empty six f =
    subst (λ d. IsOnTheWay d (places.prime ∷ places.names ∷ places.generators ∷ places.closed ∷ places.dimension ∷ [])) (sym (version_filled f).1) (record { kept = kept; where_ = inl (empty, five) })
head_step kept empty five f =
    let a = prime_filled f in
    subst (λ d. IsOnTheWay d (places.names ∷ places.generators ∷ places.closed ∷ places.dimension ∷ [])) (sym a.3)
    (record { kept = record { prime = omega (arith, prime_small a.0 a.1); names = kept.names; generators = kept.generators; words = kept.words }; where_ = inl (empty, four) })
head_step {draft} kept empty four f =
    let a = names_filled f in
    subst (λ d. IsOnTheWay d (places.generators ∷ places.closed ∷ places.dimension ∷ [])) (sym a.3)
    (record { kept = record { prime = kept.prime; names = a.1; generators = kept.generators; words = no_words draft a.0 empty }; where_ = inl (empty, three) })
head_step kept empty three f =
    let a = generators_filled f in
    subst (λ d. IsOnTheWay d (places.closed ∷ places.dimension ∷ [])) (sym a.4)
    (record { kept = record { prime = kept.prime; names = kept.names; generators = a.2; words = kept.words }; where_ = inl (empty, two) })
head_step kept empty two f =
    subst (λ d. IsOnTheWay d (places.dimension ∷ [])) (sym (level_filled f).3)
    (record { kept = record { prime = kept.prime; names = kept.names; generators = kept.generators; words = kept.words }; where_ = inl (empty, one_left) })
head_step {next} kept empty one_left f =
    record {
      kept = subst IsKept (sym (dimension_filled f).3) (record { prime = kept.prime; names = kept.names; generators = kept.generators; words = kept.words });
      where_ = inr (subst (All IsOfBody) (sym (append-nil (body_places next))) (body_of_body next));
    }

body_step : (place : Place) (left : List Place) {draft next : Draft} {line : List ℕ} → IsKept draft → IsOfBody place → All IsOfBody left → Fills draft place line next → IsOnTheWay next (opened place next ++ left)
unfolding opened
body_step places.version left kept of rest f = absurd of
body_step places.prime left kept of rest f = absurd of
body_step places.names left kept of rest f = absurd of
body_step places.generators left kept of rest f = absurd of
body_step places.closed left kept of rest f = absurd of
body_step places.dimension left kept of rest f = absurd of
body_step places.word left kept of rest f = record { kept = body_kept places.word tt kept f; where_ = inr rest }
body_step places.image left kept of rest f = record { kept = body_kept places.image tt kept f; where_ = inr rest }
body_step places.letter left kept of rest f = record { kept = body_kept places.letter tt kept f; where_ = inr rest }
body_step places.row left kept of rest f = record { kept = body_kept places.row tt kept f; where_ = inr rest }
body_step places.end left kept of rest f = record { kept = body_kept places.end tt kept f; where_ = inr rest }

-- a line leads on
pub on_the_way : {draft next : Draft} {place : Place} {left : List Place} {line : List ℕ} → IsOnTheWay draft (place ∷ left) → Fills draft place line next → IsOnTheWay next (opened place next ++ left)
on_the_way {place} {left} way f = elim way.where_ [
  | inl head ↦ head_step way.kept head.0 head.1 f
  | inr body ↦ body_step place left way.kept (All-head IsOfBody place left body) (All-tail IsOfBody place left body) f
]

-- the way begins with nothing read
pub at_first : IsOnTheWay blank_draft head_places
at_first = record {
  kept = record {
    prime = omega arith;
    names = record { few = omega arith; formed = All-nil _; distinct = λ i j d less inside. absurd (omega (arith, inside)) };
    generators = omega arith;
    words = All-nil (IsWritten []);
  };
  where_ = inl (refl, six);
}

module _ (unique : ReducedListsAreUnique) where
  pub fails_once : {draft : Draft} {left : List Place} {lines : List (List ℕ)} {m n : ℕ} → IsOnTheWay draft left → FailAt draft left lines m → FailAt draft left lines n → m ≡ n
  fails_once way (misfit unfit) (misfit again) = refl
  fails_once way (misfit unfit) (later {next} fills rest) = absurd (unfit next fills)
  fails_once way too_few too_few = refl
  fails_once way too_many too_many = refl
  fails_once way (later {next} fills rest) (misfit unfit) = absurd (unfit next fills)
  fails_once way (later {next} {place} {places = left} {line} {lines} fills rest) (later {next = other} {n} again more) =
      let same : other ≡ next = fills_once unique place way.kept again fills in
      ap suc (fails_once (on_the_way way fills) rest (subst (λ d. FailAt d (opened place d ++ left) lines n) same more))

  pub filled_once : {draft last other : Draft} {left : List Place} {lines : List (List ℕ)} → IsOnTheWay draft left → FillAll draft left lines last → FillAll draft left lines other → last ≡ other
  filled_once way none none = refl
  filled_once {other = last_other} way (one {next} {place} {places = left} {line} {lines} fills rest) (one {next = other} again more) =
      let same : other ≡ next = fills_once unique place way.kept again fills in
      filled_once (on_the_way way fills) rest (subst (λ d. FillAll d (opened place d ++ left) lines last_other) same more)

  pub never_both : {draft last : Draft} {left : List Place} {lines : List (List ℕ)} {n : ℕ} → IsOnTheWay draft left → FillAll draft left lines last → FailAt draft left lines n → ⊥
  never_both way none failed = elim failed [ ]
  never_both way (one {next} fills rest) (misfit unfit) = unfit next fills
  never_both way (one {next} {place} {places = left} {lines} fills rest) (later {next = other} {n} again more) =
      let same : other ≡ next = fills_once unique place way.kept again fills in
      never_both (on_the_way way fills) rest (subst (λ d. FailAt d (opened place d ++ left) lines n) same more)
