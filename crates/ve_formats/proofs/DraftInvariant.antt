-- A draft's presentation stays one in which expressions have values.
use Rattle.std.proofs.Common.{◌≡◌, ◌≢◌, ℕ, zero, suc, ◌+◌, ◌<◌, ◌≤◌, List, [], ◌∷◌, ◌++◌, length, length-append, get_or, Contains, AllPairs, Option, Some, None, Result, refl, ◌∙◌, arith}
use Rattle.std.specs.Prelude.{slice_get, IfOk}
use Rattle.std.proofs.Math.Nat.{le_refl}
use Rattle.std.proofs.lemmas.List.{get_or_default}
use Rattle.std.proofs.lemmas.List.Quantifiers.{all_pairs_push}
use Rattle.ve_theory.specs.Residues.{primes}
use Rattle.ve_theory.specs.Presentations.{Presentation}
use Rattle.ve_formats.specs.Causes.{Cause}
use Rattle.ve_formats.specs.Values.{IsReadable}
use Rattle.ve_formats.specs.PresentationLines.{Declared, Line, Draft, blank_draft, with_letter, with_first, Declares, free, rooted, taken, full, misweighed, Works, takes_version, takes_prime, refuses_prime, takes_letter, refuses_letter, takes_involution, refuses_involution, takes_pair, refuses_first, refuses_second, takes_generators, refuses_generators, takes_balance, takes_end, takes_relation, refuses_count, refuses_value, refuses_room, takes_submodule, refuses_submodule_count, refuses_submodule_value, refuses_submodule_room}
use Rattle.ve_formats.specs.PresentationText as texts
use Rattle.ve_formats.specs.PresentationText.{Accepts}

pub blank_readable : IsReadable blank_draft.presentation
unfolding primes
blank_readable = record { field = (0, omega arith, refl); distinct = λ i j d less within. absurd (omega arith); generators = omega arith; inverses = λ x y is. absurd (cc) }

free_name : (P : Presentation) (x : Declared) (o : Option Cause) → Declares P x o → o ≡ None → Contains P.names x.called → ⊥
free_name P x _ (free absent plain room light heavy) is = absent
free_name P x _ (rooted h) is = absurd (cc)
free_name P x _ (taken h) is = absurd (cc)
free_name P x _ (full absent plain room) is = absurd (cc)
free_name P x _ (misweighed absent plain room weight) is = absurd (cc)

distinct_names : (P : Presentation) (x : Declared) → AllPairs ◌≢◌ P.names → Declares P x None → AllPairs ◌≢◌ (P.names ++ x.called ∷ [])
distinct_names P x distinct h = all_pairs_push ◌≢◌ P.names x.called distinct (λ k d within is. free_name P x None h refl (k, within, differs k d within is))
  where
    differs : (k : ℕ) (d : List ℕ) → k < length P.names → get_or P.names k d ≡ x.called → get_or P.names k x.called ≡ x.called
    differs k d within is = get_or_default P.names k x.called d within ∙ is

-- inverses among the first letters
abbrev AreBelow : ℕ → List (Option ℕ) → Type 0
AreBelow n inverses = (x y : ℕ) → slice_get inverses x ≡ Some (Some y) → y < n

below_more : {n m : ℕ} (inverses : List (Option ℕ)) (inverse : Option ℕ) → n ≤ m → AreBelow n inverses → ((y : ℕ) → inverse ≡ Some y → y < m) → AreBelow m (inverses ++ inverse ∷ [])
below_more {n} {m} [] inverse le h last zero y is = last y (cc)
below_more {n} {m} [] inverse le h last (suc x) y is = absurd (cc)
below_more {n} {m} (i ∷ inverses) inverse le h last zero y is = let less : y < n = h zero y is in omega arith
below_more {n} {m} (i ∷ inverses) inverse le h last (suc x) y is = below_more inverses inverse le (λ z y is. h (suc z) y is) last x y is

with_letter_readable : (P : Presentation) (x : Declared) (inverse : Option ℕ) → IsReadable P → Declares P x None → ((y : ℕ) → inverse ≡ Some y → y < length P.names + 1)
    → IsReadable (with_letter P x inverse)
with_letter_readable P x inverse readable h last =
    let count : length (P.names ++ x.called ∷ []) ≡ length P.names + 1 = length-append P.names (x.called ∷ []) in
    record {
      field = readable.field;
      distinct = distinct_names P x readable.distinct h;
      generators = readable.generators;
      inverses = below_more P.inverses inverse (omega (arith, count)) readable.inverses (λ y is. let less : y < length P.names + 1 = last y is in omega (arith, count));
    }

with_pair_readable : (P : Presentation) (x y : Declared) → IsReadable P → Declares P x None → Declares (with_first P x) y None → IsReadable (with_letter (with_first P x) y (Some (length P.names)))
with_pair_readable P x y readable h k =
    let some : length (P.names ++ x.called ∷ []) ≡ length P.names + 1 = length-append P.names (x.called ∷ []) in
    let count : length ((P.names ++ x.called ∷ []) ++ y.called ∷ []) ≡ length (P.names ++ x.called ∷ []) + 1 = length-append (P.names ++ x.called ∷ []) (y.called ∷ []) in
    record {
      field = readable.field;
      distinct = distinct_names (with_first P x) y (distinct_names P x readable.distinct h) k;
      generators = readable.generators;
      inverses = below_more (P.inverses ++ Some (length P.names + 1) ∷ []) (Some (length P.names)) (le_refl _)
          (below_more P.inverses (Some (length P.names + 1)) (omega (arith, some, count)) readable.inverses (λ z is. let same : length P.names + 1 ≡ z = (cc) in omega (arith, some, count, same)))
          (λ z is. let same : length P.names ≡ z = (cc) in omega (arith, some, count, same));
    }

works_readable : {draft : Draft} {line : Line} {r : Result Draft Cause} → IsReadable draft.presentation → Works draft line r → IfOk r (λ next. IsReadable next.presentation)
works_readable readable (takes_version n) = record { field = readable.field; distinct = readable.distinct; generators = readable.generators; inverses = readable.inverses }
works_readable readable (takes_prime n h) = record { field = h; distinct = readable.distinct; generators = readable.generators; inverses = readable.inverses }
works_readable readable (refuses_prime n h) = tt
works_readable {draft} readable (takes_letter x h) = with_letter_readable draft.presentation x None readable h (λ y is. absurd (cc))
works_readable readable (refuses_letter x cause h) = tt
works_readable {draft} readable (takes_involution x h) =
    with_letter_readable draft.presentation x (Some (length draft.presentation.names)) readable h (λ y is. let same : length draft.presentation.names ≡ y = (cc) in omega (arith, same))
works_readable readable (refuses_involution x cause h) = tt
works_readable {draft} readable (takes_pair x y h k) = with_pair_readable draft.presentation x y readable h k
works_readable readable (refuses_first x y cause h) = tt
works_readable readable (refuses_second x y cause h k) = tt
works_readable readable (takes_generators n h) = record { field = readable.field; distinct = readable.distinct; generators = h; inverses = readable.inverses }
works_readable readable (refuses_generators n h) = tt
works_readable readable takes_balance = record { field = readable.field; distinct = readable.distinct; generators = readable.generators; inverses = readable.inverses }
works_readable readable takes_end = readable
works_readable readable (takes_relation d e v r room h k few) = record { field = readable.field; distinct = readable.distinct; generators = readable.generators; inverses = readable.inverses }
works_readable readable (refuses_count d e none) = tt
works_readable readable (refuses_value d e cause room h) = tt
works_readable readable (refuses_room d e v r room h k many) = tt
works_readable readable (takes_submodule d e q room h few) = record { field = readable.field; distinct = readable.distinct; generators = readable.generators; inverses = readable.inverses }
works_readable readable (refuses_submodule_count d e none) = tt
works_readable readable (refuses_submodule_value d e cause room h) = tt
works_readable readable (refuses_submodule_room d e q room h many) = tt

pub accepts_readable : {draft next : Draft} {line : List ℕ} → IsReadable draft.presentation → Accepts draft line next → IsReadable next.presentation
accepts_readable readable (texts.blank lexes) = readable
accepts_readable readable (texts.taken going lexes fine spelled stands works) = works_readable readable works
