-- Letters that are declared.
use Rattle.std.proofs.Common.{◌≡◌, ℕ, ◌+◌, ◌<◌, ◌≤◌, ◌⊎◌, inl, inr, List, [], ◌∷◌, ◌++◌, length, set, Option, Some, None, Result, Ok, Err, refl, sym, ap, ◌∙◌, arith, append_assoc, length-append, subst}
use Rattle.std.specs.Prelude.{Contains, IsTrue, IsFalse, IsErrOf, slice_get, ◌↔◌, unwrap_or}
use Rattle.std.proofs.lemmas.Bool.{cases_Bool, cases_lt}
use Rattle.std.proofs.lemmas.List.{set-get_or}
use Rattle.std.proofs.lemmas.Option.{get_or_from_slice_get, slice_get-get_or}
use Rattle.ve_theory.specs.Presentations.{Presentation, most_weight}
use Rattle.ve_theory.specs.Validity.{is_rooted, most_letters}
use Rattle.ve_lemmas.proofs.Lists.{Contains-slice_get}
use Rattle.ve_formats.specs.Causes.{Cause, bad_weight}
use Rattle.ve_formats.specs.PresentationLines as lines
use Rattle.ve_formats.specs.PresentationLines.{Declares, free, rooted, taken, full, misweighed, with_letter, with_first, weight_of}
use Rattle.ve_pres.specs.Drafts.{Draft, IsNameFault, IsNewName, IsPairFault, with_letters, with_weight}
use Rattle.ve_word.specs.declared.names.NameFault.{NameFault}
use Rattle.ve_word.specs.declared.names.NameFault.TheVariants.{Rooted, Taken, Full, Memory}
use Rattle.ve_read.specs.declared.why.Why.{Why}
use Rattle.ve_read.specs.Refusals.{Tells, of_name_fault}
use Rattle.ve_read.specs.Drafts.{WeighsAs, Judges}

-- names

pub name_fault : (P : Presentation) (x : lines.Declared) (fault : NameFault) → IsNameFault P.names x.called fault → Tells (λ cause. Declares P x (Some cause)) (of_name_fault fault)
name_fault P x Rooted h = rooted h
name_fault P x (Taken letter) h = taken (Contains-slice_get P.names x.called letter h)
name_fault P x Full h = full h.1 h.0 (let e = h.2 in omega arith)
name_fault P x Memory h = refl

pub weight_fault : (P : Presentation) (x : lines.Declared) → IsNewName P.names x.called → (weight_of x ≡ 0) ⊎ (most_weight < weight_of x) → Declares P x (Some bad_weight)
weight_fault P x new wrong = misweighed new.absent new.plain new.room wrong

pub declares : (P : Presentation) (x : lines.Declared) → IsNewName P.names x.called → 0 < weight_of x → weight_of x ≤ most_weight → Declares P x None
declares P x new positive small = free new.absent new.plain new.room positive small

pub record IsFree (P : Presentation) (x : lines.Declared) : Type 0 where
  pub new : IsNewName P.names x.called
  pub positive : 0 < weight_of x
  pub small : weight_of x ≤ most_weight

-- what a letter that may be declared is
free_facts : (P : Presentation) (x : lines.Declared) (o : Option Cause) → Declares P x o → o ≡ None → IsFree P x
free_facts P x _ (free absent plain room positive small) is = record { new = record { plain = plain; absent = absent; room = room }; positive = positive; small = small }
free_facts P x _ (rooted h) is = absurd (cc)
free_facts P x _ (taken h) is = absurd (cc)
free_facts P x _ (full absent plain room) is = absurd (cc)
free_facts P x _ (misweighed absent plain room weight) is = absurd (cc)

pub free_letter : (P : Presentation) (x : lines.Declared) → Declares P x None → IsFree P x
free_letter P x h = free_facts P x None h refl

-- a name that is new has no fault
no_name_fault : (P : Presentation) (x : lines.Declared) (Q : Cause → Type 0) (fault : NameFault) → IsNewName P.names x.called → IsNameFault P.names x.called fault → Tells Q (of_name_fault fault)
no_name_fault P x Q Rooted new h = absurd (let plain = new.plain in cc)
no_name_fault P x Q (Taken letter) new h = absurd (new.absent (Contains-slice_get P.names x.called letter h))
no_name_fault P x Q Full new h = absurd (let e = h.2 in let room = new.room in omega arith)
no_name_fault P x Q Memory new h = refl

-- the second name of a pair, where the first is new
pub pair_fault : (P : Presentation) (x y : lines.Declared) (fault : NameFault) → IsNewName P.names x.called → IsPairFault P.names x.called y.called fault
    → Tells (λ cause. Declares (with_first P x) y (Some cause)) (of_name_fault fault)
pair_fault P x y fault new (inl h) = no_name_fault P x _ fault new h
pair_fault P x y fault new (inr h) = name_fault (with_first P x) y fault h.1

-- what a list of names says when a name was added, or not

module _ {X : Type 0} (names : List (List ℕ)) (name : List ℕ) (result : Result X NameFault)
    (is_rooted_exactly : IsErrOf result Rooted ↔ IsTrue (is_rooted name))
    (is_taken : (letter : ℕ) → IsErrOf result (Taken letter) ↔ (slice_get names letter ≡ Some name))
    (is_full : IsErrOf result Full ↔ (IsFalse (is_rooted name) × (¬ Contains names name) × (length names ≡ most_letters))) where
  pub fault_of_add : (fault : NameFault) → result ≡ Err fault → IsNameFault names name fault
  fault_of_add Rooted is = is_rooted_exactly.0 is
  fault_of_add (Taken letter) is = (is_taken letter).0 is
  fault_of_add Full is = is_full.0 is
  fault_of_add Memory is = tt

  pub new_by_add : (x : X) → result ≡ Ok x → length names ≤ most_letters → IsNewName names name
  new_by_add x is few = record { plain = plain; absent = absent; room = room }
    where
      absent : Contains names name → ⊥
      absent (letter, within, at) =
          let there : slice_get names letter ≡ Some name = slice_get-get_or names letter name within ∙ ap Some at in
          let failed = (is_taken letter).1 there in cc

      plain : IsFalse (is_rooted name)
      plain = elim (cases_Bool (is_rooted name)) [
        | inl is_so ↦ absurd (let failed = is_rooted_exactly.1 is_so in cc)
        | inr other ↦ other
      ]

      room : length names < most_letters
      room = elim (cases_lt (length names) most_letters) [
        | inl less ↦ less
        | inr many ↦ absurd (let all : length names ≡ most_letters = omega arith in let failed = is_full.1 (plain, absent, all) in cc)
      ]

-- weights other than 1 are those of version 2
pub version_or_one : (draft : lines.Draft) (x : lines.Declared) (weight : ℕ) → lines.MayWeigh draft x → weight ≡ weight_of x → (draft.presentation.version ≡ 2) ⊎ (weight ≡ 1)
version_or_one draft x weight (inl two) is = inl two
version_or_one draft x weight (inr none) is = inr (is ∙ ap (λ w. unwrap_or w 1) none)

-- a letter of a new name is judged by its weight
pub judged_by_weight : (P : Presentation) (x : lines.Declared) (result : Result ℕ Why) → IsNewName P.names x.called → WeighsAs x result → Judges P x result
judged_by_weight P x (Ok weight) new h =
    let positive : 0 < weight_of x = let e = h.0 in let p = h.1 in omega arith in
    let small : weight_of x ≤ most_weight = let e = h.0 in let p = h.2 in omega arith in
    (h.0, declares P x new positive small)
judged_by_weight P x (Err why) new h = subst (Tells (λ cause. Declares P x (Some cause))) (sym h.0) (weight_fault P x new h.1)

-- lists that grow

set_behind : (ws more : List ℕ) (a w : ℕ) → set (ws ++ a ∷ more) (length ws) w ≡ ws ++ w ∷ more
set_behind [] more a w = refl
set_behind (v ∷ ws) more a w = ap (λ l. v ∷ l) (set_behind ws more a w)

slice_get_behind : (ws more : List ℕ) (a : ℕ) → slice_get (ws ++ a ∷ more) (length ws) ≡ Some a
slice_get_behind [] more a = refl
slice_get_behind (v ∷ ws) more a = slice_get_behind ws more a

-- a letter more, with its weight
module _ (d : Draft) (each : length d.presentation.weights ≡ length d.presentation.names) where
  pub weight_at : (more : List ℕ) → slice_get (d.presentation.weights ++ 1 ∷ more) (length d.presentation.names) ≡ Some 1
  weight_at more = ap (slice_get (d.presentation.weights ++ 1 ∷ more)) (sym each) ∙ slice_get_behind d.presentation.weights more 1

  pub with_letter_is : (x : lines.Declared) (inverse : Option ℕ)
      → (with_weight (with_letters d (x.called ∷ []) (inverse ∷ [])) (length d.presentation.names) (weight_of x)).presentation ≡ with_letter d.presentation x inverse
  with_letter_is x inverse =
      let weighed : set (d.presentation.weights ++ 1 ∷ []) (length d.presentation.names) (weight_of x) ≡ d.presentation.weights ++ weight_of x ∷ [] =
      ap (λ n. set (d.presentation.weights ++ 1 ∷ []) n (weight_of x)) (sym each) ∙ set_behind d.presentation.weights [] 1 (weight_of x) in
      λ i. record d.presentation { names = d.presentation.names ++ x.called ∷ []; inverses = d.presentation.inverses ++ inverse ∷ []; weights = weighed i }

-- a weight of 1 is that which the letter has
pub weight_is_one : (d : Draft) (letter weight : ℕ) → slice_get d.presentation.weights letter ≡ Some 1 → weight ≡ 1 → d ≡ with_weight d letter weight
weight_is_one d letter weight at one =
    let same : set d.presentation.weights letter weight ≡ d.presentation.weights =
    ap (set d.presentation.weights letter) (one ∙ sym (get_or_from_slice_get d.presentation.weights letter 1 1 at)) ∙ set-get_or d.presentation.weights letter 1 in
    λ i. record d { presentation = record d.presentation { weights = sym same i } }

-- a letter and its inverse
module _ (d : Draft) (each : length d.presentation.weights ≡ length d.presentation.names) where
  pub first_weighed : (w : ℕ) → set (d.presentation.weights ++ 1 ∷ 1 ∷ []) (length d.presentation.names) w ≡ d.presentation.weights ++ w ∷ 1 ∷ []
  first_weighed w =
      ap (λ n. set (d.presentation.weights ++ 1 ∷ 1 ∷ []) n w) (sym each) ∙ set_behind d.presentation.weights (1 ∷ []) 1 w

  longer : (w : ℕ) → length d.presentation.names + 1 ≡ length (d.presentation.weights ++ w ∷ [])
  longer w = omega (arith, length-append d.presentation.weights (w ∷ []), each)

  pub second_at : (w : ℕ) → slice_get (d.presentation.weights ++ w ∷ 1 ∷ []) (length d.presentation.names + 1) ≡ Some 1
  second_at w =
      (λ i. slice_get (sym (append_assoc d.presentation.weights (w ∷ []) (1 ∷ [])) i) (longer w i)) ∙ slice_get_behind (d.presentation.weights ++ w ∷ []) [] 1

  both_weighed : (v w : ℕ) → set (set (d.presentation.weights ++ 1 ∷ 1 ∷ []) (length d.presentation.names) v) (length d.presentation.names + 1) w ≡ (d.presentation.weights ++ v ∷ []) ++ w ∷ []
  both_weighed v w =
      (λ i. set ((first_weighed v ∙ sym (append_assoc d.presentation.weights (v ∷ []) (1 ∷ []))) i) (longer v i) w)
      ∙ set_behind (d.presentation.weights ++ v ∷ []) [] 1 w

  pub with_pair_is : (x y : lines.Declared) → let n = length d.presentation.names in
      (with_weight (with_weight (with_letters d (x.called ∷ y.called ∷ []) (Some (n + 1) ∷ Some n ∷ [])) n (weight_of x)) (n + 1) (weight_of y)).presentation
      ≡ with_letter (with_first d.presentation x) y (Some n)
  with_pair_is x y =
      let n = length d.presentation.names in
      λ i. record d.presentation {
        names = sym (append_assoc d.presentation.names (x.called ∷ []) (y.called ∷ [])) i;
        inverses = sym (append_assoc d.presentation.inverses (Some (n + 1) ∷ []) (Some n ∷ [])) i;
        weights = both_weighed (weight_of x) (weight_of y) i;
      }
