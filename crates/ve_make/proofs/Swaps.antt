-- The swaps: their names, and what the presentation is with them.
use Rattle.std.specs.Prelude.{◌≡◌, ◌≢◌, ℕ, ◌+◌, ◌^◌, ◌<◌, true, false, ◌&&◌, ◌||◌, List, [], ◌∷◌, ◌++◌, length, map, Option, Some, IsTrue, decimal}
use Rattle.std.specs.List.{list_all}
use Rattle.std.proofs.Common.{refl, ap, sym, ◌∙◌, arith, get_or}
use Rattle.std.proofs.Math.Bool.{or-true}
use Rattle.std.proofs.lemmas.Bool.{and_parts}
use Rattle.std.proofs.lemmas.Fmt.{decimal_injective}
use Rattle.std.proofs.lemmas.List.{length-map, map-append, get_or-map}
use Rattle.std.proofs.lemmas.Option.{slice_get_within, get_or_from_slice_get}
use Rattle.ve_theory.specs.Validity.{is_name, is_name_letter, is_digit, is_rooted}
use Rattle.ve_formats.specs.Tokens.{is_number}
use Rattle.ve_formats.specs.Lines.{numbers_below, numbers_below-next}
use Rattle.ve_formats.proofs.Decimals.{number_digits}
use Rattle.ve_formats.proofs.NumbersBelow.{length-numbers_below, number_at}
use Rattle.ve_pres.specs.Drafts.{Draft, IsNameFault, with_letters}
use Rattle.ve_word.specs.declared.names.NameFault.{NameFault}
use Rattle.ve_word.specs.declared.names.NameFault.TheVariants.{Rooted, Taken, Full, Memory}
use Rattle.ve_make.specs.Symmetric.{swap_name}
use Rattle.ve_make.specs.Parts.{swaps_draft}

-- ---- lists over the numbers below n

length-listed : {X : Type 0} (f : ℕ → X) (n : ℕ) → length (map f (numbers_below n)) ≡ n
length-listed f n = length-map (numbers_below n) f ∙ length-numbers_below n

get_or-listed : {X : Type 0} (f : ℕ → X) (n j : ℕ) (d : X) → j < n → get_or (map f (numbers_below n)) j d ≡ f j
get_or-listed f n j d l = get_or-map f (numbers_below n) j 0 d (omega (arith, length-numbers_below n)) ∙ ap f (number_at n j l)

pub listed-next : {X : Type 0} (f : ℕ → X) (n : ℕ) → map f (numbers_below n) ++ f n ∷ [] ≡ map f (numbers_below (n + 1))
listed-next f n = sym (ap (map f) (numbers_below-next n) ∙ map-append f (numbers_below n) (n ∷ []))

-- ---- names

name_parts : (ds : List ℕ) → IsTrue (list_all is_digit ds) → IsTrue (list_all (λ c. is_name_letter c || is_digit c) ds)
name_parts [] h = refl
name_parts (d ∷ ds) h =
    let parts = and_parts (is_digit d) (list_all is_digit ds) h in
    let first : (is_name_letter d || is_digit d) ≡ true = ap (λ b. is_name_letter d || b) parts.0 ∙ or-true (is_name_letter d) in
    ap (λ b. b && list_all (λ c. is_name_letter c || is_digit c) ds) first ∙ name_parts ds parts.1

s_name : (ds : List ℕ) → IsTrue (list_all is_digit ds) → IsTrue (is_name (115 ∷ ds))
unfolding is_name
s_name ds h = name_parts ds h

pub swap_is_name : ((n : ℕ) → n < 2 ^ 64 → IsTrue (is_number (decimal n))) → (x : ℕ) → x < 24 → IsTrue (is_name (swap_name x))
swap_is_name digits x small = s_name (decimal (x + 1)) (number_digits (decimal (x + 1)) (digits (x + 1) (omega arith)))

s_not_rooted : (ds : List ℕ) → is_rooted (115 ∷ ds) ≡ false
unfolding is_rooted
s_not_rooted [] = refl
s_not_rooted (d ∷ ds) = refl

same_name : (x y : ℕ) → x < 24 → y < 24 → swap_name x ≡ swap_name y → x ≡ y
same_name x y hx hy e =
    let same : decimal (x + 1) ≡ decimal (y + 1) = cc in
    let next = decimal_injective (x + 1) (y + 1) (omega arith) (omega arith) same in
    omega arith

-- a further swap has a new name
pub no_name_fault : (n : ℕ) (fault : NameFault) → n < 24 → fault ≢ Memory → IsNameFault (map swap_name (numbers_below n)) (swap_name n) fault → ⊥
no_name_fault n Rooted small other h = let plain : is_rooted (swap_name n) ≡ false = s_not_rooted (decimal (n + 1)) in let bad : true ≡ false = sym h ∙ plain in cc
no_name_fault n (Taken letter) small other h =
    let within = slice_get_within (map swap_name (numbers_below n)) letter (swap_name n) h in
    let count = length-listed swap_name n in
    let below : letter < n = omega arith in
    let is = get_or_from_slice_get (map swap_name (numbers_below n)) letter (swap_name n) [] h in
    let same = same_name letter n (omega arith) small (sym (get_or-listed swap_name n letter [] below) ∙ is) in
    omega arith
no_name_fault n Full small other h = let count = length-listed swap_name n in let full = h.2 in omega arith
no_name_fault n Memory small other h = other refl

-- ---- the presentation

pub next_swap : (p n : ℕ) (draft : Draft) → draft ≡ swaps_draft p n [] []
    → with_letters draft (swap_name n ∷ []) (Some (length draft.presentation.names) ∷ []) ≡ swaps_draft p (n + 1) [] []
next_swap p n draft is =
    let at_swaps : with_letters draft (swap_name n ∷ []) (Some (length draft.presentation.names) ∷ []) ≡ with_letters (swaps_draft p n [] []) (swap_name n ∷ []) (Some n ∷ []) =
    ap (λ d. with_letters d (swap_name n ∷ []) (Some (length d.presentation.names) ∷ [])) is
    ∙ ap (λ k. with_letters (swaps_draft p n [] []) (swap_name n ∷ []) (Some k ∷ [])) (length-listed swap_name n) in
    at_swaps ∙ whole (listed-next swap_name n) (listed-next Some n) (listed-next (λ _. 1) n)
  where
    made : List (List ℕ) → List (Option ℕ) → List ℕ → Draft
    made names inverses weights = record {
      presentation = record {
        version = 1;
        is_balanced = false;
        prime = p;
        names = names;
        inverses = inverses;
        weights = weights;
        generators = 1;
        relations = [];
        submodule = [];
      };
      counted = 0;
    }

    whole : {names names' : List (List ℕ)} {inverses inverses' : List (Option ℕ)} {weights weights' : List ℕ} → names ≡ names' → inverses ≡ inverses' → weights ≡ weights'
        → made names inverses weights ≡ made names' inverses' weights'
    whole a b c = cc
