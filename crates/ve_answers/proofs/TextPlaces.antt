-- Texts at their places in a set that keeps their order.
use Rattle.std.proofs.Common.{◌≡◌, ◌↔◌, ℕ, zero, suc, ◌<◌, ◌≤◌, Bool, true, false, not, Bor, inl, inr, get_or, List, [], ◌∷◌, ◌++◌, length, map, Contains, Option, Some, None, slice_get, arith, sym, ap, ◌∙◌}
use Rattle.std.specs.Prelude.{nat_lt, IsTrue, MatchOption}
use Rattle.std.specs.Option.{option_map}
use Rattle.std.specs.List.{list_any, position, position_or_len}
use Rattle.std.specs.Str.{bytes_eq}
use Rattle.std.proofs.lemmas.Bool.{cases_Bool, cond-true, cond-false, both_ways, false_from_ne_true, or_left, or_right, or_cases, ltb-false, not_from_true, not_from_false}
use Rattle.std.proofs.lemmas.List.{get_or-map, length-map, map-append}
use Rattle.std.proofs.lemmas.List.Elements.{Contains-append_right}
use Rattle.std.proofs.lemmas.List.Quantifiers.{position-Some}
use Rattle.std.proofs.lemmas.List.Sums.{fails_before_first}
use Rattle.std.proofs.lemmas.Option.{slice_get-map, slice_get-get_or}
use Rattle.std.proofs.lemmas.Slice.Eq.{bytes_eq-Decides}
use Rattle.indexmap.specs.IndexSet.{insert_key}

abbrev pub texts_in : List (Bor (List ℕ)) → List (List ℕ)
texts_in keys = map (λ text. text.now) keys

nothing : Bor (List ℕ)
nothing = record { ref_ptr = (0, 0); now = [] }

module _ (text : List ℕ) where
  abbrev pub is_text : Bor (List ℕ) → Bool
  is_text key = bytes_eq text key.now

  any_among : (keys : List (Bor (List ℕ))) → list_any is_text keys ≡ true → Contains (texts_in keys) text
  any_among [] h = absurd cc
  any_among (key ∷ keys) h = elim (or_cases (is_text key) (list_any is_text keys) h) [
    | inl here ↦ (0, omega arith, sym ((bytes_eq-Decides text key.now).0 here))
    | inr later ↦ Contains-append_right (key.now ∷ []) (texts_in keys) text (any_among keys later)
  ]

  among_any : (keys : List (Bor (List ℕ))) (n : ℕ) → n < length (texts_in keys) → get_or (texts_in keys) n text ≡ text → list_any is_text keys ≡ true
  among_any [] n less is = absurd (omega (arith, less))
  among_any (key ∷ keys) zero less is = or_left (is_text key) (list_any is_text keys) ((bytes_eq-Decides text key.now).1 (sym is))
  among_any (key ∷ keys) (suc n) less is = or_right (is_text key) (list_any is_text keys) (among_any keys n (omega (arith, less)) is)

  pub new_text : (keys : List (Bor (List ℕ))) (is_new : Bool) → is_new ≡ not (list_any is_text keys) → IsTrue is_new ↔ (¬ Contains (texts_in keys) text)
  new_text keys is_new told = (
    λ new held. both_ways (list_any is_text keys) (absent new) (among_any keys held.0 held.1 held.2),
    λ fresh. told ∙ not_from_false (list_any is_text keys) (false_from_ne_true (list_any is_text keys) (λ h. fresh (any_among keys h))),
  )
    where
      absent : is_new ≡ true → list_any is_text keys ≡ false
      absent new = false_from_ne_true (list_any is_text keys) (λ h. both_ways is_new (told ∙ not_from_true (list_any is_text keys) h) new)

  position_none : (keys : List (Bor (List ℕ))) → position is_text keys ≡ None → ¬ Contains (texts_in keys) text
  position_none keys none held =
      let inside : held.0 < length keys = omega (arith, held.1, length-map keys (λ key. key.now)) in
      let here : text ≡ (get_or keys held.0 nothing).now = sym held.2 ∙ get_or-map (λ key. key.now) keys held.0 nothing text inside in
      let fails : is_text (get_or keys held.0 nothing) ≡ false = fails_before_first is_text keys held.0 nothing (omega (arith, past, inside)) in
      both_ways (is_text (get_or keys held.0 nothing)) fails ((bytes_eq-Decides text (get_or keys held.0 nothing).now).1 here)
    where
      past : length keys ≤ position_or_len is_text keys
      past = elim (cases_Bool (nat_lt (position_or_len is_text keys) (length keys))) [
        | inl less ↦ let some : position is_text keys ≡ Some (position_or_len is_text keys) = cond-true (nat_lt (position_or_len is_text keys) (length keys)) (Some (position_or_len is_text keys)) None less in absurd (cc (some, none))
        | inr more ↦ ltb-false (position_or_len is_text keys) (length keys) more
      ]

  pub found_text : (keys : List (Bor (List ℕ))) (place : Option ℕ) → place ≡ position is_text keys → MatchOption place (¬ Contains (texts_in keys) text) (λ at. slice_get (texts_in keys) at ≡ Some text)
  found_text keys None is = position_none keys (sym is)
  found_text keys (Some at) is =
      let found = position-Some is_text keys at nothing (sym is) in
      let same : text ≡ (get_or keys at nothing).now = (bytes_eq-Decides text (get_or keys at nothing).now).0 found.1 in
      slice_get-map (λ key. key.now) keys at ∙ ap (λ o. option_map (λ key. key.now) o) (slice_get-get_or keys at nothing found.0) ∙ ap Some (sym same)

-- a new text goes last
pub text_added : (keys : List (Bor (List ℕ))) (text : Bor (List ℕ)) → ¬ Contains (texts_in keys) text.now → texts_in (insert_key (λ x y. bytes_eq x.now y.now) keys text) ≡ texts_in keys ++ text.now ∷ []
text_added keys text fresh =
    let absent : list_any (is_text text.now) keys ≡ false = false_from_ne_true (list_any (is_text text.now) keys) (λ h. fresh (any_among text.now keys h)) in
    ap texts_in (cond-false (list_any (is_text text.now) keys) keys (keys ++ text ∷ []) absent) ∙ map-append (λ key. key.now) keys (text ∷ [])
