-- The last star of a text, and what stands around it.
use Rattle.std.proofs.Common.{◌≡◌, ℕ, ◌+◌, ◌-◌, ◌<◌, ◌≤◌, Bool, true, false, inl, inr, get_or, List, [], ◌∷◌, ◌++◌, length, take, drop, reverse, All, arith, sym, ap, subst, ◌∙◌, append_assoc}
use Rattle.std.specs.Prelude.{nat_eq, not}
use Rattle.std.specs.List.{suffix_len}
use Rattle.std.proofs.lemmas.Bool.{cases_lt, eqb-true, not-false}
use Rattle.std.proofs.lemmas.List.{get_or-drop, get_or-reverse, length-drop, length-reverse, take-append-drop, take_more}
use Rattle.std.proofs.lemmas.List.Sums.{prefix_len_passes, prefix_len_stops, suffix_len-le-length, list_all-from_AllPass}
use Rattle.ve_formats.specs.Pieces.{Lacks}

abbrev pub is_no_star : ℕ → Bool
is_no_star b = not (nat_eq b 42)

module _ (text : List ℕ) (n : ℕ) (counted : n ≡ suffix_len is_no_star text) where
  within : n ≤ length text
  within = omega (arith, counted, suffix_len-le-length is_no_star text)

  behind_lacks : Lacks 42 (drop (length text - n) text)
  behind_lacks = list_all-from_AllPass is_no_star (drop (length text - n) text) passes
    where
      passes : All (λ b. is_no_star b ≡ true) (drop (length text - n) text)
      passes k d inside =
          let less : k < n = omega (arith, inside, length-drop (length text - n) text, within) in
          let place : length text - n + k ≡ length text - 1 - (n - 1 - k) = omega (arith, less, within) in
          let here : get_or (drop (length text - n) text) k d ≡ get_or (reverse text) (n - 1 - k) d =
          get_or-drop (length text - n) text k d ∙ ap (λ i. get_or text i d) place ∙ sym (get_or-reverse text (n - 1 - k) d (omega (arith, less, within))) in
          ap is_no_star here ∙ prefix_len_passes is_no_star (reverse text) (n - 1 - k) d (omega (arith, less, counted))

  front_ends : n < length text → take (length text - n) text ≡ take (length text - n - 1) text ++ 42 ∷ []
  front_ends less =
      let more : length text - n ≡ length text - n - 1 + 1 = omega (arith, less) in
      let stops : is_no_star (get_or (reverse text) n 0) ≡ false = ap (λ m. is_no_star (get_or (reverse text) m 0)) counted ∙ prefix_len_stops is_no_star (reverse text) 0 (omega (arith, length-reverse text, counted, less)) in
      let place : length text - 1 - n ≡ length text - n - 1 = omega arith in
      let star : get_or text (length text - n - 1) 0 ≡ 42 =
      ap (λ i. get_or text i 0) (sym place) ∙ sym (get_or-reverse text n 0 less) ∙ eqb-true (get_or (reverse text) n 0) 42 (not-false (nat_eq (get_or (reverse text) n 0) 42) stops) in
      ap (λ m. take m text) more ∙ take_more text (length text - n - 1) 0 (omega (arith, less)) ∙ ap (λ b. take (length text - n - 1) text ++ b ∷ []) star

  module _ (front behind : List ℕ) (front_is : front ≡ take (length text - n) text) (behind_is : behind ≡ drop (length text - n) text) where
    pub split_at_star : (inner : List ℕ) → front ≡ inner ++ 42 ∷ [] → (text ≡ inner ++ 42 ∷ behind) × Lacks 42 behind
    split_at_star inner is = (
      sym (take-append-drop (length text - n) text) ∙ (λ i. sym front_is i ++ sym behind_is i) ∙ ap (λ f. f ++ behind) is ∙ append_assoc inner (42 ∷ []) behind,
      subst (Lacks 42) (sym behind_is) behind_lacks,
    )

    pub no_star : ((inner : List ℕ) → front ≡ inner ++ 42 ∷ [] → ⊥) → Lacks 42 text
    no_star unfit = elim (cases_lt n (length text)) [
      | inl less ↦ absurd (unfit (take (length text - n - 1) text) (front_is ∙ front_ends less))
      | inr above ↦ let all : length text - n ≡ 0 = omega (arith, above) in subst (Lacks 42) (ap (λ m. drop m text) all) behind_lacks
    ]
