-- Prefixes of normal words are normal, so that a level with few words doesn't reach far.
use Rattle.std.proofs.Common.{◌≡◌, ℕ, zero, suc, ◌+◌, ◌*◌, ◌-◌, ◌<◌, ◌≤◌, ◌⊎◌, inl, inr, List, [], ◌∷◌, ◌++◌, length, get_or, All, Contains, sym, ap, ◌∙◌, subst, arith, length-append, mul-le-mul_left, mul-suc}
use Rattle.std.proofs.lemmas.Bool.{cases_lt}
use Rattle.std.proofs.lemmas.List.{get_or_default}
use Rattle.std.proofs.lemmas.List.Elements.{All-cons, All-nil, All-weaker}
use Rattle.ve_theory.specs.Combinations.{unit, scaled, difference}
use Rattle.ve_theory.specs.Words.{Word, generator, times, letters, word_length}
use Rattle.ve_theory.specs.Elements.{Element, times_letter}
use Rattle.ve_theory.specs.Presentations.{Presentation, IsPresentation, IsWord, reach, before, letter_count, greatest_step, relator_bound, submodule_bound}
use Rattle.ve_theory.specs.Derivations.{Within, DerivedWithin}
use Rattle.ve_theory.specs.Levels.{IsEarlier, IsNormal, Lists, HasSize, Closes}
use Rattle.ve_theory.proofs.Orders.{reach-generator, reach-times, step_positive, step_bounded, before_reach, before_times}
use Rattle.ve_theory.proofs.Members.{All-times_letter, IsWord-prefix, IsWord-last, IsWord-times}
use Rattle.ve_theory.proofs.DerivationTrees.{Within-words, DerivedWithin-higher}
use Rattle.ve_theory.proofs.DerivedElements.{times_letter-append, times_letter-scaled, Within-append, Within-scaled, DerivedWithin-times}

pub times_letter-difference : (p : ℕ) (u v : Element) (x : ℕ) → times_letter (difference p u v) x ≡ difference p (times_letter u x) (times_letter v x)
times_letter-difference p u v x = times_letter-append u (scaled (p - 1) v) x ∙ ap (λ r. times_letter u x ++ r) (times_letter-scaled (p - 1) v x)

pub IsEarlier-times : (P : Presentation) (w : Word) (v : Element) (x : ℕ) → x < letter_count P → IsEarlier P w v → IsEarlier P (times w x) (times_letter v x)
IsEarlier-times P w v x l h =
    All-times_letter (λ u. IsWord P u × before P u (times w x)) v x
    (All-weaker (λ (t : Word × ℕ). IsWord P t.0 × before P t.0 w) (λ (t : Word × ℕ). IsWord P (times t.0 x) × before P (times t.0 x) (times w x))
    (λ t e. (IsWord-times P t.0 x e.0 l, before_times P t.0 w x e.1)) v h)

pub IsEarlier-reach : (P : Presentation) (w : Word) (v : Element) (k : ℕ) → reach P w ≤ k → IsEarlier P w v → All (λ t. reach P t.0 ≤ k) v
IsEarlier-reach P w v k l h =
    All-weaker (λ (t : Word × ℕ). IsWord P t.0 × before P t.0 w) (λ (t : Word × ℕ). reach P t.0 ≤ k) (λ t e. omega (arith, before_reach P t.0 w e.1)) v h

pub IsNormal-prefix : (P : Presentation) (k : ℕ) (w : Word) (x : ℕ) → IsNormal P k (times w x) → IsNormal P k w
unfolding times_letter
IsNormal-prefix P k w x N = record {
  word = IsWord-prefix P w x N.word;
  within = omega (arith, reach-times P w x, N.within);
  irreducible = λ v e d.
      let l : x < letter_count P = IsWord-last P w x N.word in
      let e' : IsEarlier P (times w x) (times_letter v x) = IsEarlier-times P w v x l e in
      let here : Within P k (unit (times w x)) = Within-words P k (unit (times w x)) (All-cons (λ (t : Word × ℕ). reach P t.0 ≤ k) (times w x, 1) [] N.within (All-nil (λ (t : Word × ℕ). reach P t.0 ≤ k))) in
      let there : Within P k (times_letter v x) = Within-words P k (times_letter v x) (IsEarlier-reach P (times w x) (times_letter v x) k N.within e') in
      let both : Within P k (difference P.prime (unit (times w x)) (times_letter v x)) =
      Within-append P k (unit (times w x)) (scaled (P.prime - 1) (times_letter v x)) here (Within-scaled P k (P.prime - 1) (times_letter v x) there) in
      let same : times_letter (difference P.prime (unit w) v) x ≡ difference P.prime (unit (times w x)) (times_letter v x) = times_letter-difference P.prime (unit w) v x in
      N.irreducible (times_letter v x) e' (subst (DerivedWithin P k) same (DerivedWithin-times P k x l (subst (Within P k) (sym same) both) d));
}

pub IsNormal-lower : (P : Presentation) (j k : ℕ) (w : Word) → j ≤ k → reach P w ≤ j → IsNormal P k w → IsNormal P j w
IsNormal-lower P j k w l m N = record {
  word = N.word;
  within = m;
  irreducible = λ v e d. N.irreducible v e (DerivedWithin-higher P j k (difference P.prime (unit w) v) l d);
}

-- a normal word stands in the list after all its prefixes
pub place_of_normal : (P : Presentation) → IsPresentation P → (k : ℕ) (ws : List Word) → Lists P (IsNormal P k) ws → (w : Word) → IsNormal P k w → (h : Contains ws w) → word_length w ≤ h.0
unfolding letters
place_of_normal P V k ws L (generator i) N h = omega arith
place_of_normal P V k ws L (times w x) N h =
    let n : IsNormal P k w = IsNormal-prefix P k w x N in
    let there : Contains ws w = L.every w n in
    let earlier : length (letters w) ≤ there.0 = place_of_normal P V k ws L w n there in
    let less : there.0 < h.0 = apart there (cases_lt there.0 h.0) in
    omega (arith, length-append (letters w) (x ∷ []))
  where
    apart : (there : Contains ws w) → (there.0 < h.0) ⊎ (h.0 ≤ there.0) → there.0 < h.0
    apart there (inl l) = l
    apart there (inr l) = absurd (cases (cases_lt h.0 there.0))
      where
        a : get_or ws h.0 w ≡ times w x
        a = get_or_default ws h.0 w (times w x) h.1 ∙ h.2

        further : reach P w < reach P (times w x)
        further = omega (arith, reach-times P w x, step_positive P V x)

        cases : (h.0 < there.0) ⊎ (there.0 ≤ h.0) → ⊥
        cases (inl m) =
            let b : before P (get_or ws h.0 w) (get_or ws there.0 w) = L.rising h.0 there.0 w m there.1 in
            let c : reach P (get_or ws h.0 w) ≤ reach P (get_or ws there.0 w) = before_reach P (get_or ws h.0 w) (get_or ws there.0 w) b in
            omega (arith, ap (reach P) a, ap (reach P) there.2, further)
        cases (inr m) =
            let same : there.0 ≡ h.0 = omega arith in
            omega (arith, ap (reach P) a, ap (reach P) there.2, ap (λ i. reach P (get_or ws i w)) same, further)

-- a word reaches at most as far as the greatest step, for each letter
pub reach_of_length : (P : Presentation) (w : Word) → reach P w ≤ greatest_step P * word_length w
unfolding letters
reach_of_length P (generator i) = omega (arith, reach-generator P i)
reach_of_length P (times w x) =
    let e : length (letters w ++ x ∷ []) ≡ suc (length (letters w)) = omega (arith, length-append (letters w) (x ∷ [])) in
    omega (arith, reach-times P w x, reach_of_length P w, step_bounded P x, ap (λ n. greatest_step P * n) e, mul-suc (greatest_step P) (length (letters w)))

-- a level after one with few words: all its normal words are short
short_normal : (P : Presentation) → IsPresentation P → (k limit : ℕ) (ws : List Word) → Lists P (IsNormal P k) ws → length ws ≤ limit → (w : Word) → IsNormal P (suc k) w
    → reach P w ≤ greatest_step P * limit
unfolding letters
short_normal P V k limit ws L l (generator i) N = omega (arith, reach-generator P i)
short_normal P V k limit ws L l (times w x) N =
    let longer : IsNormal P (suc k) w = IsNormal-prefix P (suc k) w x N in
    let n : IsNormal P k w = IsNormal-lower P k (suc k) w (omega arith) (omega (arith, reach-times P w x, step_positive P V x, N.within)) longer in
    let there : Contains ws w = L.every w n in
    let place : word_length w ≤ there.0 = place_of_normal P V k ws L w n there in
    let count : word_length (times w x) ≤ limit = omega (arith, length-append (letters w) (x ∷ []), there.1) in
    omega (arith, reach_of_length P (times w x), mul-le-mul_left (greatest_step P) count)

pub open_levels_are_bounded : (P : Presentation) (k n limit : ℕ) → IsPresentation P → HasSize P k n → n ≤ limit → (Closes P k → ⊥)
    → (k < submodule_bound P) ⊎ (k < greatest_step P * limit + relator_bound P)
unfolding HasSize
open_levels_are_bounded P zero n limit V H l open' = inr (omega arith)
open_levels_are_bounded P (suc k) n limit V H l open' = cases (cases_lt (suc k) (submodule_bound P)) (cases_lt (suc k) (greatest_step P * limit + relator_bound P))
  where
    cases : (suc k < submodule_bound P) ⊎ (submodule_bound P ≤ suc k) → (suc k < greatest_step P * limit + relator_bound P) ⊎ (greatest_step P * limit + relator_bound P ≤ suc k)
        → (suc k < submodule_bound P) ⊎ (suc k < greatest_step P * limit + relator_bound P)
    cases (inl a) _ = inl a
    cases (inr a) (inl b) = inr b
    cases (inr a) (inr b) = absurd (open' (record {
      submodule = a;
      relators = λ w N. omega (arith, b, short_normal P V k limit H.0 H.1 (omega (arith, H.2)) w N);
    }))
