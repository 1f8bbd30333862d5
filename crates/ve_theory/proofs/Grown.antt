-- Lists of normal words and of least words are grown: each word is a generator, or an earlier word of the list times a letter.
use Rattle.std.proofs.Common.{◌≡◌, ℕ, zero, suc, ◌<◌, ◌≤◌, ◌⊎◌, inl, inr, List, [], ◌∷◌, ◌++◌, length, get_or, take, AllPairs, Contains, refl, sym, ap, ◌∙◌, subst, arith, subst₂, add-one, get_or-take, take_all}
use Rattle.std.proofs.lemmas.Bool.{cases_order}
use Rattle.std.proofs.lemmas.List.{take_more, get_or_default, length-take-le}
use Rattle.std.proofs.lemmas.List.Elements.{All-contains, Contains-get_or}
use Rattle.ve_theory.specs.Combinations.{unit}
use Rattle.ve_theory.specs.Words.{Word, generator, times}
use Rattle.ve_theory.specs.Elements.{times_letter}
use Rattle.ve_theory.specs.Presentations.{Presentation, IsPresentation, letter_count, before}
use Rattle.ve_theory.specs.Derivations.{Derived}
use Rattle.ve_theory.specs.Levels.{IsNormal, IsLeast, Lists}
use Rattle.ve_theory.specs.Answers.{IsGrown, none, with_generator, with_child}
use Rattle.ve_theory.proofs.Orders.{reach-times, step_positive, before_irreflexive, before_transitive, before_by_reach}
use Rattle.ve_theory.proofs.Members.{IsWord-prefix, IsWord-last}
use Rattle.ve_theory.proofs.DerivedElements.{Derived-times}
use Rattle.ve_theory.proofs.LevelBounds.{times_letter-difference, IsEarlier-times, IsNormal-prefix}

pub IsLeast-prefix : (P : Presentation) (w : Word) (x : ℕ) → IsLeast P (times w x) → IsLeast P w
unfolding times_letter
IsLeast-prefix P w x L = record {
  word = IsWord-prefix P w x L.word;
  irreducible = λ v earlier h.
      let l : x < letter_count P = IsWord-last P w x L.word in
      L.irreducible (times_letter v x) (IsEarlier-times P w v x l earlier) (subst (Derived P) (times_letter-difference P.prime (unit w) v x) (Derived-times P x l h));
}

-- a rising list with the prefixes of its words
module _ (P : Presentation) (V : IsPresentation P) (ws : List Word) (rising : AllPairs (before P) ws) (prefixes : (w : Word) (x : ℕ) → Contains ws (times w x) → Contains ws w) where
  -- a prefix stands before the word
  prefix_earlier : (n : ℕ) (w : Word) (x : ℕ) → n < length ws → get_or ws n (generator 0) ≡ times w x → (j : ℕ) × (j < n) × (get_or ws j (generator 0) ≡ w)
  prefix_earlier n w x l e =
      let (j, m, f) = prefixes w x (subst (Contains ws) e (Contains-get_or ws n (generator 0) l)) in
      let here : get_or ws j (generator 0) ≡ w = get_or_default ws j (generator 0) w m ∙ f in
      (j, cases j here m (cases_order j n), here)
    where
      letter_later : before P w (times w x)
      letter_later = before_by_reach P w (times w x) (omega (arith, reach-times P w x, step_positive P V x))

      cases : (j : ℕ) → get_or ws j (generator 0) ≡ w → j < length ws → (j ≡ n) ⊎ ((j < n) ⊎ (n < j)) → j < n
      cases j here m (inl i) =
          absurd (before_irreflexive P w (subst (before P w) (sym (sym here ∙ (ap (λ k. get_or ws k (generator 0)) i ∙ e))) letter_later))
      cases j here m (inr (inl h)) = h
      cases j here m (inr (inr h)) =
          absurd (before_irreflexive P w (before_transitive P w (times w x) w letter_later (subst₂ (before P) e here (rising n j (generator 0) h m))))

  grown_so_far : (n : ℕ) → n ≤ length ws → IsGrown (take n ws)
  grown_so_far zero l = none
  grown_so_far (suc n) l =
      subst IsGrown (sym (ap (λ k. take k ws) (sym (add-one n)) ∙ take_more ws n (generator 0) l)) (by_word (get_or ws n (generator 0)) refl (grown_so_far n (omega arith)))
    where
      by_word : (w : Word) → get_or ws n (generator 0) ≡ w → IsGrown (take n ws) → IsGrown (take n ws ++ w ∷ [])
      by_word (generator i) e grown = with_generator (take n ws) i grown
      by_word (times w x) e grown =
          let (j, h, f) = prefix_earlier n w x l e in
          subst (λ v. IsGrown (take n ws ++ times v x ∷ [])) (get_or-take n ws j (generator 0) h ∙ f)
          (with_child (take n ws) j x grown (omega (arith, length-take-le n ws (omega arith))))

  grown_from_prefixes : IsGrown ws
  grown_from_prefixes = subst IsGrown (take_all (length ws) ws (omega arith)) (grown_so_far (length ws) (omega arith))

pub grown_from_least : (P : Presentation) → IsPresentation P → (ws : List Word) → Lists P (IsLeast P) ws → IsGrown ws
grown_from_least P V ws L =
    grown_from_prefixes P V ws L.rising (λ w x h. L.every w (IsLeast-prefix P w x (All-contains (IsLeast P) ws (times w x) L.only h)))

pub grown_from_normal : (P : Presentation) (k : ℕ) → IsPresentation P → (ws : List Word) → Lists P (IsNormal P k) ws → IsGrown ws
grown_from_normal P k V ws L =
    grown_from_prefixes P V ws L.rising (λ w x h. L.every w (IsNormal-prefix P k w x (All-contains (IsNormal P k) ws (times w x) L.only h)))
