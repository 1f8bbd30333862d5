-- Halved relations derive the same elements.
use Rattle.std.proofs.Common.{◌≡◌, ℕ, ◌-◌, ◌/◌, ◌<◌, ◌⊎◌, ◌↔◌, inl, inr, Option, Some, None, List, [], ◌∷◌, ◌++◌, length, take, drop, get_or, All, Contains, ◌≢◌, refl, sym, ap, ap₂, ◌∙◌, subst, take-append-drop}
use Rattle.std.proofs.lemmas.List.Elements.{All-head, All-tail, All-take, All-drop, All-contains, Contains-append_left, Contains-append_right, Contains-append_cases, Contains-get_or}
use Rattle.ve_theory.specs.Combinations.{IsReduced}
use Rattle.ve_theory.specs.Words.{Word, times_all, start, letters, same_letters, ShortlexLetters}
use Rattle.ve_theory.specs.Elements.{AlgebraElement, Element, word_times, inverse_of_letters, halved, IsAlgebraElementOf}
use Rattle.ve_theory.specs.Presentations.{Presentation, IsPresentation, HasLetters, IsWord, letter_count, relators, relator, inverse_relators}
use Rattle.ve_theory.specs.Derivations.{Derivation, by_relator, by_submodule, combined, multiplied, nothing, value, IsDerivation, Derived}
use Rattle.ve_theory.specs.Laws.{AreHalvesOf, none, kept, dropped, IsBalanceOf}
use Rattle.ve_theory.proofs.Sums.{SameWeights, SameWeights-sym, weights_from_Alike, Decides-same_letters}
use Rattle.ve_theory.proofs.Members.{Contains-here, Contains-later, Contains-nil, Contains-cons}
use Rattle.ve_theory.proofs.Products.{SameWeights-word_times}
use Rattle.ve_theory.proofs.DerivedElements.{Derived-alike, Derived-nothing, Derived-combined, Derived-times, Derived-submodule, Derived-shows}
use Rattle.ve_theory.proofs.InverseLetters.{times_all-append, IsWord-times_all, Derived-member, Derived-times_all, Derived-replaced, Agree, Agree-refl, undone, redone, inverse-HasLetters}

-- all multiples of r by words are derived
abbrev pub Vanishes : Presentation → AlgebraElement → Type 0
Vanishes P r = (w : Word) → IsWord P w → Derived P (word_times w r)

-- how many letters the half keeps
abbrev pub kept_letters : List ℕ → List ℕ → ℕ
kept_letters u v = length u - (length u - length v) / 2

halved-not : (inverses : List (Option ℕ)) (s t : List ℕ × ℕ) → inverse_of_letters inverses (drop (kept_letters s.0 t.0) s.0) ≡ None → halved inverses (s ∷ t ∷ []) ≡ s ∷ t ∷ []
unfolding halved
halved-not inverses s t e = rw e

halved-cut : (inverses : List (Option ℕ)) (s t : List ℕ × ℕ) (inverse : List ℕ) → inverse_of_letters inverses (drop (kept_letters s.0 t.0) s.0) ≡ Some inverse
    → halved inverses (s ∷ t ∷ []) ≡ (take (kept_letters s.0 t.0) s.0, s.1) ∷ (t.0 ++ inverse, t.1) ∷ []
unfolding halved
halved-cut inverses s t inverse e = rw e

-- one relation of two terms, cut after n letters
module _ (P : Presentation) (V : IsPresentation P) (s t : List ℕ × ℕ) (h : HasLetters P s.0) (k : HasLetters P t.0) (n : ℕ) (inverse : List ℕ)
    (e : inverse_of_letters P.inverses (drop n s.0) ≡ Some inverse) where
  parts : (w : Word) → times_all (times_all w (take n s.0)) (drop n s.0) ≡ times_all w s.0
  parts w = sym (times_all-append w (take n s.0) (drop n s.0)) ∙ ap (times_all w) (take-append-drop n s.0)

  vanishes_from_cut : Vanishes P ((take n s.0, s.1) ∷ (t.0 ++ inverse, t.1) ∷ []) → Vanishes P (s ∷ t ∷ [])
  unfolding word_times
  vanishes_from_cut g w m =
      let rest : HasLetters P (drop n s.0) = All-drop (λ y. y < letter_count P) n s.0 h in
      let first : Agree P (times_all (times_all w (take n s.0)) (drop n s.0)) (times_all w s.0) =
      subst (Agree P (times_all (times_all w (take n s.0)) (drop n s.0))) (parts w) (Agree-refl P V (times_all (times_all w (take n s.0)) (drop n s.0))) in
      let second : Agree P (times_all (times_all w (t.0 ++ inverse)) (drop n s.0)) (times_all w t.0) =
      subst (λ a. Agree P (times_all a (drop n s.0)) (times_all w t.0)) (sym (times_all-append w t.0 inverse))
      (redone P V (times_all w t.0) (drop n s.0) inverse (IsWord-times_all P w t.0 m k) rest e) in
      Derived-replaced P V (times_all (times_all w (take n s.0)) (drop n s.0)) (times_all (times_all w (t.0 ++ inverse)) (drop n s.0)) (times_all w s.0) (times_all w t.0) s.1 t.1 first second
      (Derived-times_all P (times_all w (take n s.0)) (times_all w (t.0 ++ inverse)) s.1 t.1 (drop n s.0) rest (g w m))

  cut_vanishes : Vanishes P (s ∷ t ∷ []) → Vanishes P ((take n s.0, s.1) ∷ (t.0 ++ inverse, t.1) ∷ [])
  unfolding word_times
  cut_vanishes g w m =
      let rest : HasLetters P (drop n s.0) = All-drop (λ y. y < letter_count P) n s.0 h in
      let first : Agree P (times_all (times_all w s.0) inverse) (times_all w (take n s.0)) =
      subst (λ a. Agree P (times_all a inverse) (times_all w (take n s.0))) (parts w)
      (undone P V (times_all w (take n s.0)) (drop n s.0) inverse (IsWord-times_all P w (take n s.0) m (All-take (λ y. y < letter_count P) n s.0 h)) rest e) in
      let second : Agree P (times_all (times_all w t.0) inverse) (times_all w (t.0 ++ inverse)) =
      subst (Agree P (times_all (times_all w t.0) inverse)) (sym (times_all-append w t.0 inverse)) (Agree-refl P V (times_all (times_all w t.0) inverse)) in
      Derived-replaced P V (times_all (times_all w s.0) inverse) (times_all (times_all w t.0) inverse) (times_all w (take n s.0)) (times_all w (t.0 ++ inverse)) s.1 t.1 first second
      (Derived-times_all P (times_all w s.0) (times_all w t.0) s.1 t.1 inverse (inverse-HasLetters P V (drop n s.0) inverse e) (g w m))

-- an element and its half have the same consequences
pub halves_vanish : (P : Presentation) → IsPresentation P → (r : AlgebraElement) → All (λ t. HasLetters P t.0) r → (Vanishes P (halved P.inverses r) ↔ Vanishes P r)
unfolding halved
halves_vanish P V [] h = (λ g. g, λ g. g)
halves_vanish P V (s ∷ []) h = (λ g. g, λ g. g)
halves_vanish P V (s ∷ t ∷ r ∷ v) h = (λ g. g, λ g. g)
halves_vanish P V (s ∷ t ∷ []) h = go (inverse_of_letters P.inverses (drop (kept_letters s.0 t.0) s.0)) refl
  where
    first : HasLetters P s.0
    first = All-head (λ (q : List ℕ × ℕ). HasLetters P q.0) s (t ∷ []) h

    second : HasLetters P t.0
    second = All-head (λ (q : List ℕ × ℕ). HasLetters P q.0) t [] (All-tail (λ (q : List ℕ × ℕ). HasLetters P q.0) s (t ∷ []) h)

    go : (o : Option (List ℕ)) → inverse_of_letters P.inverses (drop (kept_letters s.0 t.0) s.0) ≡ o → (Vanishes P (halved P.inverses (s ∷ t ∷ [])) ↔ Vanishes P (s ∷ t ∷ []))
    go None e = (subst (Vanishes P) (halved-not P.inverses s t e), subst (Vanishes P) (sym (halved-not P.inverses s t e)))
    go (Some inverse) e = (
      λ g. vanishes_from_cut P V s t first second (kept_letters s.0 t.0) inverse e (subst (Vanishes P) (halved-cut P.inverses s t inverse e) g),
      λ g. subst (Vanishes P) (sym (halved-cut P.inverses s t inverse e)) (cut_vanishes P V s t first second (kept_letters s.0 t.0) inverse e g),
    )

-- the half of a relation, and the relation of a half

half_of : (p : ℕ) (P : Presentation) {rs hs : List AlgebraElement} → AreHalvesOf p P rs hs → (r : AlgebraElement) → Contains rs r
    → (h : AlgebraElement) × (Contains hs h ⊎ (h ≡ [])) × IsAlgebraElementOf p h (halved P.inverses r)
half_of p P none r m = absurd (Contains-nil r m)
half_of p P (kept s h rs hs form more) r m = cases (half_of p P more r) (Contains-cons s r rs m)
  where
    cases : (Contains rs r → (i : AlgebraElement) × (Contains hs i ⊎ (i ≡ [])) × IsAlgebraElementOf p i (halved P.inverses r)) → (s ≡ r) ⊎ Contains rs r
        → (i : AlgebraElement) × (Contains (h ∷ hs) i ⊎ (i ≡ [])) × IsAlgebraElementOf p i (halved P.inverses r)
    cases later (inl e) = (h, inl (Contains-here h hs), subst (λ q. IsAlgebraElementOf p h (halved P.inverses q)) e form)
    cases later (inr n) = found (later n)
      where
        found : (i : AlgebraElement) × (Contains hs i ⊎ (i ≡ [])) × IsAlgebraElementOf p i (halved P.inverses r)
            → (i : AlgebraElement) × (Contains (h ∷ hs) i ⊎ (i ≡ [])) × IsAlgebraElementOf p i (halved P.inverses r)
        found (i, inl l, f) = (i, inl (Contains-later h i hs l), f)
        found (i, inr l, f) = (i, inr l, f)
half_of p P (dropped s rs hs form more) r m = cases (half_of p P more r) (Contains-cons s r rs m)
  where
    cases : (Contains rs r → (i : AlgebraElement) × (Contains hs i ⊎ (i ≡ [])) × IsAlgebraElementOf p i (halved P.inverses r)) → (s ≡ r) ⊎ Contains rs r
        → (i : AlgebraElement) × (Contains hs i ⊎ (i ≡ [])) × IsAlgebraElementOf p i (halved P.inverses r)
    cases later (inl e) = ([], inr refl, subst (λ q. IsAlgebraElementOf p [] (halved P.inverses q)) e form)
    cases later (inr n) = later n

whole_of : (p : ℕ) (P : Presentation) {rs hs : List AlgebraElement} → AreHalvesOf p P rs hs → (h : AlgebraElement) → Contains hs h
    → (r : AlgebraElement) × Contains rs r × IsAlgebraElementOf p h (halved P.inverses r)
whole_of p P none h m = absurd (Contains-nil h m)
whole_of p P (kept s g rs hs form more) h m = cases (whole_of p P more h) (Contains-cons g h hs m)
  where
    cases : (Contains hs h → (r : AlgebraElement) × Contains rs r × IsAlgebraElementOf p h (halved P.inverses r)) → (g ≡ h) ⊎ Contains hs h
        → (r : AlgebraElement) × Contains (s ∷ rs) r × IsAlgebraElementOf p h (halved P.inverses r)
    cases later (inl e) = (s, Contains-here s rs, subst (λ q. IsAlgebraElementOf p q (halved P.inverses s)) e form)
    cases later (inr n) = let found = later n in (found.0, Contains-later s found.0 rs found.1, found.2)
whole_of p P (dropped s rs hs form more) h m = let found = whole_of p P more h m in (found.0, Contains-later s found.0 rs found.1, found.2)

-- derivations, tree by tree

translated : (P Q : Presentation) → P.prime ≡ Q.prime → P.names ≡ Q.names → P.submodule ≡ Q.submodule
    → ((w : Word) (number : ℕ) → IsWord P w → number < length (relators P) → Derived Q (word_times w (relator P number)))
    → (t : Derivation) → IsDerivation P t → Derived Q (value P t)
unfolding value IsDerivation
translated P Q e f g each (by_relator w number) d = each w number d.0 d.1
translated P Q e f g each (by_submodule number) d = subst (λ qs. Derived Q (get_or qs number [])) (sym g) (Derived-submodule Q number (subst (λ qs. number < length qs) g d))
translated P Q e f g each (combined c s k t) d = Derived-combined Q c k (translated P Q e f g each s d.0) (translated P Q e f g each t d.1)
translated P Q e f g each (multiplied t x) d = Derived-times Q x (subst (λ ns. x < length ns) f d.1) (translated P Q e f g each t d.0)
translated P Q e f g each nothing d = Derived-nothing Q

Derived-translated : (P Q : Presentation) → P.prime ≡ Q.prime → P.names ≡ Q.names → P.submodule ≡ Q.submodule
    → ((w : Word) (number : ℕ) → IsWord P w → number < length (relators P) → Derived Q (word_times w (relator P number)))
    → {v : Element} → Derived P v → Derived Q v
Derived-translated P Q e f g each {v} d =
    Derived-alike Q (subst (λ p. SameWeights p (value P d.derivation) v) e (Derived-shows P d)) (translated P Q e f g each d.derivation d.is_derivation)

-- what every presentation's relators say of one that shares field, letters, inverses and generators

Vanishes-member : (P : Presentation) (r : AlgebraElement) → Contains (relators P) r → Vanishes P r
Vanishes-member P r m = λ w k. Derived-member P w r k m

Vanishes-nothing : (P : Presentation) → Vanishes P []
unfolding word_times
Vanishes-nothing P = λ w k. Derived-nothing P

Vanishes-alike : (P : Presentation) {r s : AlgebraElement} → SameWeights P.prime r s → Vanishes P r → Vanishes P s
Vanishes-alike P e g = λ w k. Derived-alike P (SameWeights-word_times w e) (g w k)

shared_word : (P Q : Presentation) → P.generators ≡ Q.generators → P.names ≡ Q.names → (w : Word) → IsWord P w → IsWord Q w
shared_word P Q e f w h = (subst (λ n. start w < n) e h.0, subst (λ ns. All (λ x. x < length ns) (letters w)) f h.1)

-- each relator vanishes where those of the inverses and the relations do
each_relator : (P Q : Presentation) → P.prime ≡ Q.prime → P.inverses ≡ Q.inverses → P.generators ≡ Q.generators → P.names ≡ Q.names
    → ((r : AlgebraElement) → Contains P.relations r → Vanishes Q r)
    → (w : Word) (number : ℕ) → IsWord P w → number < length (relators P) → Derived Q (word_times w (relator P number))
each_relator P Q e f g h each w number k l =
    cases (Contains-append_cases (inverse_relators P.prime 0 P.inverses) P.relations (relator P number) (Contains-get_or (relators P) number [] l)) w (shared_word P Q g h w k)
  where
    cases : Contains (inverse_relators P.prime 0 P.inverses) (relator P number) ⊎ Contains P.relations (relator P number) → Vanishes Q (relator P number)
    cases (inl m) =
        Vanishes-member Q (relator P number)
        (Contains-append_left (inverse_relators Q.prime 0 Q.inverses) Q.relations (relator P number)
        (subst (λ rs. Contains rs (relator P number)) (ap₂ (λ p inverses. inverse_relators p 0 inverses) e f) m))
    cases (inr m) = each (relator P number) m

module _ (P Q : Presentation) (V : IsPresentation P) (W : IsPresentation Q) (B : IsBalanceOf P Q) where
  same_weights : (h r : AlgebraElement) → IsAlgebraElementOf P.prime h (halved P.inverses r) → SameWeights P.prime h (halved P.inverses r)
  same_weights h r form = weights_from_Alike same_letters Decides-same_letters P.prime h (halved P.inverses r) form.alike

  known_letters : (r : AlgebraElement) → Contains P.relations r → All (λ t. HasLetters P t.0) r
  known_letters r m = (All-contains (λ q. IsReduced ShortlexLetters P.prime q × All (λ t. HasLetters P t.0) q × (q ≢ [])) P.relations r V.relations m).1

  relation_vanishes : (r : AlgebraElement) → Contains P.relations r → Vanishes Q r
  relation_vanishes r m = from_half (half_of P.prime P B.relations r m)
    where
      half_vanishes : (h : AlgebraElement) → Contains Q.relations h ⊎ (h ≡ []) → Vanishes Q h
      half_vanishes h (inl n) = Vanishes-member Q h (Contains-append_right (inverse_relators Q.prime 0 Q.inverses) Q.relations h n)
      half_vanishes h (inr e) = subst (Vanishes Q) (sym e) (Vanishes-nothing Q)

      letters_of_Q : All (λ t. HasLetters Q t.0) r
      letters_of_Q = subst (λ ns. All (λ t. All (λ x. x < length ns) t.0) r) (sym B.names) (known_letters r m)

      from_half : (h : AlgebraElement) × (Contains Q.relations h ⊎ (h ≡ [])) × IsAlgebraElementOf P.prime h (halved P.inverses r) → Vanishes Q r
      from_half (h, n, form) =
          (halves_vanish Q W r letters_of_Q).0
          (subst (λ inverses. Vanishes Q (halved inverses r)) (sym B.inverses)
          (Vanishes-alike Q (subst (λ p. SameWeights p h (halved P.inverses r)) (sym B.prime) (same_weights h r form)) (half_vanishes h n)))

  half_vanishes : (h : AlgebraElement) → Contains Q.relations h → Vanishes P h
  half_vanishes h m = from_whole (whole_of P.prime P B.relations h m)
    where
      from_whole : (r : AlgebraElement) × Contains P.relations r × IsAlgebraElementOf P.prime h (halved P.inverses r) → Vanishes P h
      from_whole (r, n, form) =
          Vanishes-alike P (SameWeights-sym (same_weights h r form))
          ((halves_vanish P V r (known_letters r n)).1 (Vanishes-member P r (Contains-append_right (inverse_relators P.prime 0 P.inverses) P.relations r n)))

pub balance_keeps_derived : (P Q : Presentation) → IsPresentation P → IsPresentation Q → IsBalanceOf P Q → (v : Element) → (Derived P v ↔ Derived Q v)
balance_keeps_derived P Q V W B v = (
  Derived-translated P Q (sym B.prime) (sym B.names) (sym B.submodule)
      (each_relator P Q (sym B.prime) (sym B.inverses) (sym B.generators) (sym B.names) (relation_vanishes P Q V W B)),
  Derived-translated Q P B.prime B.names B.submodule (each_relator Q P B.prime B.inverses B.generators B.names (half_vanishes P Q V W B)),
)
