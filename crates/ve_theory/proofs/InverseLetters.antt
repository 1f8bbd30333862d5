-- Words that agree up to what is derived. Letters and their inverses cancel.
use Rattle.std.proofs.Common.{◌≡◌, ℕ, zero, suc, ◌+◌, ◌*◌, ◌-◌, ◌<◌, Option, Some, None, slice_get, List, [], ◌∷◌, ◌++◌, Contains, refl, sym, ap₂, ◌∙◌, subst, arith}
use Rattle.std.proofs.lemmas.List.{get_or_default}
use Rattle.std.proofs.lemmas.Option.{slice_get_within}
use Rattle.std.proofs.lemmas.List.Elements.{All-head, All-tail, All-nil, All-cons, All-push, Contains-append_left}
use Rattle.ve_theory.specs.Residues.{Congruent}
use Rattle.ve_theory.specs.Combinations.{scaled}
use Rattle.ve_theory.specs.Words.{Word, times, times_all}
use Rattle.ve_theory.specs.Elements.{AlgebraElement, word_times, times_letter, inverse_of_letters}
use Rattle.ve_theory.specs.Presentations.{Presentation, IsPresentation, inverse_relators, relators, letter_count, HasLetters, IsWord}
use Rattle.ve_theory.specs.Derivations.{Derived}
use Rattle.ve_theory.proofs.Sums.{weigh, prime-large}
use Rattle.ve_theory.proofs.Members.{Contains-here, Contains-later, IsWord-times}
use Rattle.ve_theory.proofs.DerivedElements.{Derived-alike, Derived-nothing, Derived-append, Derived-scaled, Derived-times, Derived-relator}
use Rattle.ve_theory.proofs.Independence.{congruent_by}

congruent_before : (p a b : ℕ) → 0 < p → Congruent (suc (p - 1)) a b → Congruent p a b
congruent_before p a b l e = subst (λ q. Congruent q a b) (omega arith) e

-- words times letters

pub times_all-append : (w : Word) (u v : List ℕ) → times_all w (u ++ v) ≡ times_all (times_all w u) v
unfolding times_all
times_all-append w [] v = refl
times_all-append w (x ∷ u) v = times_all-append (times w x) u v

pub IsWord-times_all : (P : Presentation) (w : Word) (u : List ℕ) → IsWord P w → HasLetters P u → IsWord P (times_all w u)
unfolding times_all
IsWord-times_all P w [] h k = h
IsWord-times_all P w (x ∷ u) h k =
    IsWord-times_all P (times w x) u (IsWord-times P w x h (All-head (λ y. y < letter_count P) x u k)) (All-tail (λ y. y < letter_count P) x u k)

-- a relator, wherever it stands
pub Derived-member : (P : Presentation) (w : Word) (r : AlgebraElement) → IsWord P w → Contains (relators P) r → Derived P (word_times w r)
Derived-member P w r h m =
    subst (λ s. Derived P (word_times w s)) (get_or_default (relators P) m.0 [] r m.1 ∙ m.2) (Derived-relator P w m.0 h m.1)

-- the difference of two words is derived
abbrev pub Agree : Presentation → Word → Word → Type 0
Agree P a b = Derived P ((a, 1) ∷ (b, P.prime - 1) ∷ [])

-- sums of two terms, times letters
pub Derived-times_all : (P : Presentation) (a b : Word) (c d : ℕ) (u : List ℕ) → HasLetters P u → Derived P ((a, c) ∷ (b, d) ∷ []) → Derived P ((times_all a u, c) ∷ (times_all b u, d) ∷ [])
unfolding times_all times_letter
Derived-times_all P a b c d [] k h = h
Derived-times_all P a b c d (x ∷ u) k h =
    Derived-times_all P (times a x) (times b x) c d u (All-tail (λ y. y < letter_count P) x u k) (Derived-times P x (All-head (λ y. y < letter_count P) x u k) h)

pub Agree-refl : (P : Presentation) → IsPresentation P → (a : Word) → Agree P a a
unfolding weigh
Agree-refl P V a = Derived-alike P (record { at = λ h. congruent_before P.prime 0 (1 * h a + ((P.prime - 1) * h a + 0)) positive (at (P.prime - 1) (h a)) }) (Derived-nothing P)
  where
    positive : 0 < P.prime
    positive = omega (arith, prime-large P.prime V.field)

    at : (m x : ℕ) → Congruent (suc m) 0 (1 * x + (m * x + 0))
    at m x = congruent_by (suc m) 0 (1 * x + (m * x + 0)) x 0 (omega arith)

-- the words of a sum of two terms may be replaced by words that agree with them
pub Derived-replaced : (P : Presentation) → IsPresentation P → (a b a' b' : Word) (c d : ℕ) → Agree P a a' → Agree P b b' → Derived P ((a, c) ∷ (b, d) ∷ []) → Derived P ((a', c) ∷ (b', d) ∷ [])
unfolding weigh scaled
Derived-replaced P V a b a' b' c d f g h =
    Derived-alike P
    (record {
      at = λ k. congruent_before P.prime
          (c * k a + (d * k b + (m * c * 1 * k a + (m * c * m * k a' + (m * d * 1 * k b + (m * d * m * k b' + 0))))))
          (c * k a' + (d * k b' + 0)) positive (at m (k a) (k b) (k a') (k b'));
    })
    (Derived-append P h (Derived-append P (Derived-scaled P (m * c) f) (Derived-scaled P (m * d) g)))
  where
    m : ℕ
    m = P.prime - 1

    positive : 0 < P.prime
    positive = omega (arith, prime-large P.prime V.field)

    at : (n x y x' y' : ℕ) → Congruent (suc n) (c * x + (d * y + (n * c * 1 * x + (n * c * n * x' + (n * d * 1 * y + (n * d * n * y' + 0)))))) (c * x' + (d * y' + 0))
    at n x y x' y' =
        congruent_by (suc n) (c * x + (d * y + (n * c * 1 * x + (n * c * n * x' + (n * d * 1 * y + (n * d * n * y' + 0)))))) (c * x' + (d * y' + 0))
        (c * x' + d * y') (c * x + d * y + n * (c * x' + d * y')) (omega arith)

pub Agree-trans : (P : Presentation) → IsPresentation P → (a b c : Word) → Agree P a b → Agree P b c → Agree P a c
Agree-trans P V a b c f g = Derived-replaced P V a b a c 1 (P.prime - 1) (Agree-refl P V a) g f

-- letters with inverses

-- x*y - 1
abbrev pub inverse_relator : (p x y : ℕ) → AlgebraElement
inverse_relator p x y = (x ∷ y ∷ [], 1) ∷ ([], p - 1) ∷ []

Contains-inverse_relators : (p first i x y : ℕ) (inverses : List (Option ℕ)) → x ≡ first + i → slice_get inverses i ≡ Some (Some y) → Contains (inverse_relators p first inverses) (inverse_relator p x y)
unfolding inverse_relators
Contains-inverse_relators p first i x y [] h e = absurd (cc)
Contains-inverse_relators p first zero x y (None ∷ inverses) h e = absurd (cc)
Contains-inverse_relators p first zero x y (Some z ∷ inverses) h e =
    let same : x ≡ first = omega arith in
    let inverse : y ≡ z = cc in
    subst (λ r. Contains (inverse_relator p first z ∷ inverse_relators p (first + 1) inverses) r) (sym (ap₂ (inverse_relator p) same inverse))
    (Contains-here (inverse_relator p first z) (inverse_relators p (first + 1) inverses))
Contains-inverse_relators p first (suc i) x y (None ∷ inverses) h e = Contains-inverse_relators p (first + 1) i x y inverses (omega arith) e
Contains-inverse_relators p first (suc i) x y (Some z ∷ inverses) h e =
    Contains-later (inverse_relator p first z) (inverse_relator p x y) (inverse_relators p (first + 1) inverses) (Contains-inverse_relators p (first + 1) i x y inverses (omega arith) e)

cancels : (P : Presentation) (w : Word) (x y : ℕ) → IsWord P w → slice_get P.inverses x ≡ Some (Some y) → Agree P (times (times w x) y) w
unfolding word_times times_all
cancels P w x y h e =
    Derived-member P w (inverse_relator P.prime x y) h
    (Contains-append_left (inverse_relators P.prime 0 P.inverses) P.relations (inverse_relator P.prime x y) (Contains-inverse_relators P.prime 0 x x y P.inverses (omega arith) e))

-- the letters x, then u, are inverted by the inverse of u, then that of x
pub record Inverted (inverses : List (Option ℕ)) (x : ℕ) (u inverse : List ℕ) : Type 0 where
  pub y : ℕ
  pub v : List ℕ
  pub letter : slice_get inverses x ≡ Some (Some y)
  pub rest : inverse_of_letters inverses u ≡ Some v
  pub whole : inverse ≡ v ++ y ∷ []

pub inverted : (inverses : List (Option ℕ)) (x : ℕ) (u inverse : List ℕ) → inverse_of_letters inverses (x ∷ u) ≡ Some inverse → Inverted inverses x u inverse
unfolding inverse_of_letters
inverted inverses x u inverse e = go (slice_get inverses x) (inverse_of_letters inverses u) refl refl
  where
    go : (o : Option (Option ℕ)) (q : Option (List ℕ)) → slice_get inverses x ≡ o → inverse_of_letters inverses u ≡ q → Inverted inverses x u inverse
    go None q f g = absurd (cc)
    go (Some None) q f g = absurd (cc)
    go (Some (Some z)) None f g = absurd (cc)
    go (Some (Some z)) (Some t) f g = record { y = z; v = t; letter = f; rest = g; whole = cc }

module _ (P : Presentation) (V : IsPresentation P) where
  pub inverse-HasLetters : (u inverse : List ℕ) → inverse_of_letters P.inverses u ≡ Some inverse → HasLetters P inverse
  unfolding inverse_of_letters
  inverse-HasLetters [] inverse e = let none : [] ≡ inverse = cc in subst (HasLetters P) none (All-nil (λ y. y < letter_count P))
  inverse-HasLetters (x ∷ u) inverse e =
      let i = inverted P.inverses x u inverse e in
      let known : i.y < letter_count P = omega (arith, slice_get_within P.inverses i.y (Some x) (V.inverses x i.y i.letter), V.one_inverse_each) in
      subst (HasLetters P) (sym i.whole) (All-push (λ y. y < letter_count P) i.v i.y (inverse-HasLetters u i.v i.rest) known)

  -- letters, then their inverse
  pub undone : (w : Word) (u inverse : List ℕ) → IsWord P w → HasLetters P u → inverse_of_letters P.inverses u ≡ Some inverse → Agree P (times_all (times_all w u) inverse) w
  unfolding inverse_of_letters times_all
  undone w [] inverse h k e = let none : [] ≡ inverse = cc in subst (λ v. Agree P (times_all w v) w) none (Agree-refl P V w)
  undone w (x ∷ u) inverse h k e =
      let i = inverted P.inverses x u inverse e in
      let first : x < letter_count P = All-head (λ y. y < letter_count P) x u k in
      let later : HasLetters P u = All-tail (λ y. y < letter_count P) x u k in
      let inner : Agree P (times_all (times_all (times w x) u) i.v) (times w x) = undone (times w x) u i.v (IsWord-times P w x h first) later i.rest in
      let known : i.y < letter_count P = omega (arith, slice_get_within P.inverses i.y (Some x) (V.inverses x i.y i.letter), V.one_inverse_each) in
      let outer : Agree P (times (times_all (times_all (times w x) u) i.v) i.y) (times (times w x) i.y) =
      Derived-times_all P (times_all (times_all (times w x) u) i.v) (times w x) 1 (P.prime - 1) (i.y ∷ []) (All-cons (λ y. y < letter_count P) i.y [] known (All-nil (λ y. y < letter_count P))) inner in
      let both : Agree P (times (times_all (times_all (times w x) u) i.v) i.y) w =
      Agree-trans P V (times (times_all (times_all (times w x) u) i.v) i.y) (times (times w x) i.y) w outer (cancels P w x i.y h i.letter) in
      let split : times_all (times_all (times w x) u) (i.v ++ i.y ∷ []) ≡ times (times_all (times_all (times w x) u) i.v) i.y = times_all-append (times_all (times w x) u) i.v (i.y ∷ []) in
      subst (λ v. Agree P (times_all (times_all (times w x) u) v) w) (sym i.whole) (subst (λ a. Agree P a w) (sym split) both)

  -- the inverse of letters, then the letters
  pub redone : (w : Word) (u inverse : List ℕ) → IsWord P w → HasLetters P u → inverse_of_letters P.inverses u ≡ Some inverse → Agree P (times_all (times_all w inverse) u) w
  unfolding inverse_of_letters times_all
  redone w [] inverse h k e = let none : [] ≡ inverse = cc in subst (λ v. Agree P (times_all w v) w) none (Agree-refl P V w)
  redone w (x ∷ u) inverse h k e =
      let i = inverted P.inverses x u inverse e in
      let later : HasLetters P u = All-tail (λ y. y < letter_count P) x u k in
      let there : IsWord P (times_all w i.v) = IsWord-times_all P w i.v h (inverse-HasLetters u i.v i.rest) in
      let first : Agree P (times (times (times_all w i.v) i.y) x) (times_all w i.v) = cancels P (times_all w i.v) i.y x there (V.inverses x i.y i.letter) in
      let outer : Agree P (times_all (times (times (times_all w i.v) i.y) x) u) (times_all (times_all w i.v) u) =
      Derived-times_all P (times (times (times_all w i.v) i.y) x) (times_all w i.v) 1 (P.prime - 1) u later first in
      let both : Agree P (times_all (times (times (times_all w i.v) i.y) x) u) w =
      Agree-trans P V (times_all (times (times (times_all w i.v) i.y) x) u) (times_all (times_all w i.v) u) w outer (redone w u i.v h later i.rest) in
      let split : times_all w (i.v ++ i.y ∷ []) ≡ times (times_all w i.v) i.y = times_all-append w i.v (i.y ∷ []) in
      subst (λ v. Agree P (times_all (times (times_all w v) x) u) w) (sym i.whole) (subst (λ a. Agree P (times_all (times a x) u) w) (sym split) both)
