-- Rows that have no entry after the word that they are the row of.
use Rattle.std.proofs.Common.{◌≡◌, ℕ, ◌%◌, ◌<◌, ◌≤◌, ◌⊎◌, false, cond, nat_eq, [], ◌∷◌, slice_index_or, All, Contains, refl, sym, subst, ap, ◌∙◌, inl, inr, arith, add-zero, mod-eq_of_lt}
use Rattle.std.proofs.Math.Nat.{zero-mod}
use Rattle.std.proofs.lemmas.Bool.{cond-true, false_from_ne_true}
use Rattle.std.proofs.lemmas.List.Elements.{All-nil, All-cons, All-head, All-tail, Contains-get_or}
use Rattle.ve_theory.specs.Combinations.{unit, difference, coefficient}
use Rattle.ve_theory.specs.Words.{Word, generator, times}
use Rattle.ve_theory.specs.Elements.{Element}
use Rattle.ve_theory.specs.Presentations.{Presentation, IsWord, before, reach}
use Rattle.ve_theory.specs.Levels.{IsEarlier}
use Rattle.ve_theory.specs.Answers.{Action, Row, basis_word, dimension, word_row, evaluation, combination_of, IsNotAfter, IsRowUpTo}
use Rattle.ve_theory.proofs.Sums.{SameWeights, SameWeights-refl, SameWeights-sym, SameWeights-trans, SameWeights-difference, coefficient-absent, extended-difference, extended-unit, same_from_difference, Alike_from_weights, Decides-nat_eq}
use Rattle.ve_theory.proofs.Orders.{before_irreflexive, before_transitive, before_times, before_reach}
use Rattle.ve_theory.proofs.Remainders.{All-extended, All-combination_of, HasRemainders, word_remainder}

-- words that are not after others

pub IsNotAfter-times : (P : Presentation) (v w : Word) (x : ℕ) → IsNotAfter P v w → IsNotAfter P (times v x) (times w x)
IsNotAfter-times P v w x (inl h) = inl (before_times P v w x h)
IsNotAfter-times P v w x (inr e) = inr (ap (λ u. times u x) e)

pub IsNotAfter-trans : (P : Presentation) (u v w : Word) → IsNotAfter P u v → IsNotAfter P v w → IsNotAfter P u w
IsNotAfter-trans P u v w (inl h) (inl k) = inl (before_transitive P u v w h k)
IsNotAfter-trans P u v w (inl h) (inr e) = inl (subst (λ t. before P u t) e h)
IsNotAfter-trans P u v w (inr e) (inl k) = inl (subst (λ t. before P t w) (sym e) k)
IsNotAfter-trans P u v w (inr d) (inr e) = inr (d ∙ e)

pub IsNotAfter-reach : (P : Presentation) (v w : Word) → IsNotAfter P v w → reach P v ≤ reach P w
IsNotAfter-reach P v w (inl h) = before_reach P v w h
IsNotAfter-reach P v w (inr e) = let f : reach P v ≡ reach P w = ap (reach P) e in omega arith

pub IsRowUpTo-later : (P : Presentation) (A : Action) (v w : Word) (row : Row) → IsNotAfter P v w → IsRowUpTo P A v row → IsRowUpTo P A w row
IsRowUpTo-later P A v w row h upto =
    λ k t l. let place = upto k t l in (place.0, IsNotAfter-trans P (basis_word A (slice_index_or row k t).0) v w place.1 h)

-- a basis word that is before w, or is w

pub listed_or_earlier : (P : Presentation) (A : Action) (w : Word) (row : Row) → IsRowUpTo P A w row → Contains A.basis w ⊎ All (λ t. (t.0 < dimension A) × before P (basis_word A t.0) w) row
listed_or_earlier P A w [] upto = inr (All-nil (λ (t : ℕ × ℕ). (t.0 < dimension A) × before P (basis_word A t.0) w))
listed_or_earlier P A w (t ∷ row) upto =
    cases (All-head (λ (t : ℕ × ℕ). (t.0 < dimension A) × IsNotAfter P (basis_word A t.0) w) t row upto)
    (listed_or_earlier P A w row (All-tail (λ (t : ℕ × ℕ). (t.0 < dimension A) × IsNotAfter P (basis_word A t.0) w) t row upto))
  where
    cases : (t.0 < dimension A) × IsNotAfter P (basis_word A t.0) w → Contains A.basis w ⊎ All (λ t. (t.0 < dimension A) × before P (basis_word A t.0) w) row
        → Contains A.basis w ⊎ All (λ t. (t.0 < dimension A) × before P (basis_word A t.0) w) (t ∷ row)
    cases here (inl listed) = inl listed
    cases (place, inr e) (inr rest) = inl (subst (λ v. Contains A.basis v) e (Contains-get_or A.basis t.0 (generator 0) place))
    cases (place, inl h) (inr rest) = inr (All-cons (λ (t : ℕ × ℕ). (t.0 < dimension A) × before P (basis_word A t.0) w) t row (place, h) rest)

-- a word that differs from no combination of earlier words by the elements whose remainders the action has
pub irreducible_listed : {P : Presentation} {A : Action} {Good : Word → Type 0} {Fits : Word → ℕ → Type 0} {D : Element → Type 0} → HasRemainders P A Good Fits D → All (IsWord P) A.basis
    → (w : Word) → Good w → IsRowUpTo P A w (word_row A w) → ((v : Element) → IsEarlier P w v → ¬ D (difference P.prime (unit w) v)) → Contains A.basis w
irreducible_listed {P} {A} H words w good upto irreducible = cases (listed_or_earlier P A w (word_row A w) upto)
  where
    cases : Contains A.basis w ⊎ All (λ t. (t.0 < dimension A) × before P (basis_word A t.0) w) (word_row A w) → Contains A.basis w
    cases (inl listed) = listed
    cases (inr earlier) =
        absurd
        (irreducible (combination_of A (word_row A w))
        (All-combination_of (λ v. IsWord P v × before P v w) A (word_row A w)
        (λ k t l. let e = earlier k t l in (words (slice_index_or (word_row A w) k t).0 (generator 0) e.0, e.1)))
        (word_remainder H w good))

-- a basis word with its own row differs from each combination of earlier words by what does not vanish
pub own_row_irreducible : (P : Presentation) (A : Action) (i : ℕ) (v : Element) → 1 < P.prime → SameWeights P.prime (word_row A (basis_word A i)) (unit i)
    → All (λ t. before P t.0 (basis_word A i) × IsRowUpTo P A t.0 (word_row A t.0)) v → SameWeights P.prime (evaluation A (difference P.prime (unit (basis_word A i)) v)) [] → ⊥
unfolding coefficient
own_row_irreducible P A i v large own earlier zero =
    let p = P.prime in
    let here : coefficient nat_eq (unit i) i ≡ 1 = add-zero (cond (nat_eq i i) 1 0) ∙ cond-true (nat_eq i i) 1 0 ((Decides-nat_eq i i).1 refl) in
    let there : coefficient nat_eq (evaluation A v) i ≡ 0 = coefficient-absent nat_eq (evaluation A v) i absent in
    let e : coefficient nat_eq (unit i) i % p ≡ coefficient nat_eq (evaluation A v) i % p = Alike_from_weights nat_eq (same_from_difference p (unit i) (evaluation A v) (omega arith) difference_zero) i in
    let f : 1 % p ≡ 0 % p = ap (λ n. n % p) (sym here) ∙ (e ∙ ap (λ n. n % p) there) in
    let g : 1 % p ≡ 1 = mod-eq_of_lt large in
    omega (arith, zero-mod p)
  where
    difference_zero : SameWeights P.prime (difference P.prime (unit i) (evaluation A v)) []
    difference_zero =
        SameWeights-trans
        (SameWeights-sym
        (SameWeights-trans (extended-difference P.prime (word_row A) (unit (basis_word A i)) v)
        (SameWeights-difference (SameWeights-trans (extended-unit P.prime (word_row A) (basis_word A i)) own) (SameWeights-refl P.prime (evaluation A v)))))
        zero

    differs : (j : ℕ) (w : Word) → before P w (basis_word A i) → IsNotAfter P (basis_word A j) w → nat_eq j i ≡ false
    differs j w h k =
        false_from_ne_true (nat_eq j i)
        (λ e. turns (IsNotAfter-trans P (basis_word A j) w (basis_word A i) k (inl h)) (ap (basis_word A) ((Decides-nat_eq j i).0 e)) h k)
      where
        turns : IsNotAfter P (basis_word A j) (basis_word A i) → basis_word A j ≡ basis_word A i → before P w (basis_word A i) → IsNotAfter P (basis_word A j) w → ⊥
        turns _ e h (inl k) = before_irreflexive P w (before_transitive P w (basis_word A i) w h (subst (λ u. before P u w) e k))
        turns _ e h (inr k) = before_irreflexive P w (subst (λ u. before P w u) (sym e ∙ k) h)

    absent : All (λ t. nat_eq t.0 i ≡ false) (evaluation A v)
    absent =
        All-extended (λ j. nat_eq j i ≡ false) (word_row A) v
        (λ k t l m s n. let h = earlier k t l in differs (slice_index_or (word_row A (slice_index_or v k t).0) m s).0 (slice_index_or v k t).0 h.0 (h.1 m s n).1)
