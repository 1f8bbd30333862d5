-- A merge that moves the terms of two lists behind a sum, and takes them from the ends of the reversed lists.
use Rattle.std.proofs.Common.{◌≡◌, ℕ, zero, suc, ◌+◌, ◌%◌, ◌<◌, Bool, true, false, List, [], ◌∷◌, ◌++◌, length, length-append, take, drop, reverse, get_or, slice_get, Some, None, All, refl, sym, ap, ap₂, ◌∙◌, subst, append_assoc, arith}
use Rattle.std.proofs.lemmas.List.{map-append, reverse-append, reverse-reverse, take-append-drop}
use Rattle.std.proofs.lemmas.List.Elements.{All-nil, All-cons, All-head, All-tail}
use Rattle.std.specs.List.Sorted.{IsPartitionedBy}
use Rattle.ve_theory.specs.Combinations.{AllBefore, IsReduced, IsReducedOf}
use Rattle.ve_theory.specs.Words.{Word, Shortlex, same_word}
use Rattle.ve_theory.specs.Elements.{Element}
use Rattle.ve_lemmas.proofs.Sums.{All_from_AllBefore, AllBefore_from_All}
use Rattle.ve_pres.specs.declared.term.Term.{Term}
use Rattle.ve_pres.specs.Terms.{pairs}
use Rattle.ve_pres.proofs.Orders.{is_before, before_from_test, test_before, shortlex_transitive}
use Rattle.ve_pres.proofs.Merging.{IsBelow, IsMerging, AllBefore-higher, IsReduced-append}
use Rattle.ve_pres.proofs.MergeSteps.{left_residue, right_residue, push_left, push_right, push_both, ends_left, ends_right}

-- the parts of a reduced list

pub record IsSplit (p : ℕ) (u v : Element) : Type 0 where
  pub front : IsReduced Shortlex p u
  pub rest : IsReduced Shortlex p v
  pub below : IsBelow u v

all_front : (P : Word × ℕ → Type 0) (u v : Element) → All P (u ++ v) → All P u
all_front P [] v h = All-nil P
all_front P (t ∷ u) v h = All-cons P t u (All-head P t (u ++ v) h) (all_front P u v (All-tail P t (u ++ v) h))

all_rest : (P : Word × ℕ → Type 0) (u v : Element) → All P (u ++ v) → All P v
all_rest P [] v h = h
all_rest P (t ∷ u) v h = all_rest P u v (All-tail P t (u ++ v) h)

pub splits : (p : ℕ) (u v : Element) → IsReduced Shortlex p (u ++ v) → IsSplit p u v
unfolding IsReduced
splits p [] v h = record { front = tt; rest = h; below = All-nil (λ (s : Word × ℕ). AllBefore Shortlex s.0 v) }
splits p (t ∷ u) v h = more (splits p u v h.3) (All_from_AllBefore Shortlex t.0 (u ++ v) h.2)
  where
    more : IsSplit p u v → All (λ s. Shortlex s.0 t.0) (u ++ v) → IsSplit p (t ∷ u) v
    more later under = record {
      front = (h.0, h.1, AllBefore_from_All Shortlex t.0 u (all_front (λ s. Shortlex s.0 t.0) u v under), later.front);
      rest = later.rest;
      below = All-cons (λ (s : Word × ℕ). AllBefore Shortlex s.0 v) t u (AllBefore_from_All Shortlex t.0 v (all_rest (λ s. Shortlex s.0 t.0) u v under)) later.below;
    }

-- the loop begins

merges_behind : (p : ℕ) (sum left right : Element) → IsSplit p sum left → IsSplit p sum right → IsMerging p sum left right (sum ++ (left ++ right))
merges_behind p sum left right a b = record {
  reduced = a.front;
  left = a.rest;
  right = b.rest;
  left_below = a.below;
  right_below = b.below;
  alike = λ k. refl;
  count = omega (arith, length-append sum (left ++ right), length-append left right);
}

pub begins_behind :
    (p : ℕ) (sum left right l r : List Term) → IsReduced Shortlex p (pairs sum ++ pairs left) → IsReduced Shortlex p (pairs sum ++ pairs right) → l ≡ reverse left → r ≡ reverse right
    → IsMerging p (pairs sum) (pairs (reverse l)) (pairs (reverse r)) (pairs sum ++ (pairs left ++ pairs right))
begins_behind p sum left right l r a b l_is r_is =
    rw (l_is, r_is, reverse-reverse left, reverse-reverse right) (merges_behind p (pairs sum) (pairs left) (pairs right) (splits p (pairs sum) (pairs left) a) (splits p (pairs sum) (pairs right) b))

-- the last term of a list is the first one of the reversed list

pub reversed_last : (xs front : List Term) (last : Term) → xs ≡ front ++ last ∷ [] → reverse xs ≡ last ∷ reverse front
reversed_last xs front last is = ap reverse is ∙ reverse-append front (last ∷ [])

pub reversed_none : (xs : List Term) → length xs ≡ 0 → reverse xs ≡ []
reversed_none [] none = refl
reversed_none (x ∷ xs) some = absurd (omega arith)

pub then_reversed : (sum pushed new front xs : List Term) (last : Term) → pushed ≡ sum ++ last ∷ [] → new ≡ pushed ++ reverse front → xs ≡ front ++ last ∷ [] → new ≡ sum ++ reverse xs
then_reversed sum pushed new front xs last pushed_is new_is is = rw (new_is, pushed_is, reversed_last xs front last is) (append_assoc sum (last ∷ []) (reverse front))

-- the steps, where what is left of each list is reversed
module _
    (p : ℕ) (sum lefts rights l r : List Term) (e : Element) (a b : Term) (left_is : lefts ≡ l ++ a ∷ []) (right_is : rights ≡ r ++ b ∷ [])
    (old : IsMerging p (pairs sum) (pairs (reverse lefts)) (pairs (reverse rights)) e) where
  first_left : reverse lefts ≡ a ∷ reverse l
  first_left = reversed_last lefts l a left_is

  first_right : reverse rights ≡ b ∷ reverse r
  first_right = reversed_last rights r b right_is

  pub moved_left_residue : a.coef < p
  moved_left_residue = left_residue p sum (reverse lefts) (reverse rights) (reverse l) (reverse r) e a b first_left first_right old

  pub moved_right_residue : b.coef < p
  moved_right_residue = right_residue p sum (reverse lefts) (reverse rights) (reverse l) (reverse r) e a b first_left first_right old

  -- the term that isn't moved is put back
  pub moved_left : (new back : List Term) → Shortlex b.word a.word → new ≡ sum ++ a ∷ [] → back ≡ r ++ b ∷ [] → IsMerging p (pairs new) (pairs (reverse l)) (pairs (reverse back)) e
  moved_left new back less new_is back_is =
      let P : List Term → Type 0 = λ u. IsMerging p (pairs new) (pairs (reverse l)) (pairs (reverse u)) e in
      subst P (right_is ∙ sym back_is)
      (push_left p sum (reverse lefts) (reverse rights) (reverse l) (reverse r) e a b first_left first_right old new a less refl new_is)

  pub moved_right : (new back : List Term) → Shortlex a.word b.word → new ≡ sum ++ b ∷ [] → back ≡ l ++ a ∷ [] → IsMerging p (pairs new) (pairs (reverse back)) (pairs (reverse r)) e
  moved_right new back less new_is back_is =
      let P : List Term → Type 0 = λ u. IsMerging p (pairs new) (pairs (reverse u)) (pairs (reverse r)) e in
      subst P (left_is ∙ sym back_is)
      (push_right p sum (reverse lefts) (reverse rights) (reverse l) (reverse r) e a b first_left first_right old new b less refl new_is)

  pub moved_both :
      (new : List Term) → a.word ≡ b.word → ((a.coef + b.coef) % p ≡ 0 → new ≡ sum)
      → (0 < (a.coef + b.coef) % p → pairs new ≡ pairs sum ++ (a.word, (a.coef + b.coef) % p) ∷ []) → IsMerging p (pairs new) (pairs (reverse l)) (pairs (reverse r)) e
  moved_both = push_both p sum (reverse lefts) (reverse rights) (reverse l) (reverse r) e a b first_left first_right old

-- one side is empty, and the other is moved

pub moved_right_alone : (p : ℕ) (sum new lefts rights : List Term) (e : Element) → length lefts ≡ 0 → new ≡ sum ++ reverse rights
    → IsMerging p (pairs sum) (pairs (reverse lefts)) (pairs (reverse rights)) e → IsReducedOf Shortlex same_word p (pairs new) e
moved_right_alone p sum new lefts rights e none new_is old = ends_left p sum new (reverse lefts) (reverse rights) e (reversed_none lefts none) new_is old

pub moved_left_alone :
    (p : ℕ) (sum pushed new lefts rights l : List Term) (e : Element) (a : Term) → length rights ≡ 0 → lefts ≡ l ++ a ∷ [] → pushed ≡ sum ++ a ∷ [] → new ≡ pushed ++ reverse l
    → IsMerging p (pairs sum) (pairs (reverse lefts)) (pairs (reverse rights)) e → IsReducedOf Shortlex same_word p (pairs new) e
moved_left_alone p sum pushed new lefts rights l e a none left_is pushed_is new_is old =
    ends_right p sum new (reverse lefts) (reverse rights) e (reversed_none rights none) (then_reversed sum pushed new l lefts a pushed_is new_is left_is) old

-- a search for the place of the first other term

before_higher : (v w : Word) (u : Word) → Shortlex v w → Shortlex u v → is_before u w ≡ true
before_higher v w u h k = test_before u w (shortlex_transitive u v w k h)

pub test_from_parts : (r : Bool) (v w : Word) → (r ≡ true → Shortlex v w) → (Shortlex v w → r ≡ true) → r ≡ is_before v w
test_from_parts true v w h k = sym (test_before v w (h refl))
test_from_parts false v w h k = cases (is_before v w) refl
  where
    cases : (b : Bool) → is_before v w ≡ b → false ≡ is_before v w
    cases true e = absurd (let f : false ≡ true = k (before_from_test v w e) in cc)
    cases false e = sym e

-- words fall
at_of_below : (word : Word) (xs : List Term) (j : ℕ) (d : Term) → AllBefore Shortlex word (pairs xs) → j < length xs → Shortlex (get_or xs j d).word word
unfolding AllBefore
at_of_below word [] j d below within = absurd (omega arith)
at_of_below word (x ∷ xs) zero d below within = below.0
at_of_below word (x ∷ xs) (suc j) d below within = at_of_below word xs j d below.1 (omega arith)

pub partitioned : (p : ℕ) (word : Word) (xs : List Term) → IsReduced Shortlex p (pairs xs) → IsPartitionedBy (λ (t : Term). is_before word t.word) xs
unfolding IsReduced
partitioned p word [] reduced i j d le within above = absurd (omega arith)
partitioned p word (x ∷ xs) reduced zero zero d le within above = above
partitioned p word (x ∷ xs) reduced zero (suc j) d le within above =
    before_higher (get_or xs j d).word x.word word (at_of_below x.word xs j d reduced.2 (omega arith)) (before_from_test word (get_or xs j d).word above)
partitioned p word (x ∷ xs) reduced (suc i) zero d le within above = absurd (omega arith)
partitioned p word (x ∷ xs) reduced (suc i) (suc j) d le within above = partitioned p word xs reduced.3 i j d (omega arith) (omega arith) above

-- the terms before that place are above all others
above_all : (p : ℕ) (first : Term) (others : List Term) (word : Word) → IsReduced Shortlex p (pairs (first ∷ others)) → Shortlex first.word word → AllBefore Shortlex word (pairs (first ∷ others))
unfolding IsReduced AllBefore
above_all p first others word reduced less = (less, AllBefore-higher (pairs others) first.word word less reduced.2)

pub front_above :
    (p n : ℕ) (first : Term) (others terms : List Term) → IsReduced Shortlex p (pairs (first ∷ others)) → ((k : ℕ) (d : Term) → k < n → k < length terms → is_before first.word (get_or terms k d).word ≡ true)
    → IsBelow (pairs (take n terms)) (pairs (first ∷ others))
front_above p zero first others [] reduced above = All-nil (λ (s : Word × ℕ). AllBefore Shortlex s.0 (pairs (first ∷ others)))
front_above p (suc n) first others [] reduced above = All-nil (λ (s : Word × ℕ). AllBefore Shortlex s.0 (pairs (first ∷ others)))
front_above p zero first others (t ∷ terms) reduced above = All-nil (λ (s : Word × ℕ). AllBefore Shortlex s.0 (pairs (first ∷ others)))
front_above p (suc n) first others (t ∷ terms) reduced above =
    All-cons (λ (s : Word × ℕ). AllBefore Shortlex s.0 (pairs (first ∷ others))) (t.word, t.coef) (pairs (take n terms))
    (above_all p first others t.word reduced (before_from_test first.word t.word (above 0 t (omega arith) (omega arith))))
    (front_above p n first others terms reduced (λ k d l m. above (suc k) d (omega arith) (omega arith)))

pub front_above_first :
    (p n : ℕ) (first : Term) (others terms : List Term) → IsReduced Shortlex p (pairs others) → Some first ≡ slice_get others 0
    → ((k : ℕ) (d : Term) → k < n → k < length terms → is_before first.word (get_or terms k d).word ≡ true) → IsBelow (pairs (take n terms)) (pairs others)
front_above_first p n first [] terms reduced is above = absurd cc
front_above_first p n first (t ∷ others) terms reduced is above =
    let same : t ≡ first = cc in
    front_above p n t others terms reduced (rw same above)

pub above_nothing : (u : Element) (others : List Term) → None ≡ slice_get others 0 → IsBelow u (pairs others)
unfolding AllBefore
above_nothing u [] none = λ k d l. tt
above_nothing u (t ∷ others) none = absurd cc

-- what the loop asks of the parts

halves : (n : ℕ) (terms : List Term) → pairs (take n terms) ++ pairs (drop n terms) ≡ pairs terms
halves n terms = sym (map-append (λ (t : Term). (t.word, t.coef)) (take n terms) (drop n terms)) ∙ ap pairs (take-append-drop n terms)

front_reduced : (p n : ℕ) (terms : List Term) → IsReduced Shortlex p (pairs terms) → IsReduced Shortlex p (pairs (take n terms))
front_reduced p n terms reduced =
    let P : Element → Type 0 = λ v. IsReduced Shortlex p v in
    (splits p (pairs (take n terms)) (pairs (drop n terms)) (subst P (sym (halves n terms)) reduced)).front

pub parts_behind : (p n : ℕ) (terms front rest : List Term) → IsReduced Shortlex p (pairs terms) → front ≡ take n terms → rest ≡ drop n terms → IsReduced Shortlex p (pairs front ++ pairs rest)
parts_behind p n terms front rest reduced front_is rest_is =
    let P : Element → Type 0 = λ v. IsReduced Shortlex p v in
    subst P (sym (ap₂ (λ u v. pairs u ++ pairs v) front_is rest_is ∙ halves n terms)) reduced

pub others_behind :
    (p n : ℕ) (terms front others : List Term) → IsReduced Shortlex p (pairs terms) → IsReduced Shortlex p (pairs others) → IsBelow (pairs (take n terms)) (pairs others) → front ≡ take n terms
    → IsReduced Shortlex p (pairs front ++ pairs others)
others_behind p n terms front others reduced right above front_is =
    let P : List Term → Type 0 = λ u. IsReduced Shortlex p (pairs u ++ pairs others) in
    subst P (sym front_is) (IsReduced-append p (pairs (take n terms)) (pairs others) (front_reduced p n terms reduced) right above)

pub whole_sum :
    (p n : ℕ) (new : Element) (terms front rest others : List Term) → front ≡ take n terms → rest ≡ drop n terms → IsReducedOf Shortlex same_word p new (pairs front ++ (pairs rest ++ pairs others))
    → IsReducedOf Shortlex same_word p new (pairs terms ++ pairs others)
whole_sum p n new terms front rest others front_is rest_is sum =
    let P : Element → Type 0 = λ e. IsReducedOf Shortlex same_word p new e in
    subst P (sym (append_assoc (pairs front) (pairs rest) (pairs others)) ∙ ap (λ u. u ++ pairs others) (ap₂ (λ u v. pairs u ++ pairs v) front_is rest_is ∙ halves n terms)) sum
