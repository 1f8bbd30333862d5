-- Elements within the limits.
use Rattle.std.proofs.Common.{◌≡◌, ℕ, ◌+◌, ◌*◌, ◌%◌, ◌<◌, ◌≤◌, List, [], ◌∷◌, ◌++◌, length, get_or, take, All, Some, None, slice_get, refl, sym, ap, ap₂, ◌∙◌, subst, arith}
use Rattle.std.proofs.Math.Seq.{take-length}
use Rattle.std.proofs.lemmas.List.Elements.{All-nil, All-cons, All-head, All-append, All-weaker}
use Rattle.ve_theory.specs.Combinations.{Combination, scaled, unit, coefficient, Alike, AllBefore, IsReduced}
use Rattle.ve_theory.specs.Words.{Word, word_length, same_word, Shortlex, ShortlexLetters}
use Rattle.ve_theory.specs.Elements.{Element, AlgebraElement, IsElementOf, element_times, element_length, algebra_length, greatest}
use Rattle.ve_theory.specs.Validity.{most_length, most_terms}
use Rattle.ve_lemmas.proofs.Products.{length-element_times, length-scaled}
use Rattle.ve_lemmas.proofs.Sums.{All-scaled}
use Rattle.ve_pres.specs.declared.term.Term.{Term}
use Rattle.ve_pres.specs.Terms.{pairs, residues, IsKept, IsSummable}
use Rattle.ve_pres.proofs.Sums.{Alike-residues}
use Rattle.ve_pres.proofs.Reduced.{words_of_sum, residues_of_reduced}
use Rattle.ve_pres.proofs.Gatherings.{coefs_of_pairs}
use Rattle.ve_pres.proofs.Products.{residues_below, residues_keep, element_times-zero, times_lengths, longest_first}

pub kept_zero : (terms : List Term) → terms ≡ [] → IsKept (pairs terms)
unfolding IsReduced
kept_zero terms none =
    let P : List Term → Type 0 = λ u. IsKept (pairs u) in
    subst P (sym none) (record { bound = 0; reduced = tt; terms = omega arith; lengths = All-nil (λ (t : Word × ℕ). word_length t.0 ≤ most_length) })

-- one term
pub one_term : (word : Word) (terms before : List Term) (new : Term) → terms ≡ before ++ new ∷ [] → before ≡ [] → new.word ≡ word → new.coef ≡ 1 → pairs terms ≡ unit word
one_term w terms before new is none word coef = ap pairs (is ∙ ap (λ u. u ++ new ∷ []) none) ∙ ap₂ (λ w c. (w, c) ∷ []) word coef

pub kept_word : (word : Word) (terms before : List Term) (new : Term) → word_length word ≤ most_length → terms ≡ before ++ new ∷ [] → before ≡ [] → new.word ≡ word → new.coef ≡ 1 → IsKept (pairs terms)
unfolding IsReduced AllBefore
kept_word w terms before new short is none word coef =
    let P : Element → Type 0 = λ v. IsKept v in
    subst P (sym (one_term w terms before new is none word coef)) (record {
      bound = 2;
      reduced = (omega arith, omega arith, tt, tt);
      terms = omega arith;
      lengths = All-cons (λ (t : Word × ℕ). word_length t.0 ≤ most_length) (w, 1) [] short (All-nil (λ (t : Word × ℕ). word_length t.0 ≤ most_length));
    })

pub length-pairs : (terms : List Term) → length (pairs terms) ≡ length terms
length-pairs [] = refl
length-pairs (t ∷ terms) = omega (arith, length-pairs terms)

pub length-residues : {K : Type 0} (p : ℕ) (v : Combination K) → length (residues p v) ≡ length v
length-residues p [] = refl
length-residues p (t ∷ v) = omega (arith, length-residues p v)

-- the terms of an element, with residues as coefficients
pub summable_residues : (p : ℕ) (terms : List Term) (e : Element) → 0 < p → pairs terms ≡ residues p e → All (λ t. word_length t.0 ≤ most_length) e → length e ≤ most_terms → IsSummable p (pairs terms)
summable_residues p terms e positive shown lengths count = record {
  residues = let P : Element → Type 0 = λ v. All (λ (t : Word × ℕ). t.1 < p) v in subst P (sym shown) (residues_below p e positive);
  lengths = let P : Element → Type 0 = λ v. All (λ (t : Word × ℕ). word_length t.0 ≤ most_length) v in subst P (sym shown) (residues_keep (λ w. word_length w ≤ most_length) p e lengths);
  terms =
      let b : length (residues p e) ≡ length e = length-residues p e in
      omega (arith, ap length shown);
}

pub kept_sum : (p : ℕ) (terms kept : List Term) → IsSummable p (pairs terms) → IsElementOf p (pairs kept) (pairs terms) → length kept ≤ length terms → IsKept (pairs kept)
kept_sum p terms kept summable sum count = record {
  bound = p;
  reduced = sum.reduced;
  terms =
      let a : length (pairs kept) ≡ length kept = length-pairs kept in
      let b : length (pairs terms) ≡ length terms = length-pairs terms in
      omega (arith, summable.terms);
  lengths = words_of_sum (λ w. word_length w ≤ most_length) p (pairs kept) (pairs terms) sum summable.lengths;
}

-- the sum of the terms of an element is the element
pub sum_of_residues : (p : ℕ) (v : Element) (terms : List Term) (e : Element) → pairs terms ≡ residues p e → IsElementOf p v (pairs terms) → IsElementOf p v e
sum_of_residues p v terms e shown sum = record {
  reduced = sum.reduced;
  alike = λ k. sum.alike k ∙ (ap (λ u. coefficient same_word u k % p) shown ∙ Alike-residues same_word p e k);
}

-- an element that is alike to another sum
pub sum_of_alike : (p : ℕ) (v e f : Element) → Alike same_word p e f → IsElementOf p v e → IsElementOf p v f
sum_of_alike p v e f alike sum = record { reduced = sum.reduced; alike = λ k. sum.alike k ∙ alike k }

-- a field's elements
pub positive_residue : (n p : ℕ) → n < p → 0 < p
positive_residue n p h = omega arith

-- a list that was empty at first
pub from_empty : (v more : Element) (begun : List Term) → v ≡ pairs begun ++ more → begun ≡ [] → v ≡ more
from_empty v more begun is none = is ∙ ap (λ u. pairs u ++ more) none

pub kept_view : (v : Element) (items : List Term) → IsKept (pairs items) → pairs items ≡ v → IsKept v
kept_view v items kept shown = let P : Element → Type 0 = λ u. IsKept u in subst P shown kept

-- the length of a list's element
pub length_of_first : (v : Element) (items : List Term) (first : Term) → IsKept (pairs items) → pairs items ≡ v → slice_get items 0 ≡ Some first
    → (word_length first.word ≡ element_length v) × (word_length first.word ≤ most_length)
length_of_first v [] first kept shown is = absurd cc
length_of_first v (t ∷ items) first kept shown is =
    let same : t ≡ first = cc in
    let longest : element_length (pairs (t ∷ items)) ≡ word_length t.word = longest_first kept.bound (t.word, t.coef) (pairs items) kept.reduced in
    let whole : element_length (pairs (t ∷ items)) ≡ element_length v = ap element_length shown in
    let first_length : word_length t.word ≡ word_length first.word = ap (λ (u : Term). word_length u.word) same in
    let short : word_length t.word ≤ most_length = All-head (λ (u : Word × ℕ). word_length u.0 ≤ most_length) (t.word, t.coef) (pairs items) kept.lengths in
    (omega arith, omega arith)

pub length_of_none : (v : Element) (items : List Term) → pairs items ≡ v → slice_get items 0 ≡ None → 0 ≡ element_length v
unfolding greatest
length_of_none v [] shown none = ap element_length shown
length_of_none v (t ∷ items) shown none = absurd cc

-- scaling

pub summable_scaling : (p by : ℕ) (terms : List Term) (v : Element) → by < p → IsKept v → pairs terms ≡ residues p (scaled by v) → IsSummable p (pairs terms)
summable_scaling p by terms v residue kept shown =
    summable_residues p terms (scaled by v) (positive_residue by p residue) shown
    (All-scaled (λ w. word_length w ≤ most_length) by v kept.lengths)
    (let e : length (scaled by v) ≡ length v = length-scaled by v in omega (arith, kept.terms))

-- sums

pub sum_of_views : (p : ℕ) (kept : Element) (left right : List Term) (u v : Element) → pairs left ≡ u → pairs right ≡ v → IsElementOf p kept (pairs left ++ pairs right) → IsElementOf p kept (u ++ v)
sum_of_views p kept left right u v a b sum = let P : Element → Type 0 = λ e. IsElementOf p kept e in subst P (ap₂ (λ x y. x ++ y) a b) sum

pub kept_merge :
    (p : ℕ) (kept left right : List Term) (u v : Element) → pairs left ≡ u → pairs right ≡ v → IsKept u → IsKept v → length u + length v ≤ most_terms
    → IsElementOf p (pairs kept) (pairs left ++ pairs right) → length kept ≤ length left + length right → IsKept (pairs kept)
kept_merge p kept left right u v a b first second few sum count = record {
  bound = p;
  reduced = sum.reduced;
  terms =
      let i : length (pairs kept) ≡ length kept = length-pairs kept in
      let j : length left ≡ length u = sym (length-pairs left) ∙ ap length a in
      let k : length right ≡ length v = sym (length-pairs right) ∙ ap length b in
      omega arith;
  lengths = words_of_sum (λ w. word_length w ≤ most_length) p (pairs kept) (u ++ v) (sum_of_views p (pairs kept) left right u v a b sum)
      (All-append (λ (t : Word × ℕ). word_length t.0 ≤ most_length) u v first.lengths second.lengths);
}

-- products

pub summable_product : (p : ℕ) (terms : List Term) (v : Element) (r : AlgebraElement) → IsReduced Shortlex p v → length v * length r ≤ most_terms
    → (0 < length v * length r → element_length v + algebra_length r ≤ most_length) → pairs terms ≡ residues p (element_times v r) → IsSummable p (pairs terms)
unfolding IsReduced element_times
summable_product p terms [] r reduced count lengths shown =
    let P : Element → Type 0 = λ u. IsSummable p u in
    subst P (sym shown) (record { residues = All-nil (λ (t : Word × ℕ). t.1 < p); lengths = All-nil (λ (t : Word × ℕ). word_length t.0 ≤ most_length); terms = omega arith })
summable_product p terms (t ∷ v) [] reduced count lengths shown =
    summable_residues p terms (element_times (t ∷ v) []) (positive_residue t.1 p reduced.1) shown
    (let P : Element → Type 0 = λ u. All (λ (s : Word × ℕ). word_length s.0 ≤ most_length) u in subst P (sym (element_times-zero (t ∷ v))) (All-nil (λ (s : Word × ℕ). word_length s.0 ≤ most_length)))
    (let e : length (element_times (t ∷ v) []) ≡ length (t ∷ v) * length {A = List ℕ × ℕ} [] = length-element_times (t ∷ v) [] in omega arith)
summable_product p terms (t ∷ v) (s ∷ r) reduced count lengths shown =
    let some : 0 < length (t ∷ v) * length (s ∷ r) = omega arith in
    let room : element_length (t ∷ v) + algebra_length (s ∷ r) ≤ most_length = lengths some in
    summable_residues p terms (element_times (t ∷ v) (s ∷ r)) (positive_residue t.1 p reduced.1) shown
    (All-weaker (λ (u : Word × ℕ). word_length u.0 ≤ element_length (t ∷ v) + algebra_length (s ∷ r)) (λ (u : Word × ℕ). word_length u.0 ≤ most_length) (λ u h. omega arith)
    (element_times (t ∷ v) (s ∷ r)) (times_lengths (t ∷ v) (s ∷ r)))
    (let e : length (element_times (t ∷ v) (s ∷ r)) ≡ length (t ∷ v) * length (s ∷ r) = length-element_times (t ∷ v) (s ∷ r) in omega arith)

-- the terms in a list

pub residue_of_item :
    (p i : ℕ) (v : Element) (items : List Term) (term : Term) → IsReduced Shortlex p v → pairs items ≡ v → i < length items → term ≡ get_or items i term → term.coef < p
residue_of_item p i v items term reduced shown below is =
    let P : Element → Type 0 = λ u. IsReduced Shortlex p u in
    let all : All (λ t. (0 < t.1) × (t.1 < p)) (pairs items) = residues_of_reduced Shortlex p (pairs items) (subst P (sym shown) reduced) in
    let coefs : All (λ (t : Term). t.coef < p) items =
    coefs_of_pairs p items (All-weaker (λ (t : Word × ℕ). (0 < t.1) × (t.1 < p)) (λ (t : Word × ℕ). t.1 < p) (λ t h. h.1) (pairs items) all) in
    let Q : Term → Type 0 = λ t. t.coef < p in
    subst Q (sym is) (coefs i term below)

-- the terms of an element of the algebra
pub residue_of_term : (p i : ℕ) (r : AlgebraElement) → IsReduced ShortlexLetters p r → i < length r → (get_or r i ([], 0)).1 < p
residue_of_term p i r reduced below = (residues_of_reduced ShortlexLetters p r reduced i ([], 0) below).1

-- a product whose terms are all pushed
pub whole_product :
    (p i : ℕ) (v : Element) (r : AlgebraElement) (items terms : List Term) → pairs terms ≡ residues p (element_times (pairs (take i items)) r)
    → i ≡ length items → pairs items ≡ v → pairs terms ≡ residues p (element_times v r)
whole_product p i v r items terms shown all is =
    shown ∙ ap (λ u. residues p (element_times u r)) (ap pairs (ap (λ n. take n items) all ∙ take-length items) ∙ is)
