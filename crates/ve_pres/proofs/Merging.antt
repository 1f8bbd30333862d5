-- What a merge of two falling lists of terms keeps true from term to term.
use Rattle.std.proofs.Common.{◌≡◌, ℕ, ◌+◌, ◌%◌, ◌<◌, ◌≤◌, Bool, true, false, cond, [], ◌∷◌, ◌++◌, length, All, refl, sym, ap, ◌∙◌, append_assoc, append-nil, length-append, arith}
use Rattle.std.proofs.Math.Nat.{mod-mod}
use Rattle.std.proofs.lemmas.List.Elements.{All-nil, All-cons, All-head, All-tail, All-append}
use Rattle.ve_theory.specs.Residues.{Congruent}
use Rattle.ve_theory.specs.Combinations.{coefficient, Alike, AllBefore, IsReduced, IsReducedOf}
use Rattle.ve_theory.specs.Words.{Word, same_word, Shortlex}
use Rattle.ve_theory.specs.Elements.{Element}
use Rattle.ve_lemmas.proofs.Sums.{All_from_AllBefore, AllBefore_from_All, coefficient-append}
use Rattle.ve_lemmas.proofs.Residues.{congruent-add}
use Rattle.ve_pres.proofs.Orders.{shortlex_transitive}
use Rattle.ve_pres.proofs.Sums.{Alike-append}
use Rattle.ve_pres.proofs.Reduced.{IsReduced-push}

-- the words of v are before all words of the sum
abbrev pub IsBelow : Element → Element → Type 0
IsBelow sum v = All (λ s. AllBefore Shortlex s.0 v) sum

-- `sum` holds the greater terms, u and v are what stands on the left and on the right, and e is the sum of all
pub record IsMerging (p : ℕ) (sum u v e : Element) : Type 0 where
  pub reduced : IsReduced Shortlex p sum
  pub left : IsReduced Shortlex p u
  pub right : IsReduced Shortlex p v
  pub left_below : IsBelow sum u
  pub right_below : IsBelow sum v
  pub alike : Alike same_word p (sum ++ (u ++ v)) e
  pub count : length sum + (length u + length v) ≤ length e

-- u and v give the term t, which is the greatest, and l and r stay
pub record IsNext (p : ℕ) (u v : Element) (t : Word × ℕ) (l r : Element) : Type 0 where
  pub positive : 0 < t.1
  pub residue : t.1 < p
  pub left : AllBefore Shortlex t.0 l × IsReduced Shortlex p l
  pub right : AllBefore Shortlex t.0 r × IsReduced Shortlex p r
  pub alike : Alike same_word p (t ∷ (l ++ r)) (u ++ v)
  pub below : (k : Word) → AllBefore Shortlex k u → AllBefore Shortlex k v → Shortlex t.0 k × (AllBefore Shortlex k l × AllBefore Shortlex k r)
  pub count : length l + length r < length u + length v

pub AllBefore-higher : (v : Element) (j k : Word) → Shortlex j k → AllBefore Shortlex j v → AllBefore Shortlex k v
unfolding AllBefore
AllBefore-higher [] j k less below = tt
AllBefore-higher (t ∷ v) j k less below = (shortlex_transitive t.0 j k below.0 less, AllBefore-higher v j k less below.1)

pub merging_begins : (p : ℕ) (left right : Element) → IsReduced Shortlex p left → IsReduced Shortlex p right → IsMerging p [] left right (left ++ right)
unfolding IsReduced
merging_begins p left right l r = record {
  reduced = tt;
  left = l;
  right = r;
  left_below = All-nil (λ (s : Word × ℕ). AllBefore Shortlex s.0 left);
  right_below = All-nil (λ (s : Word × ℕ). AllBefore Shortlex s.0 right);
  alike = λ k. refl;
  count = omega (arith, length-append left right);
}

pub merging_goes_on : (p : ℕ) (sum left right l r e : Element) (t : Word × ℕ) → IsMerging p sum left right e → IsNext p left right t l r → IsMerging p (sum ++ t ∷ []) l r e
merging_goes_on p sum left right l r e t old next = record {
  reduced = IsReduced-push Shortlex p sum t old.reduced (λ k d h. (parts k d h).0) next.positive next.residue;
  left = next.left.1;
  right = next.right.1;
  left_below = All-append (λ (s : Word × ℕ). AllBefore Shortlex s.0 l) sum (t ∷ []) (λ k d h. (parts k d h).1.0)
      (All-cons (λ (s : Word × ℕ). AllBefore Shortlex s.0 l) t [] next.left.0 (All-nil (λ (s : Word × ℕ). AllBefore Shortlex s.0 l)));
  right_below = All-append (λ (s : Word × ℕ). AllBefore Shortlex s.0 r) sum (t ∷ []) (λ k d h. (parts k d h).1.1)
      (All-cons (λ (s : Word × ℕ). AllBefore Shortlex s.0 r) t [] next.right.0 (All-nil (λ (s : Word × ℕ). AllBefore Shortlex s.0 r)));
  alike = λ k. ap (λ v. coefficient same_word v k % p) (append_assoc sum (t ∷ []) (l ++ r))
      ∙ (Alike-append same_word p sum sum (t ∷ (l ++ r)) (left ++ right) (λ k. refl) next.alike k ∙ old.alike k);
  count = omega (arith, length-append sum (t ∷ []), next.count, old.count);
}
  where
    parts : All (λ s. Shortlex t.0 s.0 × (AllBefore Shortlex s.0 l × AllBefore Shortlex s.0 r)) sum
    parts k d h = next.below _ (old.left_below k d h) (old.right_below k d h)

-- the first word of the left is the greater one
pub left_next : (p : ℕ) (l r : Element) (a b : Word × ℕ) → IsReduced Shortlex p (a ∷ l) → IsReduced Shortlex p (b ∷ r) → Shortlex b.0 a.0 → IsNext p (a ∷ l) (b ∷ r) a l (b ∷ r)
unfolding IsReduced AllBefore
left_next p l r a b left right less = record {
  positive = left.0;
  residue = left.1;
  left = (left.2, left.3);
  right = ((less, AllBefore-higher r b.0 a.0 less right.2), right);
  alike = λ k. refl;
  below = λ k h i. (h.0, (h.1, i));
  count = omega arith;
}

-- the first word of the right is the greater one
pub right_next : (p : ℕ) (l r : Element) (a b : Word × ℕ) → IsReduced Shortlex p (a ∷ l) → IsReduced Shortlex p (b ∷ r) → Shortlex a.0 b.0 → IsNext p (a ∷ l) (b ∷ r) b (a ∷ l) r
unfolding IsReduced AllBefore coefficient
right_next p l r a b left right less = record {
  positive = right.0;
  residue = right.1;
  left = ((less, AllBefore-higher l a.0 b.0 less left.2), left);
  right = (right.2, right.3);
  alike = λ k. ap (λ n. n % p) (omega (arith, coefficient-append same_word l r k, coefficient-append same_word l (b ∷ r) k));
  below = λ k h i. (i.0, (h, i.1));
  count = omega arith;
}

-- both have the same first word, and `coef` is the sum of its coefficients
both_alike : (p coef : ℕ) (l r : Element) (a b : Word × ℕ) → a.0 ≡ b.0 → coef ≡ (a.1 + b.1) % p → Alike same_word p ((a.0, coef) ∷ (l ++ r)) ((a ∷ l) ++ (b ∷ r))
unfolding coefficient
both_alike p coef l r a b same is k =
    congruent-add p (cond (same_word a.0 k) coef 0) (cond (same_word a.0 k) a.1 0 + cond (same_word a.0 k) b.1 0) (coefficient same_word (l ++ r) k) (coefficient same_word (l ++ r) k) (here (same_word a.0 k)) refl
    ∙ ap (λ n. n % p)
    (let e : cond (same_word a.0 k) b.1 0 ≡ cond (same_word b.0 k) b.1 0 = ap (λ w. cond (same_word w k) b.1 0) same in
    omega (arith, coefficient-append same_word l r k, coefficient-append same_word l (b ∷ r) k))
  where
    here : (q : Bool) → Congruent p (cond q coef 0) (cond q a.1 0 + cond q b.1 0)
    here true = ap (λ n. n % p) is ∙ mod-mod (a.1 + b.1) p
    here false = refl

pub both_next : (p coef : ℕ) (l r : Element) (a b : Word × ℕ) → IsReduced Shortlex p (a ∷ l) → IsReduced Shortlex p (b ∷ r) → a.0 ≡ b.0 → coef ≡ (a.1 + b.1) % p → 0 < coef → coef < p
    → IsNext p (a ∷ l) (b ∷ r) (a.0, coef) l r
unfolding IsReduced AllBefore
both_next p coef l r a b left right same is positive residue = record {
  positive = positive;
  residue = residue;
  left = (left.2, left.3);
  right = (rw same right.2, right.3);
  alike = both_alike p coef l r a b same is;
  below = λ k h i. (h.0, (h.1, i.1));
  count = omega arith;
}

-- both have the same first word, whose coefficients cancel
pub merging_cancels : (p coef : ℕ) (sum l r e : Element) (a b : Word × ℕ) → IsMerging p sum (a ∷ l) (b ∷ r) e → a.0 ≡ b.0 → coef ≡ (a.1 + b.1) % p → coef ≡ 0 → IsMerging p sum l r e
unfolding IsReduced AllBefore coefficient
merging_cancels p coef sum l r e a b old same is zero = record {
  reduced = old.reduced;
  left = old.left.3;
  right = old.right.3;
  left_below = λ k d h. (old.left_below k d h).1;
  right_below = λ k d h. (old.right_below k d h).1;
  alike = λ k. Alike-append same_word p sum sum (l ++ r) ((a ∷ l) ++ (b ∷ r)) (λ k. refl) vanishes k ∙ old.alike k;
  count = omega (arith, old.count);
}
  where
    none : (q : Bool) → cond q coef 0 ≡ 0
    none true = zero
    none false = refl

    vanishes : Alike same_word p (l ++ r) ((a ∷ l) ++ (b ∷ r))
    vanishes k = ap (λ n. n % p) (omega (arith, none (same_word a.0 k))) ∙ both_alike p coef l r a b same is k

-- nothing is left on one side, and the other side follows

pub IsReduced-append : (p : ℕ) (u v : Element) → IsReduced Shortlex p u → IsReduced Shortlex p v → IsBelow u v → IsReduced Shortlex p (u ++ v)
unfolding IsReduced
IsReduced-append p [] v left right below = right
IsReduced-append p (t ∷ u) v left right below = (
  left.0,
  left.1,
  AllBefore_from_All Shortlex t.0 (u ++ v) (All-append (λ (s : Word × ℕ). Shortlex s.0 t.0) u v (All_from_AllBefore Shortlex t.0 u left.2)
      (All_from_AllBefore Shortlex t.0 v (All-head (λ (s : Word × ℕ). AllBefore Shortlex s.0 v) t u below))),
  IsReduced-append p u v left.3 right (All-tail (λ (s : Word × ℕ). AllBefore Shortlex s.0 v) t u below),
)

pub ends_with_right : (p : ℕ) (sum right e : Element) → IsMerging p sum [] right e → IsReducedOf Shortlex same_word p (sum ++ right) e
ends_with_right p sum right e old = record { reduced = IsReduced-append p sum right old.reduced old.right old.right_below; alike = old.alike }

pub ends_with_left : (p : ℕ) (sum left e : Element) → IsMerging p sum left [] e → IsReducedOf Shortlex same_word p (sum ++ left) e
ends_with_left p sum left e old = record {
  reduced = IsReduced-append p sum left old.reduced old.left old.left_below;
  alike = λ k. ap (λ v. coefficient same_word (sum ++ v) k % p) (sym (append-nil left)) ∙ old.alike k;
}
