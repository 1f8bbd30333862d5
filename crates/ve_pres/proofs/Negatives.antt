-- Elements whose coefficients are replaced by their negatives.
use Rattle.std.proofs.Common.{◌≡◌, ℕ, zero, suc, ◌+◌, ◌-◌, ◌*◌, ◌%◌, ◌<◌, ◌≤◌, Bool, true, false, cond, List, [], ◌∷◌, ◌++◌, All, get_or, length, map, take, drop, refl, sym, ap, ◌∙◌, subst, arith}
use Rattle.std.proofs.Math.ListN.{set}
use Rattle.std.proofs.Math.Nat.{mod-mod, mod-eq_of_lt}
use Rattle.std.proofs.lemmas.List.Elements.{All-head, All-tail}
use Rattle.ve_theory.specs.Residues.{Congruent}
use Rattle.ve_theory.specs.Combinations.{Alike, AllBefore, IsReduced, coefficient, scaled}
use Rattle.ve_theory.specs.Words.{Shortlex, Word, same_word, word_length}
use Rattle.ve_theory.specs.Elements.{Element, IsElementOf}
use Rattle.ve_theory.specs.Validity.{most_length}
use Rattle.ve_theory.proofs.Independence.{congruent_by}
use Rattle.ve_lemmas.proofs.InPlace.{get_or-unmapped, map_next, map_whole}
use Rattle.ve_lemmas.proofs.Residues.{congruent-add}
use Rattle.ve_lemmas.proofs.Sums.{All-scaled}
use Rattle.ve_pres.specs.declared.term.Term.{Term}
use Rattle.ve_pres.specs.Terms.{IsKept, negatives, pairs}
use Rattle.ve_pres.proofs.Gatherings.{coefs_of_pairs}
use Rattle.ve_pres.proofs.Reduced.{residues_of_reduced, words_of_sum}

negative_residue : (p c : ℕ) → c < p → Congruent p ((p - c) % p) ((p - 1) * c)
negative_residue zero c below = absurd (omega (arith, below))
negative_residue (suc m) c below =
    let step : suc m - 1 ≡ m = omega arith in
    mod-mod (suc m - c) (suc m) ∙ (congruent_by (suc m) (suc m - c) (m * c) c 1 (omega (arith, below)) ∙ ap (λ n. (n * c) % suc m) (sym step))

negatives-alike : (p : ℕ) (v : Element) → All (λ t. (0 < t.1) × (t.1 < p)) v → Alike same_word p (negatives p v) (scaled (p - 1) v)
unfolding coefficient scaled
negatives-alike p [] residues k = refl
negatives-alike p (t ∷ v) residues k =
    congruent-add p (cond (same_word t.0 k) ((p - t.1) % p) 0) (cond (same_word t.0 k) ((p - 1) * t.1) 0)
    (coefficient same_word (negatives p v) k) (coefficient same_word (scaled (p - 1) v) k) (here (same_word t.0 k))
    (negatives-alike p v (All-tail (λ (s : Word × ℕ). (0 < s.1) × (s.1 < p)) t v residues) k)
  where
    here : (b : Bool) → Congruent p (cond b ((p - t.1) % p) 0) (cond b ((p - 1) * t.1) 0)
    here true = negative_residue p t.1 (All-head (λ (s : Word × ℕ). (0 < s.1) × (s.1 < p)) t v residues).1
    here false = refl

AllBefore-negatives : (p : ℕ) (k : Word) (v : Element) → AllBefore Shortlex k v → AllBefore Shortlex k (negatives p v)
unfolding AllBefore
AllBefore-negatives p k [] below = tt
AllBefore-negatives p k (t ∷ v) below = (below.0, AllBefore-negatives p k v below.1)

negatives-reduced : (p : ℕ) (v : Element) → IsReduced Shortlex p v → IsReduced Shortlex p (negatives p v)
unfolding IsReduced
negatives-reduced p [] reduced = tt
negatives-reduced p (t ∷ v) reduced =
    let same : (p - t.1) % p ≡ p - t.1 = mod-eq_of_lt (omega (arith, reduced.0, reduced.1)) in
    (omega (arith, same, reduced.1), omega (arith, same, reduced.0, reduced.1), AllBefore-negatives p t.0 v reduced.2, negatives-reduced p v reduced.3)

-- they make the negative
pub negative_of : (p : ℕ) (w v : Element) → w ≡ negatives p v → IsReduced Shortlex p v → IsElementOf p w (scaled (p - 1) v)
negative_of p w v shown reduced =
    let P : Element → Type 0 = λ u. IsElementOf p u (scaled (p - 1) v) in
    subst P (sym shown) (record {
      reduced = negatives-reduced p v reduced;
      alike = negatives-alike p v (residues_of_reduced Shortlex p v reduced);
    })

length-negatives : (p : ℕ) (v : Element) → length (negatives p v) ≡ length v
length-negatives p [] = refl
length-negatives p (t ∷ v) = omega (arith, length-negatives p v)

pub negative_kept : (p : ℕ) (w v : Element) → w ≡ negatives p v → IsReduced Shortlex p v → IsKept v → IsKept w
negative_kept p w v shown reduced kept =
    let negative : IsElementOf p w (scaled (p - 1) v) = negative_of p w v shown reduced in record {
      bound = p;
      reduced = negative.reduced;
      terms = omega (arith, ap length shown, length-negatives p v, kept.terms);
      lengths = words_of_sum (λ x. word_length x ≤ most_length) p w (scaled (p - 1) v) negative (All-scaled (λ x. word_length x ≤ most_length) (p - 1) v kept.lengths);
    }

-- the terms have residues
pub residues_kept : (p : ℕ) (v : Element) (xs ws : List Term) → pairs xs ≡ v → ws ≡ xs → IsReduced Shortlex p v → All (λ t. t.1 < p) (pairs ws)
residues_kept p v xs ws shown same reduced =
    let P : Element → Type 0 = λ u. All (λ (t : Word × ℕ). t.1 < p) u in
    subst P (sym (ap pairs same ∙ shown)) (λ k d within. (residues_of_reduced Shortlex p v reduced k d within).1)

-- in place

abbrev pub negative_term : ℕ → Term → Term
negative_term p t = record { word = t.word; coef = (p - t.coef) % p }

-- the terms before a place have their negatives
abbrev pub negated_to : ℕ → ℕ → List Term → List Term
negated_to p i xs = map (negative_term p) (take i xs) ++ drop i xs

pub residue_here : (p : ℕ) (xs ys : List Term) (i : ℕ) (d : Term) → i < length xs → ys ≡ negated_to p i xs → All (λ t. t.1 < p) (pairs xs) → (get_or ys i d).coef < p
residue_here p xs ys i d inside ys_are residues =
    let same : get_or ys i d ≡ get_or xs i d = ap (λ l. get_or l i d) ys_are ∙ get_or-unmapped (negative_term p) xs i d in
    let P : Term → Type 0 = λ t. t.coef < p in
    subst P (sym same) (coefs_of_pairs p xs residues i d inside)

pub negated_next : (p : ℕ) (xs ys : List Term) (i : ℕ) (d : Term) (c : ℕ) → i < length xs → i < length ys → ys ≡ negated_to p i xs → c ≡ (p - (get_or ys i d).coef) % p
    → set ys i (record { word = (get_or ys i d).word; coef = c }) ≡ negated_to p (i + 1) xs
negated_next p xs ys i d c inside within ys_are c_is =
    map_next (negative_term p) xs ys i d _ inside within ys_are (ap (λ n. record { word = (get_or ys i d).word; coef = n }) c_is)

pairs-negatives : (p : ℕ) (xs : List Term) → pairs (map (negative_term p) xs) ≡ negatives p (pairs xs)
pairs-negatives p [] = refl
pairs-negatives p (t ∷ xs) = ap (λ l. (t.word, (p - t.coef) % p) ∷ l) (pairs-negatives p xs)

pub negated_whole : (p : ℕ) (xs ys : List Term) (i : ℕ) → length xs ≤ i → ys ≡ negated_to p i xs → pairs ys ≡ negatives p (pairs xs)
negated_whole p xs ys i past ys_are = ap pairs (map_whole (negative_term p) xs ys i past ys_are) ∙ pairs-negatives p xs
