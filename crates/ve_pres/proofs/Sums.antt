-- Formal sums: coefficients, residues, sums in another order.
use Rattle.std.proofs.Common.{◌≡◌, ℕ, ◌+◌, ◌%◌, Bool, true, false, cond, List, [], ◌∷◌, ◌++◌, refl, sym, ap, ◌∙◌, arith}
use Rattle.std.proofs.Math.Nat.{mod-mod}
use Rattle.std.specs.List.{sum_by}
use Rattle.std.specs.List.Sorted.{IsPermutation}
use Rattle.std.proofs.lemmas.List.Sums.{sum_by-cons}
use Rattle.std.proofs.lemmas.List.Sorted.{sum_by-IsPermutation, IsPermutation-map}
use Rattle.ve_theory.specs.Residues.{Congruent}
use Rattle.ve_theory.specs.Combinations.{Combination, coefficient, Alike}
use Rattle.ve_theory.specs.Words.{Word, same_word}
use Rattle.ve_theory.specs.Elements.{Element}
use Rattle.ve_lemmas.proofs.Residues.{congruent-add}
use Rattle.ve_lemmas.proofs.Sums.{coefficient-append}
use Rattle.ve_pres.specs.declared.term.Term.{Term}
use Rattle.ve_pres.specs.Terms.{pairs, residues}

coefficient-sum_by : (v : Element) (k : Word) → coefficient same_word v k ≡ sum_by (λ t. cond (same_word t.0 k) t.1 0) v
unfolding coefficient
coefficient-sum_by [] k = refl
coefficient-sum_by (t ∷ v) k =
    ap (λ n. cond (same_word t.0 k) t.1 0 + n) (coefficient-sum_by v k) ∙ sym (sum_by-cons (λ (s : Word × ℕ). cond (same_word s.0 k) s.1 0) t v)

-- a sum that is the same up to order
pub Alike-permutation : (p : ℕ) (terms others : List Term) → IsPermutation terms others → Alike same_word p (pairs others) (pairs terms)
Alike-permutation p terms others moved =
    λ k. ap (λ n. n % p)
    (coefficient-sum_by (pairs others) k
    ∙ (sum_by-IsPermutation (λ t. cond (same_word t.0 k) t.1 0) (pairs terms) (pairs others) (IsPermutation-map (λ (t : Term). (t.word, t.coef)) terms others moved)
    ∙ sym (coefficient-sum_by (pairs terms) k)))

-- sums of alike parts
pub Alike-append : {K : Type 0} (same : K → K → Bool) (p : ℕ) (u v r s : Combination K) → Alike same p u v → Alike same p r s → Alike same p (u ++ r) (v ++ s)
Alike-append same p u v r s e f =
    λ k. ap (λ n. n % p) (coefficient-append same u r k)
    ∙ (congruent-add p (coefficient same u k) (coefficient same v k) (coefficient same r k) (coefficient same s k) (e k) (f k)
    ∙ ap (λ n. n % p) (sym (coefficient-append same v s k)))

-- the order of two parts
pub Alike-swap : {K : Type 0} (same : K → K → Bool) (p : ℕ) (u v r : Combination K) → Alike same p (u ++ (v ++ r)) ((u ++ r) ++ v)
Alike-swap same p u v r = λ k. ap (λ n. n % p)
    (omega (arith, coefficient-append same u (v ++ r) k, coefficient-append same v r k, coefficient-append same (u ++ r) v k, coefficient-append same u r k))

-- residues

pub Alike-residues : {K : Type 0} (same : K → K → Bool) (p : ℕ) (v : Combination K) → Alike same p (residues p v) v
unfolding coefficient
Alike-residues same p [] k = refl
Alike-residues same p (t ∷ v) k =
    congruent-add p (cond (same t.0 k) (t.1 % p) 0) (cond (same t.0 k) t.1 0) (coefficient same (residues p v) k) (coefficient same v k) (here (same t.0 k)) (Alike-residues same p v k)
  where
    here : (b : Bool) → Congruent p (cond b (t.1 % p) 0) (cond b t.1 0)
    here true = mod-mod t.1 p
    here false = refl
