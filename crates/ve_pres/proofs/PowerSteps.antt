-- Powers, one after another.
use Rattle.std.proofs.Common.{◌≡◌, ℕ, ◌+◌, ◌*◌, ◌%◌, cond, Bool, true, false, None, [], ◌∷◌, refl, sym, subst, ap, ◌∙◌, add-one, arith}
use Rattle.std.proofs.Math.Nat.{mod-mod}
use Rattle.std.proofs.lemmas.List.{append-nil}
use Rattle.ve_theory.specs.Residues.{Congruent}
use Rattle.ve_theory.specs.Combinations.{scaled, coefficient, Alike, IsReduced}
use Rattle.ve_theory.specs.Words.{same_letters, ShortlexLetters}
use Rattle.ve_theory.specs.Elements.{AlgebraElement, IsAlgebraElementOf, letters_times, product, power}
use Rattle.ve_theory.specs.Laws.{ProductsAreBilinear}
use Rattle.ve_lemmas.proofs.Residues.{congruent-add}
use Rattle.ve_pres.specs.Powers.{Reaches, first, next, limit_of_product}
use Rattle.ve_pres.specs.Terms.{HasLettersBelow}

-- the power 0
pub power_zero : (p one exponent : ℕ) (r v : AlgebraElement) → exponent ≡ 0 → one ≡ 1 % p → IsAlgebraElementOf p v (([], one) ∷ []) → IsAlgebraElementOf p v (power r exponent)
unfolding power coefficient
power_zero p one exponent r v none is sum =
    let P : ℕ → Type 0 = λ n. IsAlgebraElementOf p v (power r n) in
    subst P (sym none) (record { reduced = sum.reduced; alike = λ u. sum.alike u ∙ here (same_letters [] u) })
  where
    here : (b : Bool) → Congruent p (cond b one 0 + 0) (cond b 1 0 + 0)
    here true = ap (λ n. (n + 0) % p) is ∙ (ap (λ n. n % p) (let e : 1 % p + 0 ≡ 1 % p = omega arith in e) ∙ (mod-mod 1 p ∙ ap (λ n. n % p) (let e : 1 ≡ 1 + 0 = omega arith in e)))
    here false = refl

-- what holds of a power that is reached
pub record IsPower (p : ℕ) (r : AlgebraElement) (k : ℕ) (v : AlgebraElement) : Type 0 where
  pub reached : Reaches p r k v
  pub reduced : IsReduced ShortlexLetters p v
  pub alike : Alike same_letters p v (power r k)
  pub letters : (n : ℕ) → HasLettersBelow n r → HasLettersBelow n v

-- one times a sum
scaled-one : (p : ℕ) (v : AlgebraElement) → Alike same_letters p (scaled 1 v) v
unfolding coefficient scaled
scaled-one p [] u = refl
scaled-one p (t ∷ v) u =
    congruent-add p (cond (same_letters t.0 u) (1 * t.1) 0) (cond (same_letters t.0 u) t.1 0) (coefficient same_letters (scaled 1 v) u) (coefficient same_letters v u)
    (ap (λ n. cond (same_letters t.0 u) n 0 % p) (let e : 1 * t.1 ≡ t.1 = omega arith in e))
    (scaled-one p v u)

letters_times-empty : (r : AlgebraElement) → letters_times [] r ≡ r
unfolding letters_times
letters_times-empty [] = refl
letters_times-empty (t ∷ r) = ap (λ v. t ∷ v) (letters_times-empty r)

pub power_first : (p : ℕ) (r v : AlgebraElement) → IsReduced ShortlexLetters p r → v ≡ r → IsPower p r 1 v
unfolding power product
power_first p r v reduced is =
    let P : AlgebraElement → Type 0 = λ u. IsPower p r 1 u in
    subst P (sym is) (record {
      reached = first;
      reduced = reduced;
      letters = λ n all. all;
      alike = λ u. sym (ap (λ w. coefficient same_letters w u % p) (append-nil (scaled 1 (letters_times [] r)) ∙ ap (scaled 1) (letters_times-empty r)) ∙ scaled-one p r u);
    })

pub power_next :
    (p k : ℕ) (r v w : AlgebraElement) → ProductsAreBilinear → IsPower p r k v → limit_of_product v r ≡ None → IsAlgebraElementOf p w (product v r) → ((n : ℕ) → HasLettersBelow n v → HasLettersBelow n r → HasLettersBelow n w) → IsPower p r (k + 1) w
unfolding power
power_next p k r v w law old within sum letters = record {
  letters = λ n all. letters n (old.letters n all) all;
  reached = next k v w old.reached within sum;
  reduced = sum.reduced;
  alike =
      let P : ℕ → Type 0 = λ n. Alike same_letters p w (power r n) in
      subst P (sym (add-one k)) (λ u. sum.alike u ∙ law.algebra.alike p v (power r k) r r old.alike (λ x. refl) u);
}
