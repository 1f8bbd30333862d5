-- Gathering terms one by one, from the greatest word to the least.
use Rattle.std.proofs.Common.{◌≡◌, ◌≢◌, ℕ, ◌+◌, ◌%◌, ◌<◌, inl, inr, Bool, true, false, cond, List, [], ◌∷◌, ◌++◌, All, refl, sym, ap, ◌∙◌, subst, arith}
use Rattle.std.proofs.Math.Nat.{mod-mod, mod-lt}
use Rattle.std.proofs.lemmas.List.{map-append}
use Rattle.std.proofs.lemmas.List.Elements.{All-nil, All-cons, All-head, All-tail, All-append, All-weaker}
use Rattle.ve_theory.specs.Residues.{Congruent}
use Rattle.ve_theory.specs.Combinations.{coefficient, Alike, AllBefore, IsReduced}
use Rattle.ve_theory.specs.Words.{Word, same_word, Shortlex}
use Rattle.ve_theory.specs.Elements.{Element}
use Rattle.ve_lemmas.proofs.Residues.{congruent-add}
use Rattle.ve_lemmas.proofs.Sums.{coefficient-append}
use Rattle.ve_pres.specs.Gathering.{IsAtMost, AtLeast, IsReady, Gathers}
use Rattle.ve_pres.specs.declared.term.Term.{Term}
use Rattle.ve_pres.specs.Terms.{pairs}
use Rattle.ve_pres.proofs.Orders.{shortlex_transitive}
use Rattle.ve_pres.proofs.Reduced.{IsFront, IsReduced-front, IsReduced-push}

-- the coefficient is 0
pub gathers_nothing : (p : ℕ) (old : Element) (term : Word × ℕ) (front : Element) (coef : ℕ) → IsReady p old term front coef → coef ≡ 0 → Gathers p old term front
unfolding coefficient
gathers_nothing p old term front coef ready zero = record {
  reduced = ready.reduced;
  alike = λ k. ap (λ n. n % p) (vanishes k) ∙ ready.alike k;
  at_least = All-weaker (λ (t : Word × ℕ). Shortlex term.0 t.0) (λ (t : Word × ℕ). IsAtMost term.0 t.0) (λ t h. inr h) front ready.above;
}
  where
    none : (b : Bool) → cond b coef 0 ≡ 0
    none true = zero
    none false = refl

    vanishes : (k : Word) → coefficient same_word front k ≡ coefficient same_word (front ++ (term.0, coef) ∷ []) k
    vanishes k = omega (arith, coefficient-append same_word front ((term.0, coef) ∷ []) k, none (same_word term.0 k))

-- the coefficient isn't 0
pub gathers_term : (p : ℕ) (old : Element) (term : Word × ℕ) (front : Element) (coef : ℕ) → IsReady p old term front coef → 0 < coef → Gathers p old term (front ++ (term.0, coef) ∷ [])
gathers_term p old term front coef ready positive = record {
  reduced = IsReduced-push Shortlex p front (term.0, coef) ready.reduced ready.above positive ready.residue;
  alike = ready.alike;
  at_least = All-append (λ (t : Word × ℕ). IsAtMost term.0 t.0) front ((term.0, coef) ∷ [])
      (All-weaker (λ (t : Word × ℕ). Shortlex term.0 t.0) (λ (t : Word × ℕ). IsAtMost term.0 t.0) (λ t h. inr h) front ready.above)
      (All-cons (λ (t : Word × ℕ). IsAtMost term.0 t.0) (term.0, coef) [] (inl refl) (All-nil (λ (t : Word × ℕ). IsAtMost term.0 t.0)));
}

-- the last term has the same word
pub ready_after_same : (p : ℕ) (front : Element) (last term : Word × ℕ) → 0 < p → IsReduced Shortlex p (front ++ last ∷ []) → last.0 ≡ term.0 → IsReady p (front ++ last ∷ []) term front ((last.1 + term.1) % p)
unfolding coefficient
ready_after_same p front last term positive reduced same =
    let parts : IsFront Shortlex p front last = IsReduced-front Shortlex p front last reduced in
    record {
      reduced = parts.reduced;
      above = let P : Word → Type 0 = λ w. All (λ (t : Word × ℕ). Shortlex w t.0) front in subst P same parts.above;
      residue = mod-lt (last.1 + term.1) positive;
      alike = added;
    }
  where
    both : (b : Bool) → Congruent p (cond b ((last.1 + term.1) % p) 0) (cond b last.1 0 + cond b term.1 0)
    both true = mod-mod (last.1 + term.1) p
    both false = refl

    added : Alike same_word p (front ++ (term.0, (last.1 + term.1) % p) ∷ []) ((front ++ last ∷ []) ++ term ∷ [])
    added k =
        ap (λ n. n % p) (coefficient-append same_word front ((term.0, (last.1 + term.1) % p) ∷ []) k)
        ∙ (congruent-add p (coefficient same_word front k) (coefficient same_word front k) (coefficient same_word ((term.0, (last.1 + term.1) % p) ∷ []) k) (coefficient same_word (last ∷ []) k + coefficient same_word (term ∷ []) k) refl (here k)
        ∙ ap (λ n. n % p) (omega (arith, coefficient-append same_word (front ++ last ∷ []) (term ∷ []) k, coefficient-append same_word front (last ∷ []) k)))
      where
        here : (k : Word) → Congruent p (cond (same_word term.0 k) ((last.1 + term.1) % p) 0 + 0) ((cond (same_word last.0 k) last.1 0 + 0) + (cond (same_word term.0 k) term.1 0 + 0))
        here k =
            ap (λ n. n % p) (let e : cond (same_word term.0 k) ((last.1 + term.1) % p) 0 + 0 ≡ cond (same_word term.0 k) ((last.1 + term.1) % p) 0 = omega arith in e)
            ∙ (both (same_word term.0 k)
            ∙ ap (λ n. n % p) (let f : cond (same_word last.0 k) last.1 0 ≡ cond (same_word term.0 k) last.1 0 = ap (λ w. cond (same_word w k) last.1 0) same in omega arith))

-- the last term has another word, or there is none

above_other : (word : Word) (p : ℕ) (terms : List Term) → AtLeast word (pairs terms) → IsReduced Shortlex p (pairs terms)
    → ((front : List Term) (last : Term) → terms ≡ front ++ last ∷ [] → last.word ≢ word) → All (λ t. Shortlex word t.0) (pairs terms)
unfolding IsReduced AllBefore
above_other word p [] at_least reduced other = All-nil (λ (t : Word × ℕ). Shortlex word t.0)
above_other word p (t ∷ []) at_least reduced other =
    All-cons (λ (s : Word × ℕ). Shortlex word s.0) (t.word, t.coef) [] (cases (All-head (λ (s : Word × ℕ). IsAtMost word s.0) (t.word, t.coef) [] at_least)) (All-nil (λ (s : Word × ℕ). Shortlex word s.0))
  where
    cases : IsAtMost word t.word → Shortlex word t.word
    cases (inl e) = absurd (other [] t refl (sym e))
    cases (inr h) = h
above_other word p (t ∷ s ∷ terms) at_least reduced other =
    let rest : All (λ r. Shortlex word r.0) (pairs (s ∷ terms)) =
    above_other word p (s ∷ terms) (All-tail (λ (r : Word × ℕ). IsAtMost word r.0) (t.word, t.coef) (pairs (s ∷ terms)) at_least) reduced.3 (λ front last e. other (t ∷ front) last (ap (λ u. t ∷ u) e)) in
    All-cons (λ (r : Word × ℕ). Shortlex word r.0) (t.word, t.coef) (pairs (s ∷ terms))
    (shortlex_transitive word s.word t.word (All-head (λ (r : Word × ℕ). Shortlex word r.0) (s.word, s.coef) (pairs terms) rest) reduced.2.0)
    rest

-- on lists of terms: the last term was taken off, or it stays

pub ready_where_taken :
    (p : ℕ) (old front : List Term) (last term : Term) (coef : ℕ) → IsReduced Shortlex p (pairs old) → old ≡ front ++ last ∷ [] → last.word ≡ term.word
    → term.coef < p → coef ≡ (last.coef + term.coef) % p → IsReady p (pairs old) (term.word, term.coef) (pairs front) coef
ready_where_taken p old front last term coef reduced is same residue sum =
    let shown : pairs old ≡ pairs front ++ (last.word, last.coef) ∷ [] = ap pairs is ∙ map-append (λ (t : Term). (t.word, t.coef)) front (last ∷ []) in
    let positive : 0 < p = omega arith in
    let P : Element → Type 0 = λ v. IsReduced Shortlex p v in
    let ready : IsReady p (pairs front ++ (last.word, last.coef) ∷ []) (term.word, term.coef) (pairs front) ((last.coef + term.coef) % p) =
    ready_after_same p (pairs front) (last.word, last.coef) (term.word, term.coef) positive (subst P shown reduced) same in
    let Q : Element → Type 0 = λ v. IsReady p v (term.word, term.coef) (pairs front) coef in
    subst Q (sym shown) (let R : ℕ → Type 0 = λ c. IsReady p (pairs front ++ (last.word, last.coef) ∷ []) (term.word, term.coef) (pairs front) c in subst R (sym sum) ready)

pub ready_where_kept :
    (p : ℕ) (old front : List Term) (term : Term) (coef : ℕ) → IsReduced Shortlex p (pairs old) → AtLeast term.word (pairs old) → term.coef < p → front ≡ old
    → ((before : List Term) (last : Term) → old ≡ before ++ last ∷ [] → last.word ≢ term.word) → coef ≡ term.coef
    → IsReady p (pairs old) (term.word, term.coef) (pairs front) coef
ready_where_kept p old front term coef reduced at_least residue is other same =
    let ready : IsReady p (pairs old) (term.word, term.coef) (pairs old) term.coef = record {
      reduced = reduced;
      above = above_other term.word p old at_least reduced other;
      residue = residue;
      alike = λ k. refl;
    } in
    let P : List Term → Type 0 = λ u. IsReady p (pairs old) (term.word, term.coef) (pairs u) coef in
    subst P (sym is) (let R : ℕ → Type 0 = λ c. IsReady p (pairs old) (term.word, term.coef) (pairs old) c in subst R (sym same) ready)

-- the coefficients of a list whose last term is taken off
pub residue_where_taken : (p : ℕ) (old front : List Term) (last : Term) → IsReduced Shortlex p (pairs old) → old ≡ front ++ last ∷ [] → last.coef < p
residue_where_taken p old front last reduced is =
    let shown : pairs old ≡ pairs front ++ (last.word, last.coef) ∷ [] = ap pairs is ∙ map-append (λ (t : Term). (t.word, t.coef)) front (last ∷ []) in
    let P : Element → Type 0 = λ v. IsReduced Shortlex p v in
    (IsReduced-front Shortlex p (pairs front) (last.word, last.coef) (subst P shown reduced)).residue

-- the new list
pub gathers_pushed :
    (p : ℕ) (old front new : List Term) (term : Term) (coef : ℕ) → IsReady p (pairs old) (term.word, term.coef) (pairs front) coef → 0 < coef
    → new ≡ front ++ record { word = term.word; coef = coef } ∷ [] → Gathers p (pairs old) (term.word, term.coef) (pairs new)
gathers_pushed p old front new term coef ready positive is =
    let shown : pairs new ≡ pairs front ++ (term.word, coef) ∷ [] = ap pairs is ∙ map-append (λ (t : Term). (t.word, t.coef)) front (record { word = term.word; coef = coef } ∷ []) in
    let P : Element → Type 0 = λ v. Gathers p (pairs old) (term.word, term.coef) v in
    subst P (sym shown) (gathers_term p (pairs old) (term.word, term.coef) (pairs front) coef ready positive)
