-- Weights and room, term by term.
use Rattle.std.proofs.Common.{◌≡◌, ℕ, ◌+◌, ◌<◌, ◌≤◌, max, cond, List, [], ◌∷◌, ◌++◌, length, get_or, take, All, refl, sym, ap, ap₂, ◌∙◌, subst, add-one, arith}
use Rattle.std.proofs.Math.Seq.{take-suc}
use Rattle.std.proofs.lemmas.List.{map-append, get_or_default}
use Rattle.std.proofs.lemmas.List.Sums.{sum_by-cons}
use Rattle.std.proofs.lemmas.List.Elements.{All-nil, All-cons, All-head, All-tail}
use Rattle.std.specs.declared.cmp.Ordering.{Ordering}
use Rattle.std.specs.declared.cmp.Ordering.TheVariants.{Less, Equal, Greater}
use Rattle.std.specs.Ordering.{MatchOrdering, is_lt, nat_cmp, ord_max}
use Rattle.std.specs.Cmp.{ranks}
use Rattle.ve_theory.specs.Combinations.{Combination}
use Rattle.ve_theory.specs.Words.{Word, letters, letter_weight, letters_weight, word_weight, word_length}
use Rattle.ve_theory.specs.Elements.{Element, AlgebraElement, greatest, element_weight, algebra_weight}
use Rattle.ve_theory.specs.Validity.{element_cells, algebra_cells}
use Rattle.ve_theory.specs.Presentations.{most_weight}
use Rattle.ve_lemmas.proofs.Weights.{letters_weight-push, word_weight-letters}
use Rattle.ve_pres.specs.declared.term.Term.{Term}
use Rattle.ve_pres.specs.Terms.{pairs, in_algebra}

-- letters

pub letters_weight-take :
    (weights u : List ℕ) (i : ℕ) → i < length u → letters_weight weights (take (i + 1) u) ≡ letters_weight weights (take i u) + letter_weight weights (get_or u i 0)
letters_weight-take weights u i below = rw (add-one, take-suc u i 0) (letters_weight-push weights (take i u) (get_or u i 0))

-- the next letter
pub letters_step :
    (weights u : List ℕ) (i weight : ℕ) → i < length u → All (λ x. x < length weights) u → weight ≡ letters_weight weights (take i u)
    → weight + get_or weights (get_or u i 0) 0 ≡ letters_weight weights (take (i + 1) u)
letters_step weights u i weight below letters is =
    let inside : get_or u i 0 < length weights = letters i 0 below in
    omega (arith, letters_weight-take weights u i below, get_or_default weights (get_or u i 0) 0 1 inside)

pub weight_in_range :
    (weights u : List ℕ) (i : ℕ) → i < length u → All (λ x. x < length weights) u → All (λ w. w ≤ most_weight) weights → get_or weights (get_or u i 0) 0 ≤ most_weight
weight_in_range weights u i below letters small = small (get_or u i 0) 0 (letters i 0 below)

pub letters_none : (weights u : List ℕ) → letters_weight weights (take 0 u) ≡ 0
unfolding letters_weight
letters_none weights u = refl

-- terms

greatest-append : {K : Type 0} (size : K → ℕ) (v : Combination K) (t : K × ℕ) → greatest size (v ++ t ∷ []) ≡ max (greatest size v) (size t.0)
unfolding greatest
greatest-append size [] t = omega arith
greatest-append size (s ∷ v) t = omega (arith, greatest-append size v t)

pub greatest_step_on :
    (weights : List ℕ) (items : List Term) (i : ℕ) (term : Term) → i < length items → term ≡ get_or items i term
    → element_weight weights (pairs (take (i + 1) items)) ≡ max (element_weight weights (pairs (take i items))) (word_weight weights term.word)
greatest_step_on weights items i term below is =
    let next : take (i + 1) items ≡ take i items ++ term ∷ [] = rw (add-one, take-suc items i term) (ap (λ t. take i items ++ t ∷ []) (sym is)) in
    ap (λ u. element_weight weights (pairs u)) next
    ∙ (ap (element_weight weights) (map-append (λ (t : Term). (t.word, t.coef)) (take i items) (term ∷ []))
    ∙ greatest-append (word_weight weights) (pairs (take i items)) (term.word, term.coef))

cells-append : (v : Element) (t : Word × ℕ) → element_cells (v ++ t ∷ []) ≡ element_cells v + (word_length t.0 + 1)
cells-append [] t = omega (arith, sum_by-cons (λ (s : Word × ℕ). word_length s.0 + 1) t [])
cells-append (s ∷ v) t =
    omega (arith, sum_by-cons (λ (s : Word × ℕ). word_length s.0 + 1) s (v ++ t ∷ []), sum_by-cons (λ (s : Word × ℕ). word_length s.0 + 1) s v, cells-append v t)

pub cells_step :
    (items : List Term) (i : ℕ) (term : Term) → i < length items → term ≡ get_or items i term
    → element_cells (pairs (take (i + 1) items)) ≡ element_cells (pairs (take i items)) + (word_length term.word + 1)
cells_step items i term below is =
    let next : take (i + 1) items ≡ take i items ++ term ∷ [] = rw (add-one, take-suc items i term) (ap (λ t. take i items ++ t ∷ []) (sym is)) in
    ap (λ u. element_cells (pairs u)) next
    ∙ (ap element_cells (map-append (λ (t : Term). (t.word, t.coef)) (take i items) (term ∷ []))
    ∙ cells-append (pairs (take i items)) (term.word, term.coef))

-- the algebra

pub algebra_cells-in_algebra : (v : Element) → algebra_cells (in_algebra v) ≡ element_cells v
algebra_cells-in_algebra [] = refl
algebra_cells-in_algebra (t ∷ v) =
    omega (arith, sum_by-cons (λ (s : List ℕ × ℕ). length s.0 + 1) (letters t.0, t.1) (in_algebra v), sum_by-cons (λ (s : Word × ℕ). word_length s.0 + 1) t v, algebra_cells-in_algebra v)

pub algebra_weight-in_algebra : (weights : List ℕ) (v : Element) → algebra_weight weights (in_algebra v) ≡ element_weight weights v
unfolding greatest
algebra_weight-in_algebra weights [] = refl
algebra_weight-in_algebra weights (t ∷ v) = ap₂ max (sym (word_weight-letters weights t.0)) (algebra_weight-in_algebra weights v)

pub element_none : (weights : List ℕ) (items : List Term) → element_weight weights (pairs (take 0 items)) ≡ 0
unfolding greatest
element_none weights items = refl

words_of_pairs : (Q : Word → Type 0) (terms : List Term) → All (λ t. Q t.0) (pairs terms) → All (λ (term : Term). Q term.word) terms
words_of_pairs Q [] all = All-nil (λ (term : Term). Q term.word)
words_of_pairs Q (t ∷ terms) all =
    All-cons (λ (term : Term). Q term.word) t terms (All-head (λ (s : Word × ℕ). Q s.0) (t.word, t.coef) (pairs terms) all)
    (words_of_pairs Q terms (All-tail (λ (s : Word × ℕ). Q s.0) (t.word, t.coef) (pairs terms) all))

-- what holds of the word of a term in a list
pub word_of_item : (Q : Word → Type 0) (v : Element) (items : List Term) (i : ℕ) (term : Term) → All (λ t. Q t.0) v → pairs items ≡ v → i < length items → term ≡ get_or items i term → Q term.word
word_of_item Q v items i term all shown below is =
    let P : Element → Type 0 = λ u. All (λ (t : Word × ℕ). Q t.0) u in
    let words : All (λ (t : Term). Q t.word) items = words_of_pairs Q items (subst P (sym shown) all) in
    let R : Term → Type 0 = λ t. Q t.word in
    subst R (sym is) (words i term below)

-- the letters of an element of the algebra
pub words_in_algebra : (Q : List ℕ → Type 0) (v : Element) (r : AlgebraElement) → in_algebra v ≡ r → All (λ t. Q t.0) r → All (λ t. Q (letters t.0)) v
words_in_algebra Q v r is all = go v (let P : AlgebraElement → Type 0 = λ u. All (λ (t : List ℕ × ℕ). Q t.0) u in subst P (sym is) all)
  where
    go : (u : Element) → All (λ t. Q t.0) (in_algebra u) → All (λ t. Q (letters t.0)) u
    go [] a = All-nil (λ (t : Word × ℕ). Q (letters t.0))
    go (t ∷ u) a =
        All-cons (λ (s : Word × ℕ). Q (letters s.0)) t u (All-head (λ (s : List ℕ × ℕ). Q s.0) (letters t.0, t.1) (in_algebra u) a)
        (go u (All-tail (λ (s : List ℕ × ℕ). Q s.0) (letters t.0, t.1) (in_algebra u) a))

-- the greater of two numbers
pub ord_max-nat : (a b : ℕ) → ord_max nat_cmp a b ≡ max a b
ord_max-nat a b = by (nat_cmp b a) (ranks b a)
  where
    by : (o : Ordering) → MatchOrdering o (b < a) (b ≡ a) (a < b) → cond (is_lt o) a b ≡ max a b
    by Less below = omega arith
    by Equal same = omega arith
    by Greater above = omega arith
