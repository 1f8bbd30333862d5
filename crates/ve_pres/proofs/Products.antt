-- Scalings and products of elements, term by term, and the lists of terms that hold them.
use Rattle.std.proofs.Common.{◌≡◌, ℕ, ◌+◌, ◌*◌, ◌%◌, ◌<◌, ◌≤◌, List, [], ◌∷◌, ◌++◌, length, get_or, take, All, inl, inr, refl, sym, ap, ap₂, ◌∙◌, append_assoc, length-append, add-one, arith}
use Rattle.std.proofs.Math.Nat.{mod-lt}
use Rattle.std.proofs.Math.Seq.{take-suc}
use Rattle.std.proofs.lemmas.List.{map-append, append-nil}
use Rattle.std.proofs.lemmas.List.Elements.{All-nil, All-cons, All-head, All-tail, All-append, All-weaker}
use Rattle.ve_theory.specs.Combinations.{Combination, scaled, IsReduced}
use Rattle.ve_theory.specs.Words.{Word, letters, times_all, word_length, Shortlex}
use Rattle.ve_theory.specs.Elements.{Element, AlgebraElement, word_times, element_times, greatest, element_length, algebra_length}
use Rattle.ve_lemmas.proofs.Words.{letters-times_all}
use Rattle.ve_lemmas.proofs.Sums.{greatest-le, le-greatest, All-scaled, All_from_AllBefore}
use Rattle.ve_lemmas.proofs.Products.{All-word_times}
use Rattle.ve_pres.specs.declared.term.Term.{Term}
use Rattle.ve_pres.specs.Terms.{pairs, residues}

-- one term more at the end of a list of terms
pub push_step :
    (start done more : Element) (before after : List Term) (new : Term) → after ≡ before ++ new ∷ [] → pairs before ≡ start ++ done
    → more ≡ done ++ (new.word, new.coef) ∷ [] → pairs after ≡ start ++ more
push_step start done more before after new is shown step =
    ap pairs is
    ∙ (map-append (λ (t : Term). (t.word, t.coef)) before (new ∷ [])
    ∙ (ap (λ u. u ++ (new.word, new.coef) ∷ []) shown
    ∙ (append_assoc start done ((new.word, new.coef) ∷ []) ∙ ap (λ u. start ++ u) (sym step))))

pub residues-append : {K : Type 0} (p : ℕ) (u v : Combination K) → residues p (u ++ v) ≡ residues p u ++ residues p v
residues-append {K} p u v = map-append (λ (t : K × ℕ). (t.0, t.1 % p)) u v

pub scaled-append : {K : Type 0} (c : ℕ) (u v : Combination K) → scaled c (u ++ v) ≡ scaled c u ++ scaled c v
unfolding scaled
scaled-append c [] v = refl
scaled-append c (t ∷ u) v = ap (λ w. (t.0, c * t.1) ∷ w) (scaled-append c u v)

-- the next term of a scaling
pub scaled_step :
    (p by i : ℕ) (items : List Term) (term new : Term) → i < length items → term ≡ get_or items i term → new.word ≡ term.word → new.coef ≡ by * term.coef % p
    → residues p (scaled by (pairs (take (i + 1) items))) ≡ residues p (scaled by (pairs (take i items))) ++ (new.word, new.coef) ∷ []
unfolding scaled
scaled_step p by i items term new below is word coef =
    let front : List Term = take i items in
    let next : take (i + 1) items ≡ front ++ term ∷ [] = rw (add-one, take-suc items i term) (ap (λ t. front ++ t ∷ []) (sym is)) in
    let shown : pairs (take (i + 1) items) ≡ pairs front ++ (term.word, term.coef) ∷ [] = ap pairs next ∙ map-append (λ (t : Term). (t.word, t.coef)) front (term ∷ []) in
    ap (λ v. residues p (scaled by v)) shown
    ∙ (ap (residues p) (scaled-append by (pairs front) ((term.word, term.coef) ∷ []))
    ∙ (residues-append p (scaled by (pairs front)) ((term.word, by * term.coef) ∷ [])
    ∙ ap₂ (λ w c. residues p (scaled by (pairs front)) ++ (w, c) ∷ []) (sym word) (sym coef)))

pub word_times-append : (w : Word) (r s : AlgebraElement) → word_times w (r ++ s) ≡ word_times w r ++ word_times w s
unfolding word_times
word_times-append w [] s = refl
word_times-append w (t ∷ r) s = ap (λ v. (times_all w t.0, t.1) ∷ v) (word_times-append w r s)

-- the next term of a product with a term
pub products_step :
    (p i : ℕ) (term new : Term) (right : AlgebraElement) → i < length right → new.word ≡ times_all term.word (get_or right i ([], 0)).0
    → new.coef ≡ term.coef * (get_or right i ([], 0)).1 % p
    → residues p (scaled term.coef (word_times term.word (take (i + 1) right))) ≡ residues p (scaled term.coef (word_times term.word (take i right))) ++ (new.word, new.coef) ∷ []
unfolding scaled word_times
products_step p i term new right below word coef =
    let front : AlgebraElement = take i right in
    let t : List ℕ × ℕ = get_or right i ([], 0) in
    let next : take (i + 1) right ≡ front ++ t ∷ [] = rw (add-one, take-suc right i ([], 0)) refl in
    let shown : word_times term.word (take (i + 1) right) ≡ word_times term.word front ++ (times_all term.word t.0, t.1) ∷ [] = ap (word_times term.word) next ∙ word_times-append term.word front (t ∷ []) in
    ap (λ v. residues p (scaled term.coef v)) shown
    ∙ (ap (residues p) (scaled-append term.coef (word_times term.word front) ((times_all term.word t.0, t.1) ∷ []))
    ∙ (residues-append p (scaled term.coef (word_times term.word front)) ((times_all term.word t.0, term.coef * t.1) ∷ [])
    ∙ ap₂ (λ w c. residues p (scaled term.coef (word_times term.word front)) ++ (w, c) ∷ []) (sym word) (sym coef)))

element_times-append : (u v : Element) (r : AlgebraElement) → element_times (u ++ v) r ≡ element_times u r ++ element_times v r
unfolding element_times
element_times-append [] v r = refl
element_times-append (t ∷ u) v r =
    ap (λ w. scaled t.1 (word_times t.0 r) ++ w) (element_times-append u v r) ∙ sym (append_assoc (scaled t.1 (word_times t.0 r)) (element_times u r) (element_times v r))

-- the next part of a product
pub times_step :
    (p i : ℕ) (items : List Term) (term : Term) (right : AlgebraElement) (before after : List Term) → i < length items → term ≡ get_or items i term
    → pairs before ≡ residues p (element_times (pairs (take i items)) right)
    → pairs after ≡ pairs before ++ residues p (scaled term.coef (word_times term.word right))
    → pairs after ≡ residues p (element_times (pairs (take (i + 1) items)) right)
unfolding element_times
times_step p i items term right before after below is shown step =
    let front : List Term = take i items in
    let next : take (i + 1) items ≡ front ++ term ∷ [] = rw (add-one, take-suc items i term) (ap (λ t. front ++ t ∷ []) (sym is)) in
    let shown_next : pairs (take (i + 1) items) ≡ pairs front ++ (term.word, term.coef) ∷ [] = ap pairs next ∙ map-append (λ (t : Term). (t.word, t.coef)) front (term ∷ []) in
    let part : Element = scaled term.coef (word_times term.word right) in
    step
    ∙ (ap (λ v. v ++ residues p part) shown
    ∙ (sym (residues-append p (element_times (pairs front) right) part)
    ∙ ap (residues p)
    (ap (λ v. element_times (pairs front) right ++ v) (sym (append-nil part))
    ∙ (sym (element_times-append (pairs front) ((term.word, term.coef) ∷ []) right) ∙ ap (λ v. element_times v right) (sym shown_next)))))

-- how many terms

pub element_times-zero : (v : Element) → element_times v [] ≡ []
unfolding element_times word_times scaled
element_times-zero [] = refl
element_times-zero (t ∷ v) = element_times-zero v

-- what holds of each term

pub residues_below : {K : Type 0} (p : ℕ) (v : Combination K) → 0 < p → All (λ t. t.1 < p) (residues p v)
residues_below {K} p [] positive = All-nil (λ (t : K × ℕ). t.1 < p)
residues_below {K} p (t ∷ v) positive = All-cons (λ (s : K × ℕ). s.1 < p) (t.0, t.1 % p) (residues p v) (mod-lt t.1 positive) (residues_below p v positive)

pub residues_keep : {K : Type 0} (Q : K → Type 0) (p : ℕ) (v : Combination K) → All (λ t. Q t.0) v → All (λ t. Q t.0) (residues p v)
residues_keep {K} Q p [] all = All-nil (λ (t : K × ℕ). Q t.0)
residues_keep {K} Q p (t ∷ v) all =
    All-cons (λ (s : K × ℕ). Q s.0) (t.0, t.1 % p) (residues p v) (All-head (λ (s : K × ℕ). Q s.0) t v all) (residues_keep Q p v (All-tail (λ (s : K × ℕ). Q s.0) t v all))

pub element_times_keeps :
    (Q : Word → Type 0) (v : Element) (r : AlgebraElement) → All (λ t. All (λ s. Q (times_all t.0 s.0)) r) v → All (λ t. Q t.0) (element_times v r)
unfolding element_times
element_times_keeps Q [] r all = All-nil (λ (t : Word × ℕ). Q t.0)
element_times_keeps Q (t ∷ v) r all =
    All-append (λ (s : Word × ℕ). Q s.0) (scaled t.1 (word_times t.0 r)) (element_times v r)
    (All-scaled Q t.1 (word_times t.0 r) (All-word_times Q t.0 r (All-head (λ (u : Word × ℕ). All (λ (s : List ℕ × ℕ). Q (times_all u.0 s.0)) r) t v all)))
    (element_times_keeps Q v r (All-tail (λ (u : Word × ℕ). All (λ (s : List ℕ × ℕ). Q (times_all u.0 s.0)) r) t v all))

-- lengths

shorter : (v w : Word) → Shortlex v w → word_length v ≤ word_length w
unfolding Shortlex
shorter v w (inl h) = omega arith
shorter v w (inr h) = omega (arith, h.0)

-- the first word of a reduced element is the longest
pub longest_first : (p : ℕ) (t : Word × ℕ) (v : Element) → IsReduced Shortlex p (t ∷ v) → element_length (t ∷ v) ≡ word_length t.0
unfolding greatest IsReduced
longest_first p t v reduced =
    let rest : element_length v ≤ word_length t.0 =
    greatest-le word_length (word_length t.0) v (All-weaker (λ (s : Word × ℕ). Shortlex s.0 t.0) (λ (s : Word × ℕ). word_length s.0 ≤ word_length t.0) (λ s h. shorter s.0 t.0 h) v (All_from_AllBefore Shortlex t.0 v reduced.2)) in
    omega arith

pub times_lengths : (v : Element) (r : AlgebraElement) → All (λ t. word_length t.0 ≤ element_length v + algebra_length r) (element_times v r)
times_lengths v r =
    element_times_keeps (λ w. word_length w ≤ element_length v + algebra_length r) v r
    (All-weaker (λ (t : Word × ℕ). word_length t.0 ≤ element_length v) (λ (t : Word × ℕ). All (λ (s : List ℕ × ℕ). word_length (times_all t.0 s.0) ≤ element_length v + algebra_length r) r)
    (λ t h. All-weaker (λ (s : List ℕ × ℕ). length s.0 ≤ algebra_length r) (λ (s : List ℕ × ℕ). word_length (times_all t.0 s.0) ≤ element_length v + algebra_length r)
    (λ s k. let e : word_length (times_all t.0 s.0) ≡ word_length t.0 + length s.0 = ap length (letters-times_all t.0 s.0) ∙ length-append (letters t.0) s.0 in omega arith)
    r (le-greatest length r))
    v (le-greatest word_length v))
