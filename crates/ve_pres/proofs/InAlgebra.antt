-- The algebra as the free module on one generator.
use Rattle.std.proofs.Common.{◌≡◌, ℕ, ◌+◌, ◌-◌, ◌*◌, ◌%◌, ◌<◌, ◌≤◌, ◌⊎◌, inl, inr, Bool, true, false, cond, ◌&&◌, nat_eq, max, List, [], ◌∷◌, ◌++◌, length, All, refl, sym, ap, ap₂, ◌∙◌, subst, slice_index_or, arith}
use Rattle.std.proofs.lemmas.List.{map-append}
use Rattle.std.proofs.lemmas.List.Elements.{All-nil, All-cons, All-head, All-tail, All-append, All-map, All-weaker}
use Rattle.ve_theory.specs.Combinations.{scaled, unit, coefficient, AllBefore, IsReduced}
use Rattle.ve_theory.specs.Words.{Word, generator, times, start, letters, times_all, word_length, same_word, same_letters, Shortlex, ShortlexLetters}
use Rattle.ve_theory.specs.Elements.{Element, AlgebraElement, IsElementOf, IsAlgebraElementOf, word_times, element_times, letters_times, product, element_length, algebra_length, greatest}
use Rattle.ve_theory.specs.Validity.{most_length}
use Rattle.ve_lemmas.proofs.Words.{start-times_all, letters-times_all}
use Rattle.ve_lemmas.proofs.Sums.{All-scaled, All_from_AllBefore, AllBefore_from_All}
use Rattle.ve_pres.specs.declared.term.Term.{Term}
use Rattle.ve_pres.specs.Limits.{product_limit}
use Rattle.ve_pres.specs.Terms.{in_algebra, pairs, IsKept}
use Rattle.ve_pres.proofs.Products.{element_times_keeps}
use Rattle.ve_pres.proofs.Reduced.{words_of_sum}

-- all words are of the first generator
abbrev pub IsOnFirst : Element → Type 0
IsOnFirst v = All (λ t. start t.0 ≡ 0) v

letters_below : (v w : Word) → Shortlex v w → start v ≡ 0 → start w ≡ 0 → ShortlexLetters (letters v) (letters w)
unfolding Shortlex ShortlexLetters
letters_below v w (inl h) a b = inl h
letters_below v w (inr (e, inl h)) a b = absurd (omega arith)
letters_below v w (inr (e, inr h)) a b = inr (e, h.1)

words_below : (v w : Word) → ShortlexLetters (letters v) (letters w) → start v ≡ 0 → start w ≡ 0 → Shortlex v w
unfolding Shortlex ShortlexLetters
words_below v w (inl h) a b = inl h
words_below v w (inr h) a b = inr (h.0, inr (a ∙ sym b, h.1))

-- order

pub reduced_in_algebra : (p : ℕ) (v : Element) → IsOnFirst v → IsReduced Shortlex p v → IsReduced ShortlexLetters p (in_algebra v)
unfolding IsReduced
reduced_in_algebra p [] first h = tt
reduced_in_algebra p (t ∷ v) first h = (
  h.0,
  h.1,
  AllBefore_from_All ShortlexLetters (letters t.0) (in_algebra v) (below v (All-tail (λ (s : Word × ℕ). start s.0 ≡ 0) t v first) (All_from_AllBefore Shortlex t.0 v h.2)),
  reduced_in_algebra p v (All-tail (λ (s : Word × ℕ). start s.0 ≡ 0) t v first) h.3,
)
  where
    below : (u : Element) → IsOnFirst u → All (λ s. Shortlex s.0 t.0) u → All (λ s. ShortlexLetters s.0 (letters t.0)) (in_algebra u)
    below [] f b = All-nil (λ (s : List ℕ × ℕ). ShortlexLetters s.0 (letters t.0))
    below (s ∷ u) f b =
        All-cons (λ (r : List ℕ × ℕ). ShortlexLetters r.0 (letters t.0)) (letters s.0, s.1) (in_algebra u)
        (letters_below s.0 t.0 (All-head (λ (r : Word × ℕ). Shortlex r.0 t.0) s u b) (All-head (λ (r : Word × ℕ). start r.0 ≡ 0) s u f) (All-head (λ (r : Word × ℕ). start r.0 ≡ 0) t v first))
        (below u (All-tail (λ (r : Word × ℕ). start r.0 ≡ 0) s u f) (All-tail (λ (r : Word × ℕ). Shortlex r.0 t.0) s u b))

pub reduced_from_algebra : (p : ℕ) (v : Element) → IsOnFirst v → IsReduced ShortlexLetters p (in_algebra v) → IsReduced Shortlex p v
unfolding IsReduced
reduced_from_algebra p [] first h = tt
reduced_from_algebra p (t ∷ v) first h = (
  h.0,
  h.1,
  AllBefore_from_All Shortlex t.0 v (below v (All-tail (λ (s : Word × ℕ). start s.0 ≡ 0) t v first) (All_from_AllBefore ShortlexLetters (letters t.0) (in_algebra v) h.2)),
  reduced_from_algebra p v (All-tail (λ (s : Word × ℕ). start s.0 ≡ 0) t v first) h.3,
)
  where
    below : (u : Element) → IsOnFirst u → All (λ s. ShortlexLetters s.0 (letters t.0)) (in_algebra u) → All (λ s. Shortlex s.0 t.0) u
    below [] f b = All-nil (λ (s : Word × ℕ). Shortlex s.0 t.0)
    below (s ∷ u) f b =
        All-cons (λ (r : Word × ℕ). Shortlex r.0 t.0) s u
        (words_below s.0 t.0 (All-head (λ (r : List ℕ × ℕ). ShortlexLetters r.0 (letters t.0)) (letters s.0, s.1) (in_algebra u) b) (All-head (λ (r : Word × ℕ). start r.0 ≡ 0) s u f) (All-head (λ (r : Word × ℕ). start r.0 ≡ 0) t v first))
        (below u (All-tail (λ (r : Word × ℕ). start r.0 ≡ 0) s u f) (All-tail (λ (r : List ℕ × ℕ). ShortlexLetters r.0 (letters t.0)) (letters s.0, s.1) (in_algebra u) b))

-- coefficients

coefficient-in_algebra : (v : Element) (u : List ℕ) → IsOnFirst v → coefficient same_letters (in_algebra v) u ≡ coefficient same_word v (times_all (generator 0) u)
unfolding coefficient same_word start letters
coefficient-in_algebra [] u first = refl
coefficient-in_algebra (t ∷ v) u first =
    ap₂ (λ b n. cond b t.1 0 + n) here (coefficient-in_algebra v u (All-tail (λ (s : Word × ℕ). start s.0 ≡ 0) t v first))
  where
    here : same_letters (letters t.0) u ≡ (nat_eq (start t.0) (start (times_all (generator 0) u)) && same_letters (letters t.0) (letters (times_all (generator 0) u)))
    here =
        let a : start (times_all (generator 0) u) ≡ 0 = start-times_all (generator 0) u in
        let b : letters (times_all (generator 0) u) ≡ u = letters-times_all (generator 0) u in
        let e : start t.0 ≡ 0 = All-head (λ (s : Word × ℕ). start s.0 ≡ 0) t v first in
        ap₂ (λ (i : ℕ) (w : List ℕ). nat_eq i 0 && same_letters (letters t.0) w) (sym e) (sym b) ∙ ap (λ (i : ℕ). nat_eq (start t.0) i && same_letters (letters t.0) (letters (times_all (generator 0) u))) (sym a)

-- sums

pub length-in_algebra : (v : Element) → length (in_algebra v) ≡ length v
length-in_algebra [] = refl
length-in_algebra (t ∷ v) = omega (arith, length-in_algebra v)

pub algebra_length-in_algebra : (v : Element) → algebra_length (in_algebra v) ≡ element_length v
unfolding greatest
algebra_length-in_algebra [] = refl
algebra_length-in_algebra (t ∷ v) = ap (λ n. max (word_length t.0) n) (algebra_length-in_algebra v)

pub in_algebra-append : (u v : Element) → in_algebra (u ++ v) ≡ in_algebra u ++ in_algebra v
in_algebra-append u v = map-append (λ (t : Word × ℕ). (letters t.0, t.1)) u v

pub in_algebra-scaled : (c : ℕ) (v : Element) → in_algebra (scaled c v) ≡ scaled c (in_algebra v)
unfolding scaled
in_algebra-scaled c [] = refl
in_algebra-scaled c (t ∷ v) = ap (λ u. (letters t.0, c * t.1) ∷ u) (in_algebra-scaled c v)

in_algebra-word_times : (w : Word) (r : AlgebraElement) → in_algebra (word_times w r) ≡ letters_times (letters w) r
unfolding word_times letters_times
in_algebra-word_times w [] = refl
in_algebra-word_times w (t ∷ r) = ap₂ (λ u v. (u, t.1) ∷ v) (letters-times_all w t.0) (in_algebra-word_times w r)

pub in_algebra-element_times : (v : Element) (r : AlgebraElement) → in_algebra (element_times v r) ≡ product (in_algebra v) r
unfolding element_times product
in_algebra-element_times [] r = refl
in_algebra-element_times (t ∷ v) r =
    in_algebra-append (scaled t.1 (word_times t.0 r)) (element_times v r)
    ∙ ap₂ (λ x y. x ++ y) (in_algebra-scaled t.1 (word_times t.0 r) ∙ ap (scaled t.1) (in_algebra-word_times t.0 r)) (in_algebra-element_times v r)

-- an element of the module on the first generator, as one of the algebra
pub sum_in_algebra :
    (p : ℕ) (w e : Element) (f : AlgebraElement) → IsOnFirst e → in_algebra e ≡ f → IsElementOf p w e → IsAlgebraElementOf p (in_algebra w) f
sum_in_algebra p w e f first is sum =
    let first_w : IsOnFirst w = words_of_sum (λ v. start v ≡ 0) p w e sum first in
    record {
      reduced = reduced_in_algebra p w first_w sum.reduced;
      alike = λ u.
          ap (λ n. n % p) (coefficient-in_algebra w u first_w)
          ∙ (sum.alike (times_all (generator 0) u)
          ∙ (ap (λ n. n % p) (sym (coefficient-in_algebra e u first)) ∙ ap (λ v. coefficient same_letters v u % p) is));
    }

-- sums, scalings and products of such elements

pub first_words : (p : ℕ) (w e : Element) → IsElementOf p w e → IsOnFirst e → IsOnFirst w
first_words p w e sum first = words_of_sum (λ v. start v ≡ 0) p w e sum first

pub first_append : (u v : Element) → IsOnFirst u → IsOnFirst v → IsOnFirst (u ++ v)
first_append u v a b = All-append (λ (t : Word × ℕ). start t.0 ≡ 0) u v a b

pub first_scaled : (c : ℕ) (v : Element) → IsOnFirst v → IsOnFirst (scaled c v)
first_scaled c v first = All-scaled (λ w. start w ≡ 0) c v first

pub first_times : (v : Element) (r : AlgebraElement) → IsOnFirst v → IsOnFirst (element_times v r)
first_times v r first =
    element_times_keeps (λ w. start w ≡ 0) v r
    (All-weaker (λ (t : Word × ℕ). start t.0 ≡ 0) (λ (t : Word × ℕ). All (λ (s : List ℕ × ℕ). start (times_all t.0 s.0) ≡ 0) r)
    (λ t h k d l. start-times_all t.0 (slice_index_or r k d).0 ∙ h) v first)

-- on views: elements of the algebra that module elements stand for

pub view_reduced : (p : ℕ) (v : Element) (r : AlgebraElement) → IsOnFirst v → in_algebra v ≡ r → IsReduced ShortlexLetters p r → IsReduced Shortlex p v
view_reduced p v r first is reduced = let P : AlgebraElement → Type 0 = λ u. IsReduced ShortlexLetters p u in reduced_from_algebra p v first (subst P (sym is) reduced)

pub view_sum :
    (p : ℕ) (w u v : Element) (r s : AlgebraElement) → IsOnFirst u → IsOnFirst v → in_algebra u ≡ r → in_algebra v ≡ s → IsElementOf p w (u ++ v)
    → IsAlgebraElementOf p (in_algebra w) (r ++ s)
view_sum p w u v r s a b d e sum = sum_in_algebra p w (u ++ v) (r ++ s) (first_append u v a b) (in_algebra-append u v ∙ ap₂ (λ x y. x ++ y) d e) sum

pub view_scaled : (p c : ℕ) (w v : Element) (r : AlgebraElement) → IsOnFirst v → in_algebra v ≡ r → IsElementOf p w (scaled c v) → IsAlgebraElementOf p (in_algebra w) (scaled c r)
view_scaled p c w v r a d sum = sum_in_algebra p w (scaled c v) (scaled c r) (first_scaled c v a) (in_algebra-scaled c v ∙ ap (scaled c) d) sum

pub view_product :
    (p : ℕ) (w v : Element) (r s : AlgebraElement) → IsOnFirst v → in_algebra v ≡ r → IsElementOf p w (element_times v s) → IsAlgebraElementOf p (in_algebra w) (product r s)
view_product p w v r s a d sum = sum_in_algebra p w (element_times v s) (product r s) (first_times v s a) (in_algebra-element_times v s ∙ ap (λ u. product u s) d) sum

pub view_length : (v : Element) (r : AlgebraElement) → in_algebra v ≡ r → length v ≡ length r
view_length v r is = sym (length-in_algebra v) ∙ ap length is

pub view_algebra_length : (v : Element) (r : AlgebraElement) → in_algebra v ≡ r → element_length v ≡ algebra_length r
view_algebra_length v r is = sym (algebra_length-in_algebra v) ∙ ap algebra_length is

pub view_limit :
    (v : Element) (r s : AlgebraElement) → in_algebra v ≡ r
    → product_limit (length v * length s) (element_length v + algebra_length s) ≡ product_limit (length r * length s) (algebra_length r + algebra_length s)
view_limit v r s is = ap₂ (λ m n. product_limit (m * length s) (n + algebra_length s)) (view_length v r is) (view_algebra_length v r is)

-- one word

pub first_word : (w : Word) (v : Element) → start w ≡ 0 → v ≡ unit w → IsOnFirst v
first_word w v first is =
    let P : Element → Type 0 = λ u. IsOnFirst u in
    subst P (sym is) (All-cons (λ (t : Word × ℕ). start t.0 ≡ 0) (w, 1) [] first (All-nil (λ (t : Word × ℕ). start t.0 ≡ 0)))

pub reduced_word : (p : ℕ) (w : Word) (v : Element) → 1 < p → v ≡ unit w → IsReduced Shortlex p v
unfolding IsReduced AllBefore
reduced_word p w v large is = let P : Element → Type 0 = λ u. IsReduced Shortlex p u in subst P (sym is) (omega arith, large, tt, tt)

-- constants

pub start_generator : (i : ℕ) (w : Word) → w ≡ generator i → start w ≡ i
unfolding start
start_generator i w is = ap start is

pub constant_view :
    (p value : ℕ) (w v : Element) (one : Word) → one ≡ generator 0 → v ≡ unit one → IsElementOf p w (scaled value v) → IsAlgebraElementOf p (in_algebra w) (([], value) ∷ [])
unfolding scaled letters
constant_view p value w v one root is sum =
    sum_in_algebra p w (scaled value v) (([], value) ∷ []) (first_scaled value v (first_word one v (start_generator 0 one root) is))
    (ap (λ u. in_algebra (scaled value u)) is ∙ ap₂ (λ x n. (letters x, n) ∷ []) root (let e : value * 1 ≡ value = omega arith in e))
    sum

pub constant_zero : (p value : ℕ) (r : AlgebraElement) → value ≡ 0 → r ≡ [] → IsAlgebraElementOf p r (([], value) ∷ [])
unfolding IsReduced coefficient
constant_zero p value r zero none =
    let P : AlgebraElement → Type 0 = λ u. IsAlgebraElementOf p u (([], value) ∷ []) in
    subst P (sym none) (record { reduced = tt; alike = λ u. ap (λ n. n % p) (sym (nothing (same_letters [] u))) })
  where
    nothing : (b : Bool) → cond b value 0 + 0 ≡ 0
    nothing true = omega (arith, zero)
    nothing false = omega arith

-- letters

pub start_letter : (w v : Word) (x : ℕ) → w ≡ generator 0 → v ≡ times w x → start v ≡ 0
unfolding start
start_letter w v x root is = ap start is ∙ ap start root

pub length_letter : (w v : Word) (x : ℕ) → w ≡ generator 0 → v ≡ times w x → word_length v ≡ 1
unfolding letters
length_letter w v x root is = ap word_length is ∙ ap (λ u. word_length (times u x)) root

pub letter_view : (w v : Word) (x : ℕ) (e : Element) → w ≡ generator 0 → v ≡ times w x → e ≡ unit v → in_algebra e ≡ unit (x ∷ [])
unfolding letters
letter_view w v x e root is one = ap in_algebra one ∙ (ap (λ u. (letters u, 1) ∷ []) is ∙ ap (λ u. (letters (times u x), 1) ∷ []) root)

-- the product of two letters, less 1

pub kept_inverse :
    (p : ℕ) (root product one : Word) (x y : ℕ) → 1 < p → root ≡ generator 0 → product ≡ times (times root x) y → one ≡ generator 0
    → IsKept ((product, 1) ∷ (one, p - 1) ∷ [])
unfolding IsReduced AllBefore Shortlex letters
kept_inverse p root product one x y large is_root is_product is_one =
    let a : word_length product ≡ 2 = ap word_length is_product ∙ ap (λ w. word_length (times (times w x) y)) is_root in
    let b : word_length one ≡ 0 = ap word_length is_one in
    record {
      bound = p;
      reduced = (omega arith, large, (inl (omega arith), tt), (omega arith, omega arith, tt, tt));
      terms = omega arith;
      lengths = All-cons (λ (t : Word × ℕ). word_length t.0 ≤ most_length) (product, 1) ((one, p - 1) ∷ []) (omega arith)
          (All-cons (λ (t : Word × ℕ). word_length t.0 ≤ most_length) (one, p - 1) [] (omega arith) (All-nil (λ (t : Word × ℕ). word_length t.0 ≤ most_length)));
    }

pub first_inverse : (q : ℕ) (root product one : Word) (x y : ℕ) (v : Element) → root ≡ generator 0 → product ≡ times (times root x) y → one ≡ generator 0
    → v ≡ (product, 1) ∷ (one, q) ∷ [] → IsOnFirst v
unfolding start
first_inverse q root product one x y v is_root is_product is_one is =
    let P : Element → Type 0 = λ u. IsOnFirst u in
    subst P (sym is)
    (All-cons (λ (t : Word × ℕ). start t.0 ≡ 0) (product, 1) ((one, q) ∷ []) (ap start is_product ∙ ap start is_root)
    (All-cons (λ (t : Word × ℕ). start t.0 ≡ 0) (one, q) [] (ap start is_one) (All-nil (λ (t : Word × ℕ). start t.0 ≡ 0))))

pub inverse_view : (q : ℕ) (root product one : Word) (x y : ℕ) (v : Element) → root ≡ generator 0 → product ≡ times (times root x) y → one ≡ generator 0
    → v ≡ (product, 1) ∷ (one, q) ∷ [] → in_algebra v ≡ (x ∷ y ∷ [], 1) ∷ ([], q) ∷ []
unfolding letters
inverse_view q root product one x y v is_root is_product is_one is =
    ap in_algebra is
    ∙ ap₂ (λ u w. (letters u, 1) ∷ (letters w, q) ∷ []) (is_product ∙ ap (λ w. times (times w x) y) is_root) is_one

-- two terms

pub two_pairs : (terms mid begun : List Term) (a b : Term) → terms ≡ mid ++ b ∷ [] → mid ≡ begun ++ a ∷ [] → begun ≡ [] → pairs terms ≡ (a.word, a.coef) ∷ (b.word, b.coef) ∷ []
two_pairs terms mid begun a b is before none = ap pairs (is ∙ ap (λ u. u ++ b ∷ []) (before ∙ ap (λ u. u ++ a ∷ []) none))

pub first_two : (a b : Term) → start a.word ≡ 0 → start b.word ≡ 0 → IsOnFirst ((a.word, a.coef) ∷ (b.word, b.coef) ∷ [])
first_two a b x y =
    All-cons (λ (t : Word × ℕ). start t.0 ≡ 0) (a.word, a.coef) ((b.word, b.coef) ∷ []) x (All-cons (λ (t : Word × ℕ). start t.0 ≡ 0) (b.word, b.coef) [] y (All-nil (λ (t : Word × ℕ). start t.0 ≡ 0)))

pub words_of_two :
    (p : ℕ) (v : Element) (a b : Term) → IsElementOf p v ((a.word, a.coef) ∷ (b.word, b.coef) ∷ []) → All (λ t. (t.0 ≡ letters a.word) ⊎ (t.0 ≡ letters b.word)) (in_algebra v)
words_of_two p v a b sum =
    All-map (λ (t : List ℕ × ℕ). (t.0 ≡ letters a.word) ⊎ (t.0 ≡ letters b.word)) (λ (t : Word × ℕ). (letters t.0, t.1)) v
    (words_of_sum (λ w. (letters w ≡ letters a.word) ⊎ (letters w ≡ letters b.word)) p v ((a.word, a.coef) ∷ (b.word, b.coef) ∷ []) sum
    (All-cons (λ (t : Word × ℕ). (letters t.0 ≡ letters a.word) ⊎ (letters t.0 ≡ letters b.word)) (a.word, a.coef) ((b.word, b.coef) ∷ []) (inl refl)
    (All-cons (λ (t : Word × ℕ). (letters t.0 ≡ letters a.word) ⊎ (letters t.0 ≡ letters b.word)) (b.word, b.coef) [] (inr refl)
    (All-nil (λ (t : Word × ℕ). (letters t.0 ≡ letters a.word) ⊎ (letters t.0 ≡ letters b.word))))))

-- elements that are reduced over each field

pub zero_reduced : (p : ℕ) (r : AlgebraElement) → r ≡ [] → IsReduced ShortlexLetters p r
unfolding IsReduced
zero_reduced p r none = let P : AlgebraElement → Type 0 = λ u. IsReduced ShortlexLetters p u in subst P (sym none) tt

pub zero_reduced_module : (p : ℕ) (v : Element) → v ≡ [] → IsReduced Shortlex p v
unfolding IsReduced
zero_reduced_module p v none = let P : Element → Type 0 = λ u. IsReduced Shortlex p u in subst P (sym none) tt

pub letters_reduced : (p : ℕ) (u : List ℕ) (r : AlgebraElement) → 1 < p → r ≡ unit u → IsReduced ShortlexLetters p r
unfolding IsReduced AllBefore
letters_reduced p u r large is = let P : AlgebraElement → Type 0 = λ v. IsReduced ShortlexLetters p v in subst P (sym is) (omega arith, large, tt, tt)
