-- Letters and generators of sums and products stand in their parts.
use Rattle.std.proofs.Common.{◌≡◌, ℕ, ◌<◌, List, [], ◌∷◌, ◌++◌, All, refl, sym, subst, ap, ◌∙◌, slice_index_or}
use Rattle.std.proofs.lemmas.List.Elements.{All-nil, All-cons, All-append, All-map}
use Rattle.ve_theory.specs.Combinations.{scaled, unit}
use Rattle.ve_theory.specs.Words.{Word, generator, letters, start, times_all}
use Rattle.ve_theory.specs.Elements.{Element, AlgebraElement, IsElementOf, element_times}
use Rattle.ve_lemmas.proofs.Words.{start-times_all, letters-times_all}
use Rattle.ve_lemmas.proofs.Sums.{All-scaled}
use Rattle.ve_pres.specs.Terms.{HasLettersBelow, HasWordsBelow, in_algebra}
use Rattle.ve_pres.proofs.Reduced.{words_of_sum}
use Rattle.ve_pres.proofs.Products.{element_times_keeps}
use Rattle.ve_pres.proofs.WeightSums.{words_in_algebra}

-- the module

pub first_generator : (v : Element) (m n : ℕ) → v ≡ unit (generator 0) → 0 < m → HasWordsBelow m n v
unfolding start letters
first_generator v m n is some =
    let P : Element → Type 0 = λ u. HasWordsBelow m n u in
    subst P (sym is)
    (All-cons (λ (t : Word × ℕ). (start t.0 < m) × All (λ (x : ℕ). x < n) (letters t.0)) (generator 0, 1) [] (some, All-nil (λ (x : ℕ). x < n))
    (All-nil (λ (t : Word × ℕ). (start t.0 < m) × All (λ (x : ℕ). x < n) (letters t.0))))

pub words_of_append : (p m n : ℕ) (w u v : Element) → IsElementOf p w (u ++ v) → HasWordsBelow m n u → HasWordsBelow m n v → HasWordsBelow m n w
words_of_append p m n w u v sum left right =
    words_of_sum (λ x. (start x < m) × All (λ y. y < n) (letters x)) p w (u ++ v) sum
    (All-append (λ (t : Word × ℕ). (start t.0 < m) × All (λ (y : ℕ). y < n) (letters t.0)) u v left right)

pub words_of_scaled : (p c m n : ℕ) (w v : Element) → IsElementOf p w (scaled c v) → HasWordsBelow m n v → HasWordsBelow m n w
words_of_scaled p c m n w v sum all =
    words_of_sum (λ x. (start x < m) × All (λ y. y < n) (letters x)) p w (scaled c v) sum (All-scaled (λ x. (start x < m) × All (λ (y : ℕ). y < n) (letters x)) c v all)

pub words_of_times : (p m n : ℕ) (w v : Element) (r : AlgebraElement) → IsElementOf p w (element_times v r) → HasWordsBelow m n v → HasLettersBelow n r → HasWordsBelow m n w
words_of_times p m n w v r sum left right =
    words_of_sum (λ x. (start x < m) × All (λ y. y < n) (letters x)) p w (element_times v r) sum
    (element_times_keeps (λ x. (start x < m) × All (λ y. y < n) (letters x)) v r (λ k d l i e j. product (slice_index_or v k d).0 (slice_index_or r i e).0 (left k d l) (right i e j)))
  where
    product : (x : Word) (u : List ℕ) → (start x < m) × All (λ y. y < n) (letters x) → All (λ y. y < n) u → (start (times_all x u) < m) × All (λ y. y < n) (letters (times_all x u))
    product x u a b =
        let P : ℕ → Type 0 = λ i. i < m in
        let Q : List ℕ → Type 0 = λ z. All (λ (y : ℕ). y < n) z in
        (subst P (sym (start-times_all x u)) a.0, subst Q (sym (letters-times_all x u)) (All-append (λ (y : ℕ). y < n) (letters x) u a.1 b))

-- the algebra

in_algebra_below : (n : ℕ) (w : Element) → All (λ t. All (λ y. y < n) (letters t.0)) w → HasLettersBelow n (in_algebra w)
in_algebra_below n w all = All-map (λ (t : List ℕ × ℕ). All (λ (y : ℕ). y < n) t.0) (λ (t : Word × ℕ). (letters t.0, t.1)) w all

pub letters_of_append :
    (p n : ℕ) (w u v : Element) (r s : AlgebraElement) → in_algebra u ≡ r → in_algebra v ≡ s → IsElementOf p w (u ++ v) → HasLettersBelow n r → HasLettersBelow n s → HasLettersBelow n (in_algebra w)
letters_of_append p n w u v r s a b sum left right =
    in_algebra_below n w (words_of_sum (λ x. All (λ y. y < n) (letters x)) p w (u ++ v) sum
    (All-append (λ (t : Word × ℕ). All (λ (y : ℕ). y < n) (letters t.0)) u v (words_in_algebra (λ z. All (λ (y : ℕ). y < n) z) u r a left) (words_in_algebra (λ z. All (λ (y : ℕ). y < n) z) v s b right)))

pub letters_of_scaled : (p c n : ℕ) (w v : Element) (r : AlgebraElement) → in_algebra v ≡ r → IsElementOf p w (scaled c v) → HasLettersBelow n r → HasLettersBelow n (in_algebra w)
letters_of_scaled p c n w v r a sum all =
    in_algebra_below n w (words_of_sum (λ x. All (λ y. y < n) (letters x)) p w (scaled c v) sum
    (All-scaled (λ x. All (λ (y : ℕ). y < n) (letters x)) c v (words_in_algebra (λ z. All (λ (y : ℕ). y < n) z) v r a all)))

pub letters_of_times :
    (p n : ℕ) (w v : Element) (r s : AlgebraElement) → in_algebra v ≡ r → IsElementOf p w (element_times v s) → HasLettersBelow n r → HasLettersBelow n s → HasLettersBelow n (in_algebra w)
letters_of_times p n w v r s a sum left right =
    let inside : All (λ t. All (λ y. y < n) (letters t.0)) v = words_in_algebra (λ z. All (λ (y : ℕ). y < n) z) v r a left in
    in_algebra_below n w (words_of_sum (λ x. All (λ y. y < n) (letters x)) p w (element_times v s) sum
    (element_times_keeps (λ x. All (λ y. y < n) (letters x)) v s (λ k d l i e j. product (slice_index_or v k d).0 (slice_index_or s i e).0 (inside k d l) (right i e j))))
  where
    product : (x : Word) (u : List ℕ) → All (λ y. y < n) (letters x) → All (λ y. y < n) u → All (λ y. y < n) (letters (times_all x u))
    product x u b c = let Q : List ℕ → Type 0 = λ z. All (λ (y : ℕ). y < n) z in subst Q (sym (letters-times_all x u)) (All-append (λ (y : ℕ). y < n) (letters x) u b c)

pub letters_of_zero : (n : ℕ) (r : AlgebraElement) → r ≡ [] → HasLettersBelow n r
letters_of_zero n r none = let P : AlgebraElement → Type 0 = λ u. HasLettersBelow n u in subst P (sym none) (All-nil (λ (t : List ℕ × ℕ). All (λ (y : ℕ). y < n) t.0))

pub letters_of_constant : (p value n : ℕ) (w v : Element) (root : Word) → root ≡ generator 0 → v ≡ unit root → IsElementOf p w (scaled value v) → HasLettersBelow n (in_algebra w)
unfolding letters
letters_of_constant p value n w v root is_root is sum =
    letters_of_scaled p value n w v (in_algebra v) refl sum
    (let P : AlgebraElement → Type 0 = λ u. HasLettersBelow n u in
    subst P (sym (ap in_algebra is ∙ ap (λ x. (letters x, 1) ∷ []) is_root)) (All-cons (λ (t : List ℕ × ℕ). All (λ (y : ℕ). y < n) t.0) ([], 1) [] (All-nil (λ (y : ℕ). y < n)) (All-nil (λ (t : List ℕ × ℕ). All (λ (y : ℕ). y < n) t.0))))
