-- Words of a book, compared from their ends.
use Rattle.std.proofs.Common.{◌≡◌, ◌≢◌, ℕ, ◌+◌, ◌<◌, ◌≤◌, ◌⊎◌, inl, inr, Bool, true, false, ltb, List, [], ◌∷◌, ◌++◌, length, get_or, refl, sym, ap, subst, ◌∙◌, arith}
use Rattle.std.specs.Prelude.{MatchBool}
use Rattle.std.proofs.lemmas.Bool.{cases_lt, ltb-true, ltb-false}
use Rattle.std.proofs.lemmas.Option.{slice_get-get_or}
use Rattle.std.proofs.lemmas.List.{length_push}
use Rattle.ve_theory.specs.Words.{Word, generator, times, start, letters, word_length, DiffersBelow, IsSmaller}
use Rattle.ve_table.specs.declared.origin.Origin.{Origin}
use Rattle.ve_table.specs.declared.origin.Origin.TheVariants.{Root, Child}
use Rattle.ve_table.specs.declared.entry.Entry.{Entry}
use Rattle.ve_table.specs.declared.birth.Birth.{Birth}
use Rattle.ve_table.specs.Books.{IsOriginOf}
use Rattle.ve_table.specs.Births.{book_of, word_in, product_of, IsBook, IsShorter, Begins, same, longer, IsPrefix, CanCompare, SmallerBirth}

-- words by origins

root_is : (words : List Word) (b i : ℕ) (o : Origin) (w : Word) → IsOriginOf words b o w → o ≡ Root i → w ≡ generator i
unfolding IsOriginOf
root_is words b i o w is origin = subst (λ o. IsOriginOf words b o w) origin is

child_is : (words : List Word) (b p x : ℕ) (o : Origin) (w : Word) → IsOriginOf words b o w → o ≡ Child p x → (p < b) × (w ≡ times (get_or words p (generator 0)) x)
unfolding IsOriginOf
child_is words b p x o w is origin = subst (λ o. IsOriginOf words b o w) origin is

pub root_word : (es : List Entry) (b i : ℕ) (d : Entry) → IsBook es → b < length es → (get_or es b d).origin ≡ Root i → word_in es b ≡ generator i
root_word es b i d book lt origin = root_is (book_of es) b i (get_or es b d).origin (word_in es b) (book.origins b (get_or es b d) (slice_get-get_or es b d lt)) origin

pub child_word : (es : List Entry) (b p x : ℕ) (d : Entry) → IsBook es → b < length es → (get_or es b d).origin ≡ Child p x → (p < b) × (word_in es b ≡ times (word_in es p) x)
child_word es b p x d book lt origin = child_is (book_of es) b p x (get_or es b d).origin (word_in es b) (book.origins b (get_or es b d) (slice_get-get_or es b d lt)) origin

pub length_times : (w : Word) (x : ℕ) → word_length (times w x) ≡ word_length w + 1
unfolding letters
length_times w x = length_push (letters w) x

pub length_at : (es : List Entry) (b : ℕ) (d : Entry) → IsBook es → b < length es → (get_or es b d).length ≡ word_length (word_in es b)
length_at es b d book lt = book.lengths b (get_or es b d) (slice_get-get_or es b d lt)

-- beginnings

pub begins_through : (u v w : Word) → Begins u v → Begins v w → Begins u w
begins_through u _ _ first (same w) = first
begins_through u _ _ first (longer v w x second) = longer u w x (begins_through u v w first second)

pub begins_length : (v w : Word) → Begins v w → (v ≡ w) ⊎ (word_length v < word_length w)
begins_length _ _ (same w) = inl refl
begins_length _ _ (longer v w x rest) = inr (elim (begins_length v w rest) [ inl equal ↦ let e = ap word_length equal in omega (arith, e, length_times w x) | inr less ↦ omega (arith, less, length_times w x) ])

differs_left : (u v s : List ℕ) → DiffersBelow u v → DiffersBelow (u ++ s) v
unfolding DiffersBelow
differs_left [] v s differs = absurd differs
differs_left (x ∷ u) [] s differs = absurd differs
differs_left (x ∷ u) (y ∷ v) s (inl less) = inl less
differs_left (x ∷ u) (y ∷ v) s (inr rest) = inr (rest.0, differs_left u v s rest.1)

differs_right : (u v s : List ℕ) → DiffersBelow u v → DiffersBelow u (v ++ s)
unfolding DiffersBelow
differs_right [] v s differs = absurd differs
differs_right (x ∷ u) [] s differs = absurd differs
differs_right (x ∷ u) (y ∷ v) s (inl less) = inl less
differs_right (x ∷ u) (y ∷ v) s (inr rest) = inr (rest.0, differs_right u v s rest.1)

smaller_left : (v w : Word) (x : ℕ) → IsSmaller v w → IsSmaller (times v x) w
unfolding start letters
smaller_left v w x (inl less) = inl less
smaller_left v w x (inr rest) = inr (rest.0, differs_left (letters v) (letters w) (x ∷ []) rest.1)

smaller_right : (v w : Word) (x : ℕ) → IsSmaller v w → IsSmaller v (times w x)
unfolding start letters
smaller_right v w x (inl less) = inl less
smaller_right v w x (inr rest) = inr (rest.0, differs_right (letters v) (letters w) (x ∷ []) rest.1)

begins_left : (a a' b : Word) → Begins a a' → IsSmaller a b → IsSmaller a' b
begins_left _ _ b (same a) smaller = smaller
begins_left _ _ b (longer a w x rest) smaller = smaller_left w b x (begins_left a w b rest smaller)

begins_right : (a b b' : Word) → Begins b b' → IsSmaller a b → IsSmaller a b'
begins_right a _ _ (same b) smaller = smaller
begins_right a _ _ (longer b w x rest) smaller = smaller_right a w x (begins_right a b w rest smaller)

pub smaller_longer : (a a' b b' : Word) → Begins a a' → Begins b b' → IsSmaller a b → IsSmaller a' b'
smaller_longer a a' b b' first second smaller = begins_left a a' b' first (begins_right a b b' second smaller)

smaller_generator : (i j : ℕ) → i < j → IsSmaller (generator i) (generator j)
unfolding start
smaller_generator i j lt = inl lt

differs_last : (u : List ℕ) (x y : ℕ) → x < y → DiffersBelow (u ++ x ∷ []) (u ++ y ∷ [])
unfolding DiffersBelow
differs_last [] x y lt = inl lt
differs_last (z ∷ u) x y lt = inr (refl, differs_last u x y lt)

pub smaller_letter : (w : Word) (x y : ℕ) → x < y → IsSmaller (times w x) (times w y)
unfolding start letters
smaller_letter w x y lt = inr (refl, differs_last (letters w) x y lt)

match_lt : (m n : ℕ) (P Q : Type 0) → (m < n → P) → (n ≤ m → Q) → MatchBool (ltb m n) P Q
match_lt m n P Q below above = by (ltb m n) (λ is. below (ltb-true m n is)) (λ is. above (ltb-false m n is))
  where
    by : (b : Bool) → (b ≡ true → P) → (b ≡ false → Q) → MatchBool b P Q
    by true first second = first refl
    by false first second = second refl

-- different generators, or different letters after one word, decide between longer words
pub roots_decide : (r s : ℕ) (v w : Word) → r ≢ s → Begins (generator r) v → Begins (generator s) w → MatchBool (ltb r s) (IsSmaller v w) (IsSmaller w v)
roots_decide r s v w differ first second =
    match_lt r s (IsSmaller v w) (IsSmaller w v) (λ lt. smaller_longer (generator r) v (generator s) w first second (smaller_generator r s lt))
    (λ le. smaller_longer (generator s) w (generator r) v second first (smaller_generator s r (omega (arith, le, differ))))

pub letters_decide : (u : Word) (x y : ℕ) (v w : Word) → x ≢ y → Begins (times u x) v → Begins (times u y) w → MatchBool (ltb x y) (IsSmaller v w) (IsSmaller w v)
letters_decide u x y v w differ first second =
    match_lt x y (IsSmaller v w) (IsSmaller w v) (λ lt. smaller_longer (times u x) v (times u y) w first second (smaller_letter u x y lt))
    (λ le. smaller_longer (times u y) w (times u x) v second first (smaller_letter u y x (omega (arith, le, differ))))

-- different ids have different words
pub words_differ : (es : List Entry) (a b : ℕ) → IsBook es → a < length es → b < length es → a ≢ b → word_in es a ≢ word_in es b
words_differ es a b book first second differ equal =
    elim (cases_lt a b) [
      | inl lt ↦ book.distinct a b (generator 0) lt (omega (arith, second, book.count)) equal
      | inr le ↦ book.distinct b a (generator 0) (omega (arith, le, differ)) (omega (arith, first, book.count)) (sym equal)
    ]

-- the word without its last letter begins it
pub shorter_begins : (es : List Entry) (word shorter : Birth) → IsShorter es word shorter → Begins (product_of es shorter) (product_of es word)
shorter_begins es word shorter is = longer (product_of es shorter) (word_in es word.parent) word.letter (subst (λ w. Begins (product_of es shorter) w) is.product (same (product_of es shorter)))

pub shorter_length : (es : List Entry) (word shorter : Birth) → IsShorter es word shorter → word_length (word_in es word.parent) ≡ word_length (word_in es shorter.parent) + 1
shorter_length es word shorter is = ap word_length (sym is.product) ∙ length_times (word_in es shorter.parent) shorter.letter

pub parent_begins : (es : List Entry) (word : Birth) (v : Word) → word_in es word.parent ≡ v → Begins v (product_of es word)
parent_begins es word v is = longer v (word_in es word.parent) word.letter (subst (λ w. Begins v w) (sym is) (same v))

-- beginnings of one length of words that can be compared are different
pub prefixes_differ : (es : List Entry) (count : ℕ) (a b first second : Birth) → CanCompare es a b → IsPrefix es count a first → IsPrefix es count b second
    → (count ≡ word_length (word_in es a.parent)) ⊎ (count ≡ word_length (word_in es b.parent)) → product_of es first ≢ product_of es second
prefixes_differ es count a b first second can first_is second_is (inl whole) equal =
    let here : product_of es first ≡ product_of es a = whole_word a first first_is whole in
    can.not_first (subst (λ w. Begins w (product_of es b)) (sym equal ∙ here) second_is.begins)
  where
    whole_word : (a first : Birth) → IsPrefix es count a first → count ≡ word_length (word_in es a.parent) → product_of es first ≡ product_of es a
    whole_word a first is whole =
        elim (begins_length (product_of es first) (product_of es a) is.begins) [
          | inl equal ↦ equal
          | inr less ↦ absurd (omega (arith, less, whole, is.count, length_times (word_in es first.parent) first.letter, length_times (word_in es a.parent) a.letter))
        ]
prefixes_differ es count a b first second can first_is second_is (inr whole) equal =
    let here : product_of es second ≡ product_of es b = whole_word b second second_is whole in
    can.not_second (subst (λ w. Begins w (product_of es a)) (equal ∙ here) first_is.begins)
  where
    whole_word : (a first : Birth) → IsPrefix es count a first → count ≡ word_length (word_in es a.parent) → product_of es first ≡ product_of es a
    whole_word a first is whole =
        elim (begins_length (product_of es first) (product_of es a) is.begins) [
          | inl equal ↦ equal
          | inr less ↦ absurd (omega (arith, less, whole, is.count, length_times (word_in es first.parent) first.letter, length_times (word_in es a.parent) a.letter))
        ]

pub compared : (es : List Entry) (result : Bool) (a b first second : Birth) → Begins (product_of es first) (product_of es a) → Begins (product_of es second) (product_of es b)
    → MatchBool result (SmallerBirth es first second) (SmallerBirth es second first) → MatchBool result (SmallerBirth es a b) (SmallerBirth es b a)
compared es true a b first second first_begins second_begins is = smaller_longer (product_of es first) (product_of es a) (product_of es second) (product_of es b) first_begins second_begins is
compared es false a b first second first_begins second_begins is = smaller_longer (product_of es second) (product_of es b) (product_of es first) (product_of es a) second_begins first_begins is
