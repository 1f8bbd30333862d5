-- The products of one reach, letter weight by letter weight.
use Rattle.std.proofs.Common.{◌≡◌, ℕ, zero, suc, ◌+◌, ◌-◌, ◌<◌, ◌≤◌, ◌⊎◌, inl, inr, List, [], ◌∷◌, ◌++◌, length, get_or, refl, sym, ap, subst, ◌∙◌, arith, eqb-true, eq-eqb}
use Rattle.std.specs.Prelude.{All, AllPairs, Contains, nat_eq, slice_index}
use Rattle.std.specs.List.{range_with_len, AllWithin}
use Rattle.std.proofs.lemmas.Bool.{cases_lt, cases_eq}
use Rattle.std.proofs.lemmas.Option.{slice_get-get_or}
use Rattle.std.proofs.lemmas.List.{get_or_default, get_or_past, get_or-map, length-map}
use Rattle.std.proofs.lemmas.List.FromFn.{get_or-range_with_len, length-range_with_len}
use Rattle.std.proofs.lemmas.List.Elements.{All-nil, All-append, All-map, All-filter, All-contains, filter_passes, Contains-append_left, Contains-append_right}
use Rattle.std.proofs.lemmas.List.Kept.{AllPairs-cons, AllPairs-filter}
use Rattle.ve_theory.specs.Words.{Word, generator, times, word_weight, letter_weight, IsSmaller, Weighted}
use Rattle.ve_lemmas.proofs.Lists.{Contains-filter, range_below}
use Rattle.ve_lemmas.proofs.Weights.{weights_rise}
use Rattle.ve_table.specs.declared.entry.Entry.{Entry}
use Rattle.ve_table.specs.declared.birth.Birth.{Birth}
use Rattle.ve_table.specs.Steps.{HasRisingReaches}
use Rattle.ve_table.specs.Births.{word_in, product_of, IsWeightedBook, Begins, same, longer, CanCompare, SmallerBirth, Merges, letters_weighing, births_of, all_births, IsBirth, AreBirths}
use Rattle.ve_table.proofs.Comparing.{smaller_longer, smaller_letter}
use Rattle.ve_table.proofs.Merging.{first_before, rest_rises, all_merged, merged_rises, merged_has}

-- weights

pub positive_letter : (weights : List ℕ) (x : ℕ) → All (λ w. 0 < w) weights → 0 < letter_weight weights x
positive_letter weights x positive =
    elim (cases_lt x (length weights)) [
      | inl lt ↦ positive x 1 lt
      | inr past ↦ let e = get_or_past weights x 1 past in omega (arith, e)
    ]

pub weight_times : (weights : List ℕ) (w : Word) (x : ℕ) → word_weight weights (times w x) ≡ word_weight weights w + letter_weight weights x
unfolding word_weight
weight_times weights w x = refl

begins_weight : (weights : List ℕ) (v w : Word) → All (λ w. 0 < w) weights → Begins v w → (v ≡ w) ⊎ (word_weight weights v < word_weight weights w)
begins_weight weights _ _ positive (same w) = inl refl
begins_weight weights _ _ positive (longer v w x rest) =
    inr (elim (begins_weight weights v w positive rest) [
      | inl equal ↦ let e = ap (word_weight weights) equal in omega (arith, e, weight_times weights w x, positive_letter weights x positive)
      | inr less ↦ omega (arith, less, weight_times weights w x)
    ])

pub last_letter : (v w : Word) (x y : ℕ) → times v x ≡ times w y → x ≡ y
last_letter v w x y equal = cc

-- words of one weight with different letters at their ends can be compared
pub comparable : (weights : List ℕ) (es : List Entry) (level : ℕ) (a b : Birth) → IsWeightedBook weights es → IsBirth weights es level a → IsBirth weights es level b → letter_weight weights a.letter < letter_weight weights b.letter
    → CanCompare es a b
comparable weights es level a b book first second less = record {
  first = first.parent;
  second = second.parent;
  not_first = λ begins.
      elim (begins_weight weights (product_of es a) (product_of es b) book.positive begins) [
        | inl equal ↦ let e = ap (letter_weight weights) (last_letter (word_in es a.parent) (word_in es b.parent) a.letter b.letter equal) in omega (arith, e, less)
        | inr smaller ↦ omega (arith, smaller, first.reaches, second.reaches)
      ];
  not_second = λ begins.
      elim (begins_weight weights (product_of es b) (product_of es a) book.positive begins) [
        | inl equal ↦ let e = ap (letter_weight weights) (last_letter (word_in es b.parent) (word_in es a.parent) b.letter a.letter equal) in omega (arith, e, less)
        | inr smaller ↦ omega (arith, smaller, first.reaches, second.reaches)
      ];
}

pub reach_at : (weights : List ℕ) (es : List Entry) (k : ℕ) (d : Entry) → IsWeightedBook weights es → k < length es → (get_or es k d).reach ≡ word_weight weights (word_in es k)
reach_at weights es k d book lt = book.weighed k (get_or es k d) (slice_get-get_or es k d lt)

pub smaller_of_weight : (weights : List ℕ) (v w : Word) → Weighted weights v w → word_weight weights v ≡ word_weight weights w → IsSmaller v w
unfolding Weighted
smaller_of_weight weights v w (inl less) equal = absurd (omega (arith, less, equal))
smaller_of_weight weights v w (inr rest) equal = rest.1

pub rising_book : (weights : List ℕ) (es : List Entry) → IsWeightedBook weights es → HasRisingReaches es
rising_book weights es book i j d lt within =
    omega (
      arith,
      reach_at weights es i d book (omega (arith, lt, within)),
      reach_at weights es j d book within,
      weights_rise weights (word_in es i) (word_in es j) (book.rising i j (generator 0) lt (omega (arith, within, book.book.count))),
    )

-- letters of a weight

range_rises : (n : ℕ) → AllPairs (λ x y. x < y) (range_with_len 0 n)
range_rises n i j d lt within =
    let in' : j < n = omega (arith, within, length-range_with_len 0 n) in
    omega (arith, get_or-range_with_len 0 n j d in', get_or-range_with_len 0 n i d (omega (arith, lt, in')), lt)

letters_rise : (weights : List ℕ) (weight : ℕ) → AllPairs (λ x y. x < y) (letters_weighing weights weight)
letters_rise weights weight = AllPairs-filter (λ x y. x < y) (λ x. nat_eq (slice_index weights x) weight) (range_with_len 0 (length weights)) (range_rises (length weights))

letters_weigh : (weights : List ℕ) (weight : ℕ) → All (λ x. (x < length weights) × (letter_weight weights x ≡ weight)) (letters_weighing weights weight)
letters_weigh weights weight k d lt =
    let x : ℕ = get_or (letters_weighing weights weight) k d in
    let within : x < length weights = All-filter (λ x. nat_eq (slice_index weights x) weight) (λ x. x < length weights) (range_with_len 0 (length weights)) (range_below (length weights)) k d lt in
    let is : get_or weights x 0 ≡ weight = eqb-true (get_or weights x 0) weight (filter_passes (λ x. nat_eq (slice_index weights x) weight) (range_with_len 0 (length weights)) k d lt) in
    (within, get_or_default weights x 1 0 within ∙ is)

contains_letter : (weights : List ℕ) (weight x : ℕ) → x < length weights → letter_weight weights x ≡ weight → Contains (letters_weighing weights weight) x
contains_letter weights weight x within is =
    Contains-filter (λ x. nat_eq (slice_index weights x) weight) (range_with_len 0 (length weights)) x
    (x, omega (arith, within, length-range_with_len 0 (length weights)), get_or-range_with_len 0 (length weights) x x within ∙ omega arith)
    (eq-eqb (get_or weights x 0) weight (get_or_default weights x 0 1 within ∙ is))

-- ids times letters

all_flat : (P : Birth → Type 0) (letters : List ℕ) (first n : ℕ) → ((p : ℕ) → first ≤ p → p < first + n → All P (births_of p letters)) → All P (all_births first n letters)
all_flat P letters first zero each = All-nil P
all_flat P letters first (suc n) each =
    All-append P (births_of first letters) (all_births (first + 1) n letters) (each first (omega arith) (omega arith))
    (all_flat P letters (first + 1) n (λ p le lt. each p (omega (arith, le)) (omega (arith, lt))))

pub contains_births_of : (p x : ℕ) (letters : List ℕ) → Contains letters x → Contains (births_of p letters) (record { parent = p; letter = x })
contains_births_of p x letters found =
    (found.0, omega (arith, found.1, length-map letters (birth p)), get_or-map (birth p) letters found.0 x (birth p x) found.1 ∙ ap (birth p) found.2)
  where
    birth : ℕ → ℕ → Birth
    birth p x = record { parent = p; letter = x }

contains_birth : (letters : List ℕ) (first n p x : ℕ) → first ≤ p → p < first + n → Contains letters x → Contains (all_births first n letters) (record { parent = p; letter = x })
contains_birth letters first zero p x le lt found = absurd (omega (arith, le, lt))
contains_birth letters first (suc n) p x le lt found =
    elim (cases_eq p first) [
      | inl here ↦ Contains-append_left (births_of first letters) (all_births (first + 1) n letters) (record { parent = p; letter = x })
          (subst (λ f. Contains (births_of f letters) (record { parent = p; letter = x })) here (contains_births_of p x letters found))
      | inr there ↦ Contains-append_right (births_of first letters) (all_births (first + 1) n letters) (record { parent = p; letter = x })
          (contains_birth letters (first + 1) n p x (omega (arith, le, there)) (omega (arith, lt)) found)
    ]

pub pairs_append : {X : Type 0} (R : X → X → Type 0) (xs ys : List X) → AllPairs R xs → AllPairs R ys → All (λ x. All (R x) ys) xs → AllPairs R (xs ++ ys)
pairs_append R [] ys first second between = second
pairs_append R (x ∷ xs) ys first second between =
    AllPairs-cons R x (xs ++ ys) (All-append (R x) xs ys (first_before R x xs first) (between 0 x (omega arith)))
    (pairs_append R xs ys (rest_rises R x xs first) second (λ k d lt. between (suc k) d (omega (arith, lt))))

no_pairs : {X : Type 0} (R : X → X → Type 0) → AllPairs R []
no_pairs R i j d lt within = absurd (omega (arith, within))

-- what stands in a list
pub element : {X : Type 0} (xs : List X) (k : ℕ) → k < length xs → X
element [] k lt = absurd (omega (arith, lt))
element (x ∷ xs) k lt = x

births_of_rise : (es : List Entry) (p : ℕ) (letters : List ℕ) → AllPairs (λ x y. x < y) letters → AllPairs (SmallerBirth es) (births_of p letters)
births_of_rise es p [] rising = no_pairs (SmallerBirth es)
births_of_rise es p (x ∷ letters) rising =
    AllPairs-cons (SmallerBirth es) (record { parent = p; letter = x }) (births_of p letters)
    (All-map (SmallerBirth es (record { parent = p; letter = x })) (λ y. record { parent = p; letter = y }) letters (λ k d lt. smaller_letter (word_in es p) x (get_or letters k d) (first_before (λ x y. x < y) x letters rising k d lt)))
    (births_of_rise es p letters (rest_rises (λ x y. x < y) x letters rising))

begins_product : (es : List Entry) (p x : ℕ) → Begins (word_in es p) (times (word_in es p) x)
begins_product es p x = longer (word_in es p) (word_in es p) x (same (word_in es p))

pub births_rise : (weights : List ℕ) (es : List Entry) (r : ℕ) (letters : List ℕ) (first n : ℕ) → IsWeightedBook weights es → AllPairs (λ x y. x < y) letters
    → ((p : ℕ) → first ≤ p → p < first + n → (p < length es) × (word_weight weights (word_in es p) ≡ r)) → AllPairs (SmallerBirth es) (all_births first n letters)
births_rise weights es r letters first zero book rising each = no_pairs (SmallerBirth es)
births_rise weights es r letters first (suc n) book rising each =
    pairs_append (SmallerBirth es) (births_of first letters) (all_births (first + 1) n letters) (births_of_rise es first letters rising)
    (births_rise weights es r letters (first + 1) n book rising (λ p le lt. each p (omega (arith, le)) (omega (arith, lt))))
    (All-map (λ a. All (SmallerBirth es a) (all_births (first + 1) n letters)) (λ x. record { parent = first; letter = x }) letters
    (λ k d lt. all_flat (SmallerBirth es (record { parent = first; letter = get_or letters k d })) letters (first + 1) n (λ q le less. later (get_or letters k d) q (omega (arith, le)) (omega (arith, less)))))
  where
    later : (x q : ℕ) → first < q → q < first + suc n → All (SmallerBirth es (record { parent = first; letter = x })) (births_of q letters)
    later x q lt less =
        let here = each first (omega arith) (omega arith) in
        let there = each q (omega (arith, lt)) less in
        let smaller : IsSmaller (word_in es first) (word_in es q) =
        smaller_of_weight weights (word_in es first) (word_in es q) (book.rising first q (generator 0) lt (omega (arith, there.0, book.book.count))) (here.1 ∙ sym there.1) in
        All-map (SmallerBirth es (record { parent = first; letter = x })) (λ y. record { parent = q; letter = y }) letters
        (λ k d in'. smaller_longer (word_in es first) (times (word_in es first) x) (word_in es q) (times (word_in es q) (get_or letters k d)) (begins_product es first x) (begins_product es q (get_or letters k d)) smaller)

-- the products of a letter weight

-- the range of the ids of a reach
pub record IsReachRange (es : List Entry) (reach from to : ℕ) : Type 0 where
  pub bound : to ≤ length es
  pub below : AllWithin (λ (e : Entry). e.reach < reach) es 0 from
  pub here : AllWithin (λ (e : Entry). e.reach ≡ reach) es from to
  pub above : AllWithin (λ (e : Entry). reach < e.reach) es to (length es)

-- all births on letters of the weight
pub record AreOfWeight (weights : List ℕ) (es : List Entry) (level weight : ℕ) (births : List Birth) : Type 0 where
  pub rising : AllPairs (SmallerBirth es) births
  pub only : All (λ b. IsBirth weights es level b × (letter_weight weights b.letter ≡ weight)) births
  pub every : (b : Birth) → IsBirth weights es level b → letter_weight weights b.letter ≡ weight → Contains births b

pub products_are : (weights : List ℕ) (es : List Entry) (level weight from to : ℕ) → IsWeightedBook weights es → weight ≤ level → IsReachRange es (level - weight) from to
    → AreOfWeight weights es level weight (all_births from (to - from) (letters_weighing weights weight))
products_are weights es level weight from to book le range = record {
  rising = births_rise weights es (level - weight) (letters_weighing weights weight) from (to - from) book (letters_rise weights weight)
      (λ p first last. (omega (arith, last, range.bound), weight_here p first (omega (arith, first, last))));
  only = all_flat (λ b. IsBirth weights es level b × (letter_weight weights b.letter ≡ weight)) (letters_weighing weights weight) from (to - from)
      (λ p first last. All-map (λ b. IsBirth weights es level b × (letter_weight weights b.letter ≡ weight)) (λ x. record { parent = p; letter = x }) (letters_weighing weights weight)
      (λ k d lt. let letter = letters_weigh weights weight k d lt in
      let x : ℕ = get_or (letters_weighing weights weight) k d in
      (record { parent = omega (arith, last, range.bound); letter = letter.0; reaches = omega (arith, weight_times weights (word_in es p) x, letter.1, weight_here p first (omega (arith, first, last)), le) }, letter.1)));
  every = λ b is weighs.
      let entry : Entry = element es b.parent is.parent in
      let reach : (get_or es b.parent entry).reach ≡ level - weight =
      omega (arith, reach_at weights es b.parent entry book is.parent, is.reaches, weight_times weights (word_in es b.parent) b.letter, weighs) in
      let first = not_below b.parent entry is.parent reach (cases_lt b.parent from) in
      let last = not_above b.parent entry is.parent reach (cases_lt b.parent to) in
      contains_birth (letters_weighing weights weight) from (to - from) b.parent b.letter first (omega (arith, last, first))
      (contains_letter weights weight b.letter is.letter weighs);
}
  where
    weight_here : (p : ℕ) → from ≤ p → p < to → word_weight weights (word_in es p) ≡ level - weight
    weight_here p first last =
        let within : p < length es = omega (arith, last, range.bound) in
        let entry : Entry = element es p within in
        sym (reach_at weights es p entry book within) ∙ range.here p entry first last

    not_below : (p : ℕ) (entry : Entry) → p < length es → (get_or es p entry).reach ≡ level - weight → (p < from) ⊎ (from ≤ p) → from ≤ p
    not_below p entry within is (inl less) = absurd (omega (arith, is, range.below p entry (omega arith) less))
    not_below p entry within is (inr le) = le

    not_above : (p : ℕ) (entry : Entry) → p < length es → (get_or es p entry).reach ≡ level - weight → (p < to) ⊎ (to ≤ p) → p < to
    not_above p entry within is (inl less) = less
    not_above p entry within is (inr le) = absurd (omega (arith, is, range.above p entry le within))

-- the loop over weights

pub births_start : (weights : List ℕ) (es : List Entry) (level : ℕ) (births : List Birth) → IsWeightedBook weights es → births ≡ [] → AreBirths weights es level 1 births
births_start weights es level births book none =
    subst (AreBirths weights es level 1) (sym none) (record {
      rising = λ i j d lt within. absurd (omega (arith, within));
      only = λ k d lt. absurd (omega (arith, lt));
      every = λ b is less. absurd (omega (arith, less, positive_letter weights b.letter book.positive));
    })

pub births_skip : (weights : List ℕ) (es : List Entry) (level weight : ℕ) (births : List Birth) → level < weight → AreBirths weights es level weight births → AreBirths weights es level (weight + 1) births
births_skip weights es level weight births lt are = record {
  rising = are.rising;
  only = λ k d within. let b = are.only k d within in (b.0, omega (arith, b.1));
  every = λ b is less. are.every b is (omega (arith, is.reaches, weight_times weights (word_in es b.parent) b.letter, lt));
}

pub births_next : (weights : List ℕ) (es : List Entry) (level weight : ℕ) (births products merged : List Birth) → AreBirths weights es level weight births → AreOfWeight weights es level weight products → Merges es births products merged
    → AreBirths weights es level (weight + 1) merged
births_next weights es level weight births products merged are new merges = record {
  rising = merged_rises es births products merged merges are.rising new.rising;
  only = all_merged es (λ b. IsBirth weights es level b × (letter_weight weights b.letter < weight + 1)) births products merged merges
      (λ k d lt. let b = are.only k d lt in (b.0, omega (arith, b.1)))
      (λ k d lt. let b = new.only k d lt in (b.0, omega (arith, b.1)));
  every = λ b is less. merged_has es births products merged b merges
      (elim (cases_lt (letter_weight weights b.letter) weight) [
        | inl lighter ↦ inl (are.every b is lighter)
        | inr le ↦ inr (new.every b is (omega (arith, le, less)))
      ]);
}

pub births_comparable : (weights : List ℕ) (es : List Entry) (level weight : ℕ) (births products : List Birth) (a b : Birth) → IsWeightedBook weights es → AreBirths weights es level weight births → AreOfWeight weights es level weight products
    → Contains births a → Contains products b → CanCompare es a b
births_comparable weights es level weight births products a b book are new first second =
    let left = All-contains (λ b. IsBirth weights es level b × (letter_weight weights b.letter < weight)) births a are.only first in
    let right = All-contains (λ b. IsBirth weights es level b × (letter_weight weights b.letter ≡ weight)) products b new.only second in
    comparable weights es level a b book left.0 right.0 (omega (arith, left.1, right.1))
