-- The words of origins, read from their last letters.
use Rattle.std.specs.Prelude.{◌≡◌, ℕ, zero, suc, ◌+◌, ◌<◌, ◌≤◌, List, [], ◌∷◌, ◌++◌, length, refl, Some, slice_get, reverse}
use Rattle.std.proofs.Common.{sym, ap, subst, ◌∙◌, append_assoc, arith, get_or}
use Rattle.std.proofs.lemmas.List.{get_or_append_left, get_or-append-add, length_push, reverse-append}
use Rattle.ve_theory.specs.Words.{Word, generator, times, times_all}
use Rattle.ve_table.specs.declared.origin.Origin.{Origin}
use Rattle.ve_table.specs.declared.origin.Origin.TheVariants.{Root, Child}
use Rattle.ve_table.specs.Books.{spelled, words_after, words_of}
use Rattle.ve_table.specs.Numbers.{HasParentBelow}
use Rattle.ve_matrix.specs.Answers.{NameEarlierPlaces}
use Rattle.ve_matrix.proofs.BasisWords.{word_of_origin}

-- the word of a place
abbrev pub word_of : List Origin → ℕ → Word
word_of os b = get_or (words_of os) b (generator 0)

pub word_of-root : (os : List Origin) (b i : ℕ) → slice_get os b ≡ Some (Root i) → word_of os b ≡ generator i
unfolding spelled
word_of-root os b i found = word_of_origin os b (Root i) found tt

pub word_of-child : (os : List Origin) (b parent x : ℕ) → NameEarlierPlaces os → slice_get os b ≡ Some (Child parent x) → (parent < b) × (word_of os b ≡ times (word_of os parent) x)
unfolding spelled
word_of-child os b parent x earlier found =
    let below : parent < b = earlier b (Child parent x) found in
    (below, word_of_origin os b (Child parent x) found below)

-- ---- climbing

-- the letters from the last one to that behind the word of `at`
pub record IsClimbed (os : List Origin) (place at : ℕ) (letters : List ℕ) : Type 0 where
  pub inside : at < length os
  pub word : times_all (word_of os at) (reverse letters) ≡ word_of os place

pub climbed_nothing : (os : List Origin) (place : ℕ) (letters : List ℕ) → place < length os → letters ≡ [] → IsClimbed os place place letters
unfolding times_all
climbed_nothing os place letters inside is = record { inside = inside; word = ap (λ u. times_all (word_of os place) (reverse u)) is }

reverse_push : (u : List ℕ) (x : ℕ) → reverse (u ++ x ∷ []) ≡ x ∷ reverse u
reverse_push u x = reverse-append u (x ∷ [])

times_all-cons : (w : Word) (x : ℕ) (u : List ℕ) → times_all w (x ∷ u) ≡ times_all (times w x) u
unfolding times_all
times_all-cons w x u = refl

pub climbed_letter : (os : List Origin) (place at parent x : ℕ) (letters longer : List ℕ) → NameEarlierPlaces os → IsClimbed os place at letters → slice_get os at ≡ Some (Child parent x) → longer ≡ letters ++ x ∷ []
    → (parent < at) × IsClimbed os place parent longer
climbed_letter os place at parent x letters longer earlier climbed found is =
    let step = word_of-child os at parent x earlier found in (
      step.0,
      record {
        inside = omega (arith, step.0, climbed.inside);
        word = ap (λ u. times_all (word_of os parent) (reverse u)) is ∙ ap (times_all (word_of os parent)) (reverse_push letters x)
            ∙ times_all-cons (word_of os parent) x (reverse letters) ∙ ap (λ w. times_all w (reverse letters)) (sym step.1) ∙ climbed.word;
      },
    )

pub climbed_all : (os : List Origin) (place at i : ℕ) (letters : List ℕ) → IsClimbed os place at letters → slice_get os at ≡ Some (Root i) → times_all (generator i) (reverse letters) ≡ word_of os place
climbed_all os place at i letters climbed found = ap (λ w. times_all w (reverse letters)) (sym (word_of-root os at i found)) ∙ climbed.word

-- ---- and down again

pub letter_pushed : (w v : Word) (x : ℕ) (letters fewer : List ℕ) (whole : Word) → letters ≡ fewer ++ x ∷ [] → v ≡ times w x → times_all w (reverse letters) ≡ whole → times_all v (reverse fewer) ≡ whole
letter_pushed w v x letters fewer whole is pushed all =
    ap (λ z. times_all z (reverse fewer)) pushed ∙ sym (times_all-cons w x (reverse fewer)) ∙ ap (times_all w) (sym (reverse_push fewer x) ∙ ap reverse (sym is)) ∙ all

pub all_pushed : (w : Word) (letters : List ℕ) (whole : Word) → letters ≡ [] → times_all w (reverse letters) ≡ whole → w ≡ whole
unfolding times_all
all_pushed w letters whole none all = ap (λ u. times_all w (reverse u)) (sym none) ∙ all
