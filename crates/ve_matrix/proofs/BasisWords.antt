-- The words that the origins of a basis spell.
use Rattle.std.proofs.Common.{◌≡◌, ℕ, zero, suc, ◌+◌, ◌<◌, List, [], ◌∷◌, ◌++◌, length, get_or, Some, slice_get, slice_index_or, refl, sym, ap, ◌∙◌, subst, arith, length-append}
use Rattle.std.proofs.Math.ListN.{get_or-append}
use Rattle.std.proofs.lemmas.List.{get_or_push}
use Rattle.ve_theory.specs.Words.{Word, generator, times}
use Rattle.ve_table.specs.declared.origin.Origin.{Origin}
use Rattle.ve_table.specs.declared.origin.Origin.TheVariants.{Root, Child}
use Rattle.ve_table.specs.Books.{spelled, words_after, words_of}
use Rattle.ve_table.specs.Numbers.{HasParentBelow}
use Rattle.ve_matrix.specs.Answers.{NameEarlierPlaces}
use Rattle.ve_matrix.specs.BasisWords.{behind}

pub behind-push : (w : Word) (u : List ℕ) (x : ℕ) → behind w (u ++ x ∷ []) ≡ behind (times w x) u
unfolding behind
behind-push w [] x = refl
behind-push w (y ∷ u) x = ap (λ v. times v y) (behind-push w u x)

pub behind-none : (w : Word) → behind w [] ≡ w
unfolding behind
behind-none w = refl

pub length-words_after : (known : List Word) (os : List Origin) → length (words_after known os) ≡ length known + length os
unfolding words_after
length-words_after known [] = omega arith
length-words_after known (o ∷ os) = omega (arith, length-words_after (known ++ spelled known o ∷ []) os, length-append known (spelled known o ∷ []))

-- words known so far stay
known_stays : (known : List Word) (os : List Origin) (b : ℕ) (d : Word) → b < length known → get_or (words_after known os) b d ≡ get_or known b d
unfolding words_after
known_stays known [] b d within = refl
known_stays known (o ∷ os) b d within =
    known_stays (known ++ spelled known o ∷ []) os b d (omega (arith, length-append known (spelled known o ∷ []))) ∙ get_or-append known (spelled known o ∷ []) d b within

spelled_stays : (known : List Word) (os : List Origin) (o : Origin) → HasParentBelow (length known) o → spelled known o ≡ spelled (words_after known os) o
unfolding spelled
spelled_stays known os (Root i) below = refl
spelled_stays known os (Child parent letter) below = ap (λ w. times w letter) (sym (known_stays known os parent (generator 0) below))

-- a word that is spelled by a known one is there with all further words
next_stays : (known : List Word) (os : List Origin) (o : Origin) → HasParentBelow (length known) o
    → get_or (words_after known (o ∷ os)) (length known) (generator 0) ≡ spelled (words_after known (o ∷ os)) o
unfolding words_after
next_stays known os o below =
    let next : List Word = known ++ spelled known o ∷ [] in
    known_stays next os (length known) (generator 0) (omega (arith, length-append known (spelled known o ∷ [])))
    ∙ (get_or_push known (spelled known o) (generator 0) (length known) refl ∙ spelled_stays known (o ∷ os) o below)

spelled_at : (known : List Word) (os : List Origin) (b n : ℕ) (o : Origin) → length known + b ≡ n → slice_get os b ≡ Some o → HasParentBelow n o
    → get_or (words_after known os) n (generator 0) ≡ spelled (words_after known os) o
unfolding words_after
spelled_at known [] b n o place found below = absurd cc
spelled_at known (p ∷ os) zero n o place found below =
    let same : p ≡ o = cc in
    let here : length known ≡ n = omega arith in
    let P : ℕ → Origin → Type 0 = λ m q. get_or (words_after known (p ∷ os)) m (generator 0) ≡ spelled (words_after known (p ∷ os)) q in
    subst (λ m. P m o) here (subst (P (length known)) same (next_stays known os p (subst (λ q. HasParentBelow (length known) q) (sym same) (subst (λ m. HasParentBelow m o) (sym here) below))))
spelled_at known (p ∷ os) (suc b) n o place found below =
    spelled_at (known ++ spelled known p ∷ []) os b n o (omega (arith, length-append known (spelled known p ∷ []))) found below

-- the word of a place, by its origin
pub word_of_origin : (os : List Origin) (b : ℕ) (o : Origin) → slice_get os b ≡ Some o → HasParentBelow b o → slice_index_or (words_of os) b (generator 0) ≡ spelled (words_of os) o
word_of_origin os b o found below = spelled_at [] os b b o (omega arith) found below

pub root_word : (os : List Origin) (b i : ℕ) → NameEarlierPlaces os → slice_get os b ≡ Some (Root i) → slice_index_or (words_of os) b (generator 0) ≡ generator i
unfolding spelled
root_word os b i earlier found = word_of_origin os b (Root i) found (earlier b (Root i) found)

pub child_word : (os : List Origin) (b parent x : ℕ) → NameEarlierPlaces os → slice_get os b ≡ Some (Child parent x)
    → slice_index_or (words_of os) b (generator 0) ≡ times (slice_index_or (words_of os) parent (generator 0)) x
unfolding spelled
child_word os b parent x earlier found = word_of_origin os b (Child parent x) found (earlier b (Child parent x) found)

pub length-words_of : (os : List Origin) → length (words_of os) ≡ length os
length-words_of os = omega (arith, length-words_after [] os)
