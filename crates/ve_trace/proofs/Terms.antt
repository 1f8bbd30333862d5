-- Sums over the terms of an element, as they are added up.
use Rattle.std.proofs.Common.{◌≡◌, ℕ, ◌+◌, ◌<◌, ◌≤◌, nat_eq, List, [], ◌∷◌, ◌++◌, length, take, slice_index_or, refl, sym, ap, ap₂, ◌∙◌, subst}
use Rattle.std.proofs.lemmas.List.{take_more, take_all, append-nil, get_or_past}
use Rattle.ve_theory.specs.Combinations.{Combination, scaled, extended, IsReduced, IsReducedOf}
use Rattle.ve_theory.specs.Words.{Word, start, letters}
use Rattle.ve_theory.proofs.Sums.{extended-append, SameWeights-append, SameWeights-refl}
use Rattle.ve_vec.specs.Tracing.{PartialTable, vector_times_letters, vector_of_word}
use Rattle.ve_trace.proofs.Adding.{added, itself, onto, weights_of}

-- any kind of words
module _ {K : Type 0} (p : ℕ) (f : K → Combination ℕ) (r : Combination K) where
  -- the sum over the first terms
  abbrev pub IsSumTo : ℕ → Combination ℕ → Type 0
  IsSumTo at s = IsReducedOf ◌<◌ nat_eq p s (extended f (take at r))

  pub no_terms : (s : Combination ℕ) → s ≡ [] → IsReduced ◌<◌ p s → IsSumTo 0 s
  unfolding extended
  no_terms s none reduced =
      let Q : Combination ℕ → Type 0 = λ w. IsReducedOf ◌<◌ nat_eq p s w in
      subst Q none (itself reduced)

  next_term : (at : ℕ) (d : K × ℕ) → at < length r → extended f (take (at + 1) r) ≡ extended f (take at r) ++ scaled (slice_index_or r at d).1 (f (slice_index_or r at d).0)
  unfolding extended
  next_term at d within =
      ap (extended f) (take_more r at d within)
      ∙ (extended-append f (take at r) (slice_index_or r at d ∷ [])
      ∙ ap (λ w. extended f (take at r) ++ w) (append-nil (scaled (slice_index_or r at d).1 (f (slice_index_or r at d).0))))

  pub one_more_term : (at c : ℕ) (d : K × ℕ) (k : K) (s v u : Combination ℕ) → at < length r → k ≡ (slice_index_or r at d).0 → c ≡ (slice_index_or r at d).1
      → IsSumTo at s → IsReducedOf ◌<◌ nat_eq p v (f k) → IsReducedOf ◌<◌ nat_eq p u (s ++ scaled c v) → IsSumTo (at + 1) u
  one_more_term at c d k s v u within key coef sum vector result =
      let P : Combination ℕ → Type 0 = λ w. IsReducedOf ◌<◌ nat_eq p u w in
      let next : extended f (take (at + 1) r) ≡ extended f (take at r) ++ scaled c (f k) =
      next_term at d within ∙ ap₂ (λ n j. extended f (take at r) ++ scaled n (f j)) (sym coef) (sym key) in
      subst P (sym next) (added c sum vector result)

  -- the product is added at once
  pub one_more_product : (at c : ℕ) (d : K × ℕ) (k : K) (s u : Combination ℕ) → at < length r → k ≡ (slice_index_or r at d).0 → c ≡ (slice_index_or r at d).1
      → IsSumTo at s → IsReducedOf ◌<◌ nat_eq p u (s ++ scaled c (f k)) → IsSumTo (at + 1) u
  one_more_product at c d k s u within key coef sum result =
      let P : Combination ℕ → Type 0 = λ w. IsReducedOf ◌<◌ nat_eq p u w in
      let next : extended f (take (at + 1) r) ≡ extended f (take at r) ++ scaled c (f k) =
      next_term at d within ∙ ap₂ (λ n j. extended f (take at r) ++ scaled n (f j)) (sym coef) (sym key) in
      subst P (sym next) (onto result (SameWeights-append (weights_of sum) (SameWeights-refl p (scaled c (f k)))))

  -- a term that counts nothing
  pub passed_term : (at : ℕ) (d : K × ℕ) (s : Combination ℕ) → at < length r → f (slice_index_or r at d).0 ≡ [] → IsSumTo at s → IsSumTo (at + 1) s
  unfolding scaled
  passed_term at d s within nothing sum =
      let P : Combination ℕ → Type 0 = λ w. IsReducedOf ◌<◌ nat_eq p s w in
      let next : extended f (take (at + 1) r) ≡ extended f (take at r) =
      next_term at d within ∙ (ap (λ w. extended f (take at r) ++ scaled (slice_index_or r at d).1 w) nothing ∙ append-nil (extended f (take at r))) in
      subst P (sym next) sum

  pub all_terms : (at : ℕ) (s : Combination ℕ) → length r ≤ at → IsSumTo at s → IsReducedOf ◌<◌ nat_eq p s (extended f r)
  all_terms at s all sum =
      let P : Combination K → Type 0 = λ w. IsReducedOf ◌<◌ nat_eq p s (extended f w) in
      subst P (take_all at r all) sum

-- the vectors of words

pub nothing_times : (rows : PartialTable) (u : List ℕ) → vector_times_letters rows [] u ≡ []
unfolding vector_times_letters extended
nothing_times rows [] = refl
nothing_times rows (x ∷ u) = nothing_times rows u

pub no_vector : (rows : PartialTable) (images : List (Combination ℕ)) (w : Word) (n : ℕ) → n ≡ start w → length images ≤ n → vector_of_word rows images w ≡ []
no_vector rows images w n root past =
    ap (λ v. vector_times_letters rows v (letters w)) (ap (λ i. slice_index_or images i []) (sym root) ∙ get_or_past images n [] past) ∙ nothing_times rows (letters w)

pub image_traced : (p : ℕ) (rows : PartialTable) (images : List (Combination ℕ)) (w : Word) (n : ℕ) (u : List ℕ) (image v : Combination ℕ) → n ≡ start w → u ≡ letters w → image ≡ slice_index_or images n []
    → IsReducedOf ◌<◌ nat_eq p v (vector_times_letters rows image u) → IsReducedOf ◌<◌ nat_eq p v (vector_of_word rows images w)
image_traced p rows images w n u image v root spelled is traced =
    let P : Combination ℕ → Type 0 = λ e. IsReducedOf ◌<◌ nat_eq p v e in
    subst P (ap₂ (vector_times_letters rows) (is ∙ ap (λ i. slice_index_or images i []) root) spelled) traced
