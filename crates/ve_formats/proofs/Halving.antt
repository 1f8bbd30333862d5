-- The half of a value is a value, and its own half.
use Rattle.std.proofs.Common.{◌≡◌, ℕ, ◌+◌, ◌-◌, ◌<◌, ◌≤◌, ◌⊎◌, inl, inr, List, [], ◌∷◌, ◌++◌, length, take, drop, All, Option, Some, None, refl, sym, subst, ap, ◌∙◌, length-append, arith}
use Rattle.std.specs.Prelude.{slice_get}
use Rattle.std.proofs.lemmas.List.{length-take-le, length-drop}
use Rattle.std.proofs.lemmas.List.Elements.{All-nil, All-cons, All-head, All-tail, All-append, All-push, All-take}
use Rattle.ve_theory.specs.Combinations.{AllBefore, IsReduced}
use Rattle.ve_theory.specs.Words.{ShortlexLetters}
use Rattle.ve_theory.specs.Elements.{AlgebraElement, IsAlgebraElementOf, inverse_of_letters, halved}
use Rattle.ve_theory.specs.Presentations.{Presentation, letter_count}
use Rattle.ve_theory.specs.Laws.{ReducedListsAreUnique}
use Rattle.ve_lemmas.proofs.Halves.{inverted, own_half, kept_letters}
use Rattle.ve_formats.specs.Values.{IsReadable, IsAlgebraValue}
use Rattle.ve_formats.proofs.ElementSums.{prime_positive}
use Rattle.ve_formats.proofs.KeptTerms.{letters_kept, terms_kept}
use Rattle.ve_formats.proofs.ValueElements.{IsShort, collected_value, keys_of}

-- the inverse of letters

module _ (n : ℕ) (inverses : List (Option ℕ)) (below : (x y : ℕ) → slice_get inverses x ≡ Some (Some y) → y < n) where
  inverse_letters : (u inverse : List ℕ) → inverse_of_letters inverses u ≡ Some inverse → (length inverse ≡ length u) × All (λ y. y < n) inverse
  unfolding inverse_of_letters
  inverse_letters [] inverse e = let none : [] ≡ inverse = (cc) in (ap length (sym none), subst (λ v. All (λ y. y < n) v) none (All-nil (λ y. y < n)))
  inverse_letters (x ∷ u) inverse e =
      let i = inverted inverses x u inverse e in
      let later = inverse_letters u i.v i.rest in
      let long : length (i.v ++ i.y ∷ []) ≡ length i.v + 1 = length-append i.v (i.y ∷ []) in
      (ap length i.whole ∙ omega (arith, long, later.0), subst (λ v. All (λ y. y < n) v) (sym i.whole) (All-push (λ y. y < n) i.v i.y later.1 (below x i.y i.letter)))

-- an element is its own half, or is cut

record IsCut (inverses : List (Option ℕ)) (v : AlgebraElement) : Type 0 where
  first : List ℕ × ℕ
  second : List ℕ × ℕ
  are : v ≡ first ∷ second ∷ []
  inverse : List ℕ
  is_inverse : inverse_of_letters inverses (drop (kept_letters first.0 second.0) first.0) ≡ Some inverse
  half : halved inverses v ≡ (take (kept_letters first.0 second.0) first.0, first.1) ∷ (second.0 ++ inverse, second.1) ∷ []

half_cases : (inverses : List (Option ℕ)) (v : AlgebraElement) → (halved inverses v ≡ v) ⊎ IsCut inverses v
unfolding halved
half_cases inverses [] = inl refl
half_cases inverses (s ∷ []) = inl refl
half_cases inverses (s ∷ t ∷ r ∷ v) = inl refl
half_cases inverses (s ∷ t ∷ []) = by_inverse (inverse_of_letters inverses (drop (kept_letters s.0 t.0) s.0)) refl
  where
    by_inverse : (o : Option (List ℕ)) → inverse_of_letters inverses (drop (kept_letters s.0 t.0) s.0) ≡ o → (halved inverses (s ∷ t ∷ []) ≡ s ∷ t ∷ []) ⊎ IsCut inverses (s ∷ t ∷ [])
    by_inverse None e = inl (rw e refl)
    by_inverse (Some inverse) e = inr (record { first = s; second = t; are = refl; inverse = inverse; is_inverse = e; half = rw e refl })

shorter_second : (p : ℕ) (s t : List ℕ × ℕ) → IsReduced ShortlexLetters p (s ∷ t ∷ []) → length t.0 ≤ length s.0
unfolding IsReduced AllBefore ShortlexLetters
shorter_second p s t h = by_order h.2.0
  where
    by_order : ShortlexLetters t.0 s.0 → length t.0 ≤ length s.0
    by_order (inl less) = omega arith
    by_order (inr same) = omega (arith, same.0)

module _ (unique : ReducedListsAreUnique) (P : Presentation) (readable : IsReadable P) where
  cut_value : {v r : AlgebraElement} → IsAlgebraValue P v → IsAlgebraElementOf P.prime r (halved P.inverses v) → IsCut P.inverses v → IsAlgebraValue P r × IsAlgebraElementOf P.prime r (halved P.inverses r)
  cut_value {v} {r} h is c =
      let s = c.first in
      let t = c.second in
      let n : ℕ = kept_letters s.0 t.0 in
      let half : AlgebraElement = (take n s.0, s.1) ∷ (t.0 ++ c.inverse, t.1) ∷ [] in
      let of_half : IsAlgebraElementOf P.prime r half = subst (λ e. IsAlgebraElementOf P.prime r e) c.half is in
      let keys : All (λ q. IsShort P q.0) (s ∷ t ∷ []) = subst (λ (u : AlgebraElement). All (λ q. IsShort P q.0) u) c.are (keys_of unique P readable h) in
      let first : IsShort P s.0 = All-head (λ (q : List ℕ × ℕ). IsShort P q.0) s (t ∷ []) keys in
      let second : IsShort P t.0 = All-head (λ (q : List ℕ × ℕ). IsShort P q.0) t [] (All-tail (λ (q : List ℕ × ℕ). IsShort P q.0) s (t ∷ []) keys) in
      let order : length t.0 ≤ length s.0 = shorter_second P.prime s t (subst (λ (u : AlgebraElement). IsReduced ShortlexLetters P.prime u) c.are h.reduced) in
      let inverse = inverse_letters (letter_count P) P.inverses readable.inverses (drop n s.0) c.inverse c.is_inverse in
      let cut : length (drop n s.0) ≡ length s.0 - n = length-drop n s.0 in
      let front : length (take n s.0) ≡ n = length-take-le n s.0 (omega arith) in
      let back : length (t.0 ++ c.inverse) ≡ length t.0 + length c.inverse = length-append t.0 c.inverse in
      let low : ℕ = length t.0 + length c.inverse in
      let Near : List ℕ → Type 0 = λ u. (low ≤ length u) × (length u ≤ low + 1) in
      let near : All (λ q. Near q.0) half =
      All-cons (λ (q : List ℕ × ℕ). Near q.0) (take n s.0, s.1) ((t.0 ++ c.inverse, t.1) ∷ []) (omega (arith, front, inverse.0, cut, order), omega (arith, front, inverse.0, cut, order))
      (All-cons (λ (q : List ℕ × ℕ). Near q.0) (t.0 ++ c.inverse, t.1) [] (omega (arith, back), omega (arith, back)) (All-nil (λ (q : List ℕ × ℕ). Near q.0))) in
      let short : All (λ q. IsShort P q.0) half =
      All-cons (λ (q : List ℕ × ℕ). IsShort P q.0) (take n s.0, s.1) ((t.0 ++ c.inverse, t.1) ∷ [])
      (All-take (λ y. y < letter_count P) n s.0 first.0, omega (arith, front, first.1))
      (All-cons (λ (q : List ℕ × ℕ). IsShort P q.0) (t.0 ++ c.inverse, t.1) []
      (All-append (λ y. y < letter_count P) t.0 c.inverse second.0 inverse.1, omega (arith, back, inverse.0, cut, order, first.1, second.1)) (All-nil (λ (q : List ℕ × ℕ). IsShort P q.0))) in
      let some : 0 < P.prime = prime_positive P.prime readable.field in
      let few : length r ≤ 2 = terms_kept unique P.prime some Near of_half in
      let same : halved P.inverses r ≡ r = own_half P.inverses low r few (letters_kept unique P.prime some Near of_half near) in
      (collected_value unique P readable of_half short (omega arith), subst (λ e. IsAlgebraElementOf P.prime r e) (sym same) (record { reduced = is.reduced; alike = λ k. refl }))

  pub half_value : {v r : AlgebraElement} → IsAlgebraValue P v → IsAlgebraElementOf P.prime r (halved P.inverses v) → IsAlgebraValue P r × IsAlgebraElementOf P.prime r (halved P.inverses r)
  half_value {v} {r} h is = by_half (half_cases P.inverses v)
    where
      by_half : (halved P.inverses v ≡ v) ⊎ IsCut P.inverses v → IsAlgebraValue P r × IsAlgebraElementOf P.prime r (halved P.inverses r)
      by_half (inl same) =
          let whole : IsAlgebraElementOf P.prime r v = subst (λ e. IsAlgebraElementOf P.prime r e) same is in
          let equal : v ≡ r = sym (unique.algebra P.prime r v is.reduced h.reduced whole.alike) in
          (subst (λ (u : AlgebraElement). IsAlgebraValue P u) equal h, subst (λ (u : AlgebraElement). IsAlgebraElementOf P.prime r (halved P.inverses u)) equal is)
      by_half (inr cut) = cut_value h is cut
